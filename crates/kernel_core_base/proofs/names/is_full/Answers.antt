use Rattle.std.proofs.Common.{inl, inr, arith}
use Rattle.kernel_core_base.proofs.names.is_full.Goals as goal

pub returns-then-is_full-clause-full : goal.returns-then-is_full-clause-full
returns-then-is_full-clause-full c = λ _. record { space = c.space.result; there = c.space.ensures; full = inl (c.is_full.ensures.0 c.if-is_full.true) }

pub returns-else-is_full-clause-full : goal.returns-else-is_full-clause-full
returns-else-is_full-clause-full c = λ used. record { space = c.space.result; there = c.space.ensures; full = inr (c.is_used_up.ensures.full used) }

pub returns-else-is_full-clause-room : goal.returns-else-is_full-clause-room
returns-else-is_full-clause-room c = λ not. record {
  space = c.space.result;
  there = c.space.ensures;
  room = grind (arith, c.is_full.ensures, c.if-is_full.false);
  more = c.is_used_up.ensures.room not;
}
