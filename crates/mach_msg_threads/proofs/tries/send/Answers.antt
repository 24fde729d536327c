use Rattle.std.proofs.Common.{rules, ◌≡◌, true, false, Bool, refl, subst, inr, ℕ, List}
use Rattle.std.specs.Prelude.{None}
use Rattle.mach_types.specs.declared.calls.Event.{Event}
use Rattle.kernel_lock.specs.History.{Known, Called}
use Rattle.mach_msg_threads.specs.Gates.{Asked}
use Rattle.mach_msg_threads.specs.Tries.{IsFull, none, more, Sends, SendPart}
use Rattle.mach_msg_threads.specs.ByGate.{ToldTry, next, none as unpaused}
use Rattle.mach_msg_threads.proofs.Pausing.{paused, wanting as wanting_by}
use Rattle.mach_msg_threads.proofs.tries.send.Goals as goal
use Rattle.mach_msg_threads.proofs.tries.send.Goals.{then-not-sending-2, else-not-sending-2}

wanting : (task : ℕ) (wanted once : Bool) (bytes : List ℕ) (v : Known) (code : ℕ) (w : Known) → wanted ≡ true → Sends task bytes once v code w → SendPart task wanted once bytes v code w
wanting task true once bytes v code w e s = s
wanting task false once bytes v code w e s = absurd (cc)

pub loop-init : goal.loop-init
loop-init g c = (search rules, none c.args.pass.now, λ once. refl, unpaused c.args.pass.now c.args.gate.now)

pub returns-then-not-again-clause-sends : goal.returns-then-not-again-clause-sends
returns-then-not-again-clause-sends g c = wanting _ _ _ _ _ _ _ (search rules) record {
  before = c.loop.pass;
  full = c.loop.invariant.1;
  single = c.loop.invariant.2;
  last = inr (c.attempt-reply.result, subst (λ (e : Event). Called c.loop.pass c.attempt-reply.new.pass e c.attempt-reply.result) c.in-Ok.ensures c.attempt-reply.ensures.call, search rules);
}

pub returns-then-not-again-clause-by_gate : goal.returns-then-not-again-clause-by_gate
returns-then-not-again-clause-by_gate g c = wanting_by _ _ _ _ _ _ _ _ _ _ (search rules) record {
  turn = c.loop.turn;
  before = c.loop.pass;
  asked = c.loop.gate;
  full = c.loop.invariant.3;
  last = inr (
    c.attempt-reply.result,
    search rules,
    record {
      told = c.attempt-reply.new.gate;
      tried = subst (λ (e : Event). ToldTry g.G.Gate.passes e c.loop.pass c.loop.gate c.attempt-reply.result c.attempt-reply.new.pass c.attempt-reply.new.gate) c.in-Ok.ensures c.attempt-reply.ensures.told;
      unasked = unasked;
      refused = refused;
    },
  );
}
  where
    unasked : (IsFull c.attempt-reply.result → c.args.sending.once ≡ true) → c.if-not-sending-2.gate ≡ c.attempt-reply.new.gate
    unasked single = elim c.if-not-sending-2.branch [ then-not-sending-2 w ↦ search rules | else-not-sending-2 w ↦ search rules ]

    refused : IsFull c.attempt-reply.result → c.args.sending.once ≡ false → g.G.Gate.passes c.attempt-reply.new.gate (Asked (next c.loop.turn) None false) c.if-not-sending-2.gate
    refused full many = elim c.if-not-sending-2.branch [ then-not-sending-2 w ↦ search rules | else-not-sending-2 w ↦ search rules ]

pub loop-preserved : goal.loop-preserved
loop-preserved g c = (
  c.attempt-reply.ensures.tied,
  more c.args.pass.now c.loop.pass c.attempt-reply.new.pass c.attempt-reply.result c.loop.invariant.1 full
      (subst (λ (e : Event). Called c.loop.pass c.attempt-reply.new.pass e c.attempt-reply.result) c.in-Ok.ensures c.attempt-reply.ensures.call),
  λ once. absurd (rejected once),
  paused _ _ _ _ _ _ c.loop.turn c.saturating_add-turn.result c.args.pass.now c.loop.pass c.attempt-reply.new.pass c.args.gate.now c.loop.gate c.attempt-reply.new.gate c.if-not-sending-2.gate c.attempt-reply.result
      c.saturating_add-turn.ensures c.loop.invariant.3 tried full many asked,
)
  where
    full : IsFull c.attempt-reply.result
    full = search rules

    rejected : c.args.sending.once ≡ true → ⊥
    rejected once = search rules

    many : c.args.sending.once ≡ false
    many = elim c.if-not-sending-2.branch [ then-not-sending-2 w ↦ search rules | else-not-sending-2 w ↦ search rules ]

    tried : ToldTry g.G.Gate.passes (Event.Send c.args.sending.task c.args.bytes.now) c.loop.pass c.loop.gate c.attempt-reply.result c.attempt-reply.new.pass c.attempt-reply.new.gate
    tried = subst (λ (e : Event). ToldTry g.G.Gate.passes e c.loop.pass c.loop.gate c.attempt-reply.result c.attempt-reply.new.pass c.attempt-reply.new.gate) c.in-Ok.ensures c.attempt-reply.ensures.told

    asked : g.G.Gate.passes c.attempt-reply.new.gate (Asked c.saturating_add-turn.result None true) c.if-not-sending-2.gate
    asked = elim c.if-not-sending-2.branch [ then-not-sending-2 w ↦ search rules | else-not-sending-2 w ↦ search rules ]
