use Rattle.std.proofs.Common.{subst, ap, sym, ◌∙◌}
use Rattle.port_base.specs.Ready.{IsMoved, at_end}
use Rattle.port_base.proofs.Moved.{moved_in, apart_of}
use Rattle.port_base.proofs.moves.join_two.Goals as goal

pub push-requires-clause-apart : goal.push-requires-clause-apart
push-requires-clause-apart c = apart_of c.args.lists.now c.args.key c.requires.apart

pub returns-in-Some-clause-moved : goal.returns-in-Some-clause-moved
returns-in-Some-clause-moved c = subst (λ o. IsMoved c.args.lists.now c.push.new.self c.args.key o) (sym c.in-Some.is) (moved_in c.args.lists.now c.push.new.self c.args.key c.in-Some.list c.requires.apart c.push.ensures)

pub returns-in-Some-clause-joined : goal.returns-in-Some-clause-joined
returns-in-Some-clause-joined c = c.push.ensures ∙ ap (at_end c.args.lists.now c.args.key) (sym c.in-Some.is)
