use Rattle.std.proofs.Common.{rules, ◌≡◌, subst, refl, true, false}
use Rattle.std.specs.Prelude.{Some}
use Rattle.mach_types.specs.declared.calls.Event.{Event}
use Rattle.kernel_lock.specs.History.{Called}
use Rattle.mach_msg_threads.specs.Gates.{Asked}
use Rattle.mach_msg_threads.specs.Tries.{IsEmpty, none, more}
use Rattle.mach_msg_threads.specs.ByGate.{ToldTry, none as unpaused}
use Rattle.mach_msg_threads.proofs.Pausing.{paused}
use Rattle.mach_msg_threads.proofs.tries.receive_again.Goals as goal
use Rattle.mach_msg_threads.proofs.tries.receive_again.Goals.{then-is_some, else-is_some}

pub loop-init : goal.loop-init
loop-init g c = (search rules, none c.args.pass.now, unpaused c.args.pass.now c.args.gate.now)

pub returns-then-not-again-clause-tries : goal.returns-then-not-again-clause-tries
returns-then-not-again-clause-tries g c = record {
  before = c.loop.pass;
  empty = c.loop.invariant.1;
  last = subst (λ (e : Event). Called c.loop.pass c.attempt-reply.new.pass e c.attempt-reply.result) c.again-event.ensures c.attempt-reply.ensures.call;
}

pub loop-preserved : goal.loop-preserved
loop-preserved g c = (
  c.attempt-reply.ensures.tied,
  more c.args.pass.now c.loop.pass c.attempt-reply.new.pass c.attempt-reply.result c.loop.invariant.1 empty
      (subst (λ (e : Event). Called c.loop.pass c.attempt-reply.new.pass e c.attempt-reply.result) c.again-event.ensures c.attempt-reply.ensures.call),
  paused _ _ _ _ _ _ c.loop.turn c.saturating_add-turn.result c.args.pass.now c.loop.pass c.attempt-reply.new.pass c.args.gate.now c.loop.gate c.attempt-reply.new.gate c.if-is_some.gate c.attempt-reply.result
      c.saturating_add-turn.ensures c.loop.invariant.2 tried empty refl asked,
)
  where
    empty : IsEmpty c.attempt-reply.result
    empty = search rules

    tried : ToldTry g.G.Gate.passes (Event.ReceiveAgain c.args.receiving.now.task c.args.waited.now c.args.receiving.now.room c.args.receiving.now.large) c.loop.pass c.loop.gate c.attempt-reply.result c.attempt-reply.new.pass c.attempt-reply.new.gate
    tried = subst (λ (e : Event). ToldTry g.G.Gate.passes e c.loop.pass c.loop.gate c.attempt-reply.result c.attempt-reply.new.pass c.attempt-reply.new.gate) c.again-event.ensures c.attempt-reply.ensures.told

    asked : g.G.Gate.passes c.attempt-reply.new.gate (Asked c.saturating_add-turn.result (Some c.args.waited.now) true) c.if-is_some.gate
    asked = elim c.if-is_some.branch [ then-is_some w ↦ search rules | else-is_some w ↦ search rules ]
