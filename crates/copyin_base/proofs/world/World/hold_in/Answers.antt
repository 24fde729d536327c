use Rattle.port.specs.declared.Holder.TheVariants.{QueueOf}
use Rattle.copyin_base.proofs.Queueing.{with_holder, holder_keeps}
use Rattle.copyin_base.proofs.Written.{changed_given, changed_written}
use Rattle.copyin_base.proofs.Recounted.{ledger_of, still_counted}
use Rattle.copyin_base.proofs.world.World.hold_in.Goals as goal

pub invariant_of-self : goal.invariant_of-self
invariant_of-self c =
    let i = c.self.inside in
    let r = c.requires in (
      changed_given c.args.self.now i.spaces.items i.ports.bare (ledger_of i.ports.counts i.ledger) i.sets i.requests c.self.view_is c.args.port r.view (λ x. with_holder (QueueOf c.args.queue) x c.args.port r.view) (holder_keeps (QueueOf c.args.queue) c.args.port r.view) c.hold.new.self.bare r.there
          (c.hold.ensures.after r.view) c.self.invariant.0,
      still_counted c.hold.ensures.counts c.self.invariant.1,
    )

pub returns : goal.returns
returns c = λ v there.
    let i = c.self.inside in
    rw c.hold.ensures.counts (changed_written c.args.self.now i.spaces.items i.ports.bare (ledger_of i.ports.counts i.ledger) i.sets i.requests c.self.view_is c.args.port v (λ x. with_holder (QueueOf c.args.queue) x c.args.port v) (holder_keeps (QueueOf c.args.queue) c.args.port v) c.hold.new.self.bare there
    (c.hold.ensures.after v))
