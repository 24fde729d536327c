use Rattle.copyin_base.proofs.Told.{space_there}
use Rattle.copyin_base.proofs.Entering.{added_given, added, none_added}
use Rattle.copyin_base.proofs.Recounted.{ledger_of}
use Rattle.copyin_base.proofs.world.World.add_send.Goals as goal

pub invariant_of-self : goal.invariant_of-self
invariant_of-self c =
    let x = space_there c.args.self.now c.args.task c.requires.there in (
      added_given c.args.self.now c.args.task c.args.port x.0 c.self.inside.spaces.items c.self.inside.ports.bare (ledger_of c.self.inside.ports.counts c.self.inside.ledger) c.self.inside.sets c.self.inside.requests _ _ c.in-Some.space c.add_send.new.self x.1 c.self.view_is c.number.ensures c.index_mut.ensures.value c.in-Some.is c.requires.live
          c.self.invariant.0 c.add_send.result c.add_send.ensures.port c.add_send.ensures.after c.add_send.ensures.same,
      c.self.invariant.1,
    )

pub returns-clause-found : goal.returns-clause-found
returns-clause-found c =
    let x = space_there c.args.self.now c.args.task c.requires.there in
    added c.args.self.now c.args.task c.args.port x.0 c.self.inside.spaces.items c.self.inside.ports.bare (ledger_of c.self.inside.ports.counts c.self.inside.ledger) c.self.inside.sets c.self.inside.requests _ _ c.in-Some.space c.add_send.new.self x.1 c.self.view_is c.number.ensures c.index_mut.ensures.value c.in-Some.is c.requires.live
    c.add_send.result c.add_send.ensures.found c.add_send.ensures.port c.add_send.ensures.after

pub returns-clause-none : goal.returns-clause-none
returns-clause-none c =
    let x = space_there c.args.self.now c.args.task c.requires.there in
    none_added c.args.self.now c.args.task c.args.port x.0 c.self.inside.spaces.items c.self.inside.ports.bare (ledger_of c.self.inside.ports.counts c.self.inside.ledger) c.self.inside.sets c.self.inside.requests _ _ c.in-Some.space c.add_send.new.self x.1 c.self.view_is c.number.ensures c.index_mut.ensures.value c.in-Some.is c.add_send.result c.add_send.ensures.none
