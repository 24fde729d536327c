use Rattle.std.proofs.Common.{Option, sym, ap, subst, ◌∙◌}
use Rattle.std.specs.Prelude.{slice_set}
use Rattle.name_space.specs.Names.{SpaceView}
use Rattle.copyin_base.specs.Reading.{AreGiven}
use Rattle.copyin_base.proofs.Written.{tables}
use Rattle.copyin_base.proofs.Removed.{given_closed, closed_written}
use Rattle.copyin_base.proofs.Recounted.{ledger_of}
use Rattle.copyin_base.proofs.world.World.take_space.Goals as goal

pub invariant_of-self : goal.invariant_of-self
invariant_of-self c = (
  subst (λ (o : Option SpaceView). AreGiven (slice_set c.self.inside.spaces.items c.number.result o) c.self.inside.ports.bare) (sym c.take.ensures.after)
      (given_closed c.self.inside.spaces.items c.self.inside.ports.bare c.self.invariant.0 c.number.result),
  c.self.invariant.1,
)

pub returns-clause-taken : goal.returns-clause-taken
returns-clause-taken c =
    ap (λ (o : Option SpaceView). tables c.self.inside.profile (slice_set c.self.inside.spaces.items c.number.result o) c.self.inside.ports.bare (ledger_of c.self.inside.ports.counts c.self.inside.ledger) c.self.inside.sets c.self.inside.requests) c.take.ensures.after
    ∙ closed_written c.args.self.now c.args.task c.self.inside.spaces.items c.self.inside.ports.bare (ledger_of c.self.inside.ports.counts c.self.inside.ledger) c.self.inside.sets c.self.inside.requests c.number.result c.self.view_is c.number.ensures
