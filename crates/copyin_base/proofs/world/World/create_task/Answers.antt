use Rattle.std.proofs.Common.{◌≡◌, ◌++◌, ◌∷◌, [], List, Option, Some, sym, ap, subst, ◌∙◌, arith}
use Rattle.name_space.specs.Names.{SpaceView, first_given}
use Rattle.copyin_base.specs.Coming.{no_names}
use Rattle.copyin_base.specs.Reading.{AreGiven}
use Rattle.copyin_base.specs.Worlds.{WorldView}
use Rattle.copyin_base.proofs.Written.{tables, pushed_given, pushed_written}
use Rattle.copyin_base.proofs.Recounted.{ledger_of}
use Rattle.copyin_base.proofs.world.World.create_task.Goals as goal

pub invariant_of-self-2 : goal.invariant_of-self-2
invariant_of-self-2 c =
    let i = c.self.inside in (
      subst (λ (xs : List (Option SpaceView)). AreGiven xs i.ports.bare) (sym c.in_ok-push.ensures.items)
          (pushed_given c.args.self.now i.spaces.items i.ports.bare (ledger_of i.ports.counts i.ledger) i.sets i.requests c.self.view_is c.new-space.result c.new-space.ensures.names c.self.invariant.0),
      c.self.invariant.1,
    )

pub returns-clause-ok : goal.returns-clause-ok
returns-clause-ok c =
    let i = c.self.inside in
    let old : WorldView = c.args.self.now in
    let none : c.new-space.result ≡ no_names old.profile = (λ j. record { names = c.new-space.ensures.names j; room = c.new-space.ensures.room j; kept = c.new-space.ensures.kept j; given = (c.new-space.ensures.given ∙ ap first_given c.has_generations.ensures) j }) in
    let number = c.tasks_made.ensures in
    let few = c.requires in
    let told = c.new-task.ensures in (
      omega (arith, number, few, told),
      ap (λ xs. tables i.profile xs i.ports.bare (ledger_of i.ports.counts i.ledger) i.sets i.requests) c.in_ok-push.ensures.items
          ∙ pushed_written old i.spaces.items i.ports.bare (ledger_of i.ports.counts i.ledger) i.sets i.requests c.self.view_is c.new-space.result c.new-space.ensures.names
          ∙ ap (λ (x : SpaceView). record old { spaces = old.spaces ++ Some x ∷ [] }) none,
    )
