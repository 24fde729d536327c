use Rattle.std.proofs.Common.{sym, Option, ap, ◌∙◌}
use Rattle.name_space.specs.Names.{SpaceView}
use Rattle.copyin_base.specs.Wanted.{kept_in}
use Rattle.copyin_base.specs.Worlds.{WorldView, entry_in, space_at}
use Rattle.copyin_base.proofs.Entering.{space_of, kept_used, kept_unused, kept_place, moved_given, moved_entry}
use Rattle.copyin_base.proofs.Recounted.{ledger_of}
use Rattle.copyin_base.proofs.world.World.move_entry.Goals as goal

pub rename-requires-clause-used : goal.rename-requires-clause-used
rename-requires-clause-used c =
    let w : WorldView = c.args.self.now in
    let s = space_of (space_at w c.args.task) c.args.from c.requires.may.0 c.requires.may.1.found in
    kept_used w c.args.task s.0 c.self.inside.spaces.items c.self.inside.ports.bare (ledger_of c.self.inside.ports.counts c.self.inside.ledger) c.self.inside.sets c.self.inside.requests _ _ c.in-Some.space s.1 c.self.view_is c.number.ensures c.index_mut.ensures.value c.in-Some.is
    c.args.from c.requires.may.0 s.2

pub rename-requires-clause-unused : goal.rename-requires-clause-unused
rename-requires-clause-unused c =
    let w : WorldView = c.args.self.now in
    let s = space_of (space_at w c.args.task) c.args.from c.requires.may.0 c.requires.may.1.found in
    kept_unused w c.args.task s.0 c.self.inside.spaces.items c.self.inside.ports.bare (ledger_of c.self.inside.ports.counts c.self.inside.ledger) c.self.inside.sets c.self.inside.requests _ _ c.in-Some.space s.1 c.self.view_is c.number.ensures c.index_mut.ensures.value c.in-Some.is
    c.args.to (sym (ap (λ (o : Option SpaceView). entry_in o c.args.to) s.1) ∙ c.requires.may.1.unused)

pub rename-requires-clause-place : goal.rename-requires-clause-place
rename-requires-clause-place c =
    let w : WorldView = c.args.self.now in
    let s = space_of (space_at w c.args.task) c.args.from c.requires.may.0 c.requires.may.1.found in
    kept_place w c.args.task s.0 c.self.inside.spaces.items c.self.inside.ports.bare (ledger_of c.self.inside.ports.counts c.self.inside.ledger) c.self.inside.sets c.self.inside.requests _ _ c.in-Some.space s.1 c.self.view_is c.number.ensures c.index_mut.ensures.value c.in-Some.is
    ∙ ap kept_in (sym s.1) ∙ c.requires.place

pub invariant_of-self : goal.invariant_of-self
invariant_of-self c =
    let w : WorldView = c.args.self.now in
    let s = space_of (space_at w c.args.task) c.args.from c.requires.may.0 c.requires.may.1.found in (
      moved_given w c.args.task s.0 c.self.inside.spaces.items c.self.inside.ports.bare (ledger_of c.self.inside.ports.counts c.self.inside.ledger) c.self.inside.sets c.self.inside.requests _ _ c.in-Some.space s.1 c.self.view_is c.number.ensures c.index_mut.ensures.value c.in-Some.is
          c.args.from c.args.to c.requires.may.0 s.2 c.self.invariant.0 c.rename.new.self c.rename.ensures,
      c.self.invariant.1,
    )

pub returns : goal.returns
returns c = λ e may.
    let w : WorldView = c.args.self.now in
    let s = space_of (space_at w c.args.task) c.args.from e may.found in
    moved_entry w c.args.task s.0 c.self.inside.spaces.items c.self.inside.ports.bare (ledger_of c.self.inside.ports.counts c.self.inside.ledger) c.self.inside.sets c.self.inside.requests _ _ c.in-Some.space s.1 c.self.view_is c.number.ensures c.index_mut.ensures.value c.in-Some.is
    c.args.from c.args.to e s.2 c.rename.new.self c.rename.ensures
