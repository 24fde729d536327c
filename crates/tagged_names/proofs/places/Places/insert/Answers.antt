use Rattle.std.proofs.Common.{◌/◌, inr}
use Rattle.name_space_base.proofs.Options.{unless}
use Rattle.tagged_names.specs.Places.{IsOpen}
use Rattle.tagged_names.proofs.Views.{kept_place, page_place, taken_of, none_placed, none_in_tree, free_fits, ready_put, names_put, ready_written, names_written}
use Rattle.tagged_names.proofs.places.Places.insert.Goals as goal

pub insert-requires-clause-place : goal.insert-requires-clause-place
insert-requires-clause-place g c = page_place c.self.inside.slots c.self.inside.others c.self.invariant c.args.self.now c.self.view_is c.args.name c.requires.place c.requires.not_full (c.is_open.ensures.0 c.if-is_open.true)

pub put-requires : goal.put-requires
put-requires g c = record { place = inr (kept_place c.self.inside.slots c.self.inside.others c.self.invariant c.args.self.now c.self.view_is c.args.name c.requires.place c.requires.not_full (unless c.is_open.result c.is_open.ensures.1 c.if-is_open.false)) }

pub invariant_of-self : goal.invariant_of-self
invariant_of-self g c =
    let free : IsOpen c.self.inside.slots.values (c.args.name / 256) = c.is_open.ensures.0 c.if-is_open.true in
    ready_written c.self.inside.slots c.self.inside.others c.self.invariant c.args.self.now c.self.view_is c.insert.new.self c.args.name _ c.args.value c.insert.ensures free.1 (free_fits c.self.inside.slots c.self.inside.others c.self.invariant c.args.self.now c.self.view_is (c.args.name / 256) c.args.name free.2)
    (none_in_tree c.self.inside.slots c.self.inside.others c.self.invariant c.args.self.now c.self.view_is c.args.name c.requires.unused)

pub returns-then-is_open-clause-names : goal.returns-then-is_open-clause-names
returns-then-is_open-clause-names g c =
    let free : IsOpen c.self.inside.slots.values (c.args.name / 256) = c.is_open.ensures.0 c.if-is_open.true in
    names_written c.self.inside.slots c.self.inside.others c.self.invariant c.args.self.now c.self.view_is c.insert.new.self c.args.name _ c.args.value c.insert.ensures free.1 (free_fits c.self.inside.slots c.self.inside.others c.self.invariant c.args.self.now c.self.view_is (c.args.name / 256) c.args.name free.2)

pub invariant_of-self-else-is_open : goal.invariant_of-self-else-is_open
invariant_of-self-else-is_open g c =
    ready_put c.self.inside.slots c.self.inside.others c.self.invariant c.args.self.now c.self.view_is c.put.new.self c.args.name (none_placed c.self.inside.slots c.self.inside.others c.self.invariant c.args.self.now c.self.view_is c.args.name c.requires.unused) c.args.value c.put.ensures
    (taken_of c.self.inside.slots c.self.inside.others c.self.invariant c.args.self.now c.self.view_is (c.args.name / 256) (unless c.is_open.result c.is_open.ensures.1 c.if-is_open.false))

pub returns-else-is_open-clause-names : goal.returns-else-is_open-clause-names
returns-else-is_open-clause-names g c = names_put c.self.inside.slots c.self.inside.others c.self.invariant c.args.self.now c.self.view_is c.put.new.self c.args.name (none_placed c.self.inside.slots c.self.inside.others c.self.invariant c.args.self.now c.self.view_is c.args.name c.requires.unused) c.args.value c.put.ensures
