use Rattle.std.proofs.Common.{◌/◌, inl, refl}
use Rattle.tagged_names.specs.Places.{IsOpen}
use Rattle.tagged_names.proofs.Views.{fresh_open, page_place, none_in_tree, free_fits, ready_written, names_written}
use Rattle.tagged_names.proofs.places.Places.insert_fresh.Goals as goal

pub insert-requires-clause-small : goal.insert-requires-clause-small
insert-requires-clause-small g c = (fresh_open c.self.inside.slots c.self.inside.others c.self.invariant c.args.self.now c.self.view_is c.args.name (inl (c.requires.fresh, c.requires.room)) c.requires.not_full c.requires.fresh).1

pub insert-requires-clause-free : goal.insert-requires-clause-free
insert-requires-clause-free g c = (fresh_open c.self.inside.slots c.self.inside.others c.self.invariant c.args.self.now c.self.view_is c.args.name (inl (c.requires.fresh, c.requires.room)) c.requires.not_full c.requires.fresh).2

pub insert-requires-clause-place : goal.insert-requires-clause-place
insert-requires-clause-place g c =
    let free : IsOpen c.self.inside.slots.values (c.args.name / 256) = fresh_open c.self.inside.slots c.self.inside.others c.self.invariant c.args.self.now c.self.view_is c.args.name (inl (c.requires.fresh, c.requires.room)) c.requires.not_full c.requires.fresh in
    page_place c.self.inside.slots c.self.inside.others c.self.invariant c.args.self.now c.self.view_is c.args.name (inl (c.requires.fresh, c.requires.room)) c.requires.not_full free

pub invariant_of-self : goal.invariant_of-self
invariant_of-self g c =
    let free : IsOpen c.self.inside.slots.values (c.args.name / 256) = fresh_open c.self.inside.slots c.self.inside.others c.self.invariant c.args.self.now c.self.view_is c.args.name (inl (c.requires.fresh, c.requires.room)) c.requires.not_full c.requires.fresh in
    ready_written c.self.inside.slots c.self.inside.others c.self.invariant c.args.self.now c.self.view_is c.insert.new.self c.args.name _ c.args.value c.insert.ensures free.1 (free_fits c.self.inside.slots c.self.inside.others c.self.invariant c.args.self.now c.self.view_is (c.args.name / 256) c.args.name free.2)
    (none_in_tree c.self.inside.slots c.self.inside.others c.self.invariant c.args.self.now c.self.view_is c.args.name (c.requires.fresh.free c.args.name refl))

pub returns-clause-names : goal.returns-clause-names
returns-clause-names g c =
    let free : IsOpen c.self.inside.slots.values (c.args.name / 256) = fresh_open c.self.inside.slots c.self.inside.others c.self.invariant c.args.self.now c.self.view_is c.args.name (inl (c.requires.fresh, c.requires.room)) c.requires.not_full c.requires.fresh in
    names_written c.self.inside.slots c.self.inside.others c.self.invariant c.args.self.now c.self.view_is c.insert.new.self c.args.name _ c.args.value c.insert.ensures free.1 (free_fits c.self.inside.slots c.self.inside.others c.self.invariant c.args.self.now c.self.view_is (c.args.name / 256) c.args.name free.2)
