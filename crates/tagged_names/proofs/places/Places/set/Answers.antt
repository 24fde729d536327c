use Rattle.std.proofs.Common.{◌≡◌, None, true, inl, is_some, ap, sym, ◌∙◌}
use Rattle.tagged_names.specs.Places.{placed}
use Rattle.tagged_names.proofs.Joined.{empty_of}
use Rattle.tagged_names.proofs.Changes.{placed_small, not_in_tree}
use Rattle.tagged_names.proofs.Views.{room_is, own_fits, get_other, ready_written, view_written, ready_put, view_put}
use Rattle.tagged_names.proofs.places.Places.set.Goals as goal

pub invariant_of-self : goal.invariant_of-self
invariant_of-self g c =
    let used : is_some (placed c.self.inside.slots.values c.args.name) ≡ true = sym (ap is_some c.value_placed.ensures) ∙ sym c.is_some.ensures ∙ c.if-is_some.true in
    ready_written c.self.inside.slots c.self.inside.others c.self.invariant c.args.self.now c.self.view_is c.set.new.self c.args.name _ c.args.value c.set.ensures
    (placed_small c.self.inside.slots.values c.self.inside.others.names c.self.invariant.laid c.args.name used) (own_fits c.self.inside.slots c.self.inside.others c.self.invariant c.args.self.now c.self.view_is c.args.name used)
    (not_in_tree c.self.inside.slots.values c.self.inside.others.names c.self.invariant.laid c.args.name used)

pub put-requires : goal.put-requires
put-requires g c =
    let none : placed c.self.inside.slots.values c.args.name ≡ None = empty_of _ (sym (ap is_some c.value_placed.ensures) ∙ sym c.is_some.ensures ∙ c.if-is_some.false) in
    record { place = inl (ap is_some (get_other c.self.inside.slots c.self.inside.others c.self.invariant c.args.self.now c.self.view_is c.args.name none) ∙ c.requires) }

pub invariant_of-self-else-is_some : goal.invariant_of-self-else-is_some
invariant_of-self-else-is_some g c =
    let none : placed c.self.inside.slots.values c.args.name ≡ None = empty_of _ (sym (ap is_some c.value_placed.ensures) ∙ sym c.is_some.ensures ∙ c.if-is_some.false) in
    ready_put c.self.inside.slots c.self.inside.others c.self.invariant c.args.self.now c.self.view_is c.put.new.self c.args.name none c.args.value c.put.ensures (c.self.invariant.laid.beside c.args.name (ap is_some (get_other c.self.inside.slots c.self.inside.others c.self.invariant c.args.self.now c.self.view_is c.args.name none) ∙ c.requires))

pub returns-then-is_some : goal.returns-then-is_some
returns-then-is_some g c =
    let used : is_some (placed c.self.inside.slots.values c.args.name) ≡ true = sym (ap is_some c.value_placed.ensures) ∙ sym c.is_some.ensures ∙ c.if-is_some.true in
    view_written c.self.inside.slots c.self.inside.others c.self.invariant c.args.self.now c.self.view_is c.set.new.self c.args.name _ c.args.value c.set.ensures
    (placed_small c.self.inside.slots.values c.self.inside.others.names c.self.invariant.laid c.args.name used) (own_fits c.self.inside.slots c.self.inside.others c.self.invariant c.args.self.now c.self.view_is c.args.name used) c.args.self.now.room (room_is c.self.inside.slots c.self.inside.others c.self.invariant c.args.self.now c.self.view_is)

pub returns-else-is_some : goal.returns-else-is_some
returns-else-is_some g c =
    let none : placed c.self.inside.slots.values c.args.name ≡ None = empty_of _ (sym (ap is_some c.value_placed.ensures) ∙ sym c.is_some.ensures ∙ c.if-is_some.false) in
    view_put c.self.inside.slots c.self.inside.others c.self.invariant c.args.self.now c.self.view_is c.put.new.self c.args.name none c.args.value c.put.ensures
