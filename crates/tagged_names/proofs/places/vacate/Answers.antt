use Rattle.std.proofs.Common.{◌/◌, ap, sym, refl, ◌∙◌}
use Rattle.std.specs.FinMap as map
use Rattle.name_space_base.specs.Pages.{PagesView}
use Rattle.name_space_base.specs.High.{HighView}
use Rattle.name_space_base.proofs.Options.{none_or_used}
use Rattle.tagged_names.specs.declared.places.Slot.{Slot}
use Rattle.tagged_names.proofs.Changes.{laid-out, joined-out, laid-moved, joined-moved, placed_small}
use Rattle.tagged_names.proofs.Views.{ready_with, laid_at, joined_at}
use Rattle.tagged_names.proofs.places.vacate.Goals as goal

pub returns-in_default-clause-ready : goal.returns-in_default-clause-ready
returns-in_default-clause-ready g c =
    ready_with c.args.slots.now c.args.others.now c.requires.ready c.clear.new.self c.args.others.now
    (laid_at (ap (λ (w : PagesView (Slot g.row.V.Denot)). w.values) c.clear.ensures) refl (laid-out c.args.slots.now.values c.args.others.now.names c.requires.ready.laid c.args.name c.requires.placed c.in_default.ensures.none))
    (ap (λ (w : PagesView (Slot g.row.V.Denot)). w.made) c.clear.ensures) refl

pub returns-in_default-clause-names : goal.returns-in_default-clause-names
returns-in_default-clause-names g c =
    joined_at (ap (λ (w : PagesView (Slot g.row.V.Denot)). w.values) c.clear.ensures) refl ∙ joined-out c.args.slots.now.values c.args.others.now.names c.requires.ready.laid c.args.name c.requires.placed c.in_default.ensures.none

pub returns-in-Some-remove-clause-ready : goal.returns-in-Some-remove-clause-ready
returns-in-Some-remove-clause-ready g c =
    ready_with c.args.slots.now c.args.others.now c.requires.ready c.set.new.self c.remove.new.self
    (laid_at (ap (λ (w : PagesView (Slot g.row.V.Denot)). w.values) c.set.ensures) (ap (λ (h : HighView g.row.V.Denot). h.names) c.remove.ensures.after)
    (laid-moved c.args.slots.now.values c.args.others.now.names c.requires.ready.laid (c.args.name / 256) record { name = c.in-Some.other; value = c.in-Some-remove.value } c.in-Some.ensures.found.0
    (placed_small c.args.slots.now.values c.args.others.now.names c.requires.ready.laid c.args.name c.requires.placed) c.args.name c.requires.placed refl (sym c.in-Some-remove.ensures.value)))
    (ap (λ (w : PagesView (Slot g.row.V.Denot)). w.made) c.set.ensures) (ap (λ (h : HighView g.row.V.Denot). h.kept) c.remove.ensures.after)

pub returns-in-Some-remove-clause-names : goal.returns-in-Some-remove-clause-names
returns-in-Some-remove-clause-names g c =
    joined_at (ap (λ (w : PagesView (Slot g.row.V.Denot)). w.values) c.set.ensures) (ap (λ (h : HighView g.row.V.Denot). h.names) c.remove.ensures.after)
    ∙ joined-moved c.args.slots.now.values c.args.others.now.names c.requires.ready.laid (c.args.name / 256) record { name = c.in-Some.other; value = c.in-Some-remove.value } c.in-Some.ensures.found.0
    (placed_small c.args.slots.now.values c.args.others.now.names c.requires.ready.laid c.args.name c.requires.placed) c.args.name c.requires.placed refl (sym c.in-Some-remove.ensures.value)

pub returns-in_default-remove-clause-names : goal.returns-in_default-remove-clause-names
returns-in_default-remove-clause-names g c =
    absurd (none_or_used (map.get c.args.others.now.names c.in-Some.other) (sym c.remove.ensures.value ∙ c.in_default-remove.is) c.in-Some.ensures.found.1)
