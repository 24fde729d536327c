use Rattle.std.proofs.Common.{◌≡◌, ◌<◌, ◌∙◌, Some, length, slice_get, subst, sym, ap, arith}
use Rattle.std.specs.Option.{IsSome}
use Rattle.std.proofs.lemmas.Option.{slice_get_within, get_or_from_slice_get}
use Rattle.slab.specs.Slab.{get}
use Rattle.shared_lists.specs.Places.{list_at}
use Rattle.shared_lists.proofs.Seen.{Kept}
use Rattle.shared_lists.proofs.Again.{listed_at}
use Rattle.shared_lists.proofs.Listed.list.Goals as goal

pub bounds-lists-key : goal.bounds-lists-key
bounds-lists-key c = slice_get_within c.self.inside.lists.now c.args.key _ (listed_at c.self.inside.further.now c.self.inside.lists.now c.args.key c.self.invariant (subst (λ (s : Kept). IsSome (get s c.args.key)) (sym c.self.view_is) c.requires))

pub offset_bounds-lists-key : goal.offset_bounds-lists-key
offset_bounds-lists-key c = let low = slice_get_within c.self.inside.lists.now c.args.key _ (listed_at c.self.inside.further.now c.self.inside.lists.now c.args.key c.self.invariant (subst (λ (s : Kept). IsSome (get s c.args.key)) (sym c.self.view_is) c.requires)) in omega (arith, low)

pub returns : goal.returns
returns c =
    get_or_from_slice_get c.self.inside.lists.now c.args.key _ 0 (listed_at c.self.inside.further.now c.self.inside.lists.now c.args.key c.self.invariant (subst (λ (s : Kept). IsSome (get s c.args.key)) (sym c.self.view_is) c.requires))
    ∙ ap (λ (s : Kept). list_at s c.args.key) c.self.view_is
