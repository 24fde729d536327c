use Rattle.std.proofs.Common.{◌≡◌, ◌⊎◌, ◌<◌, Some, None, inl, inr, ap, subst, sym, ◌∙◌}
use Rattle.std.specs.FinMap as map
use Rattle.tagged_names.specs.Names.{TaggedView}
use Rattle.tagged_names.proofs.Sounds.{sound_put, place_for}
use Rattle.tagged_names.proofs.TaggedNames.insert.Goals as goal

pub insert-requires-clause-place : goal.insert-requires-clause-place
insert-requires-clause-place g c = place_for c.self.inside.places c.self.inside.counts c.self.inside.len c.self.inside.room c.self.invariant c.args.self.now c.self.view_is c.args.name c.requires.place

pub invariant_of-self : goal.invariant_of-self
invariant_of-self g c =
    let none : map.get c.self.inside.places.names c.args.name ≡ None = ap (λ (w : TaggedView g.row.V.Denot). map.get w.names c.args.name) c.self.view_is ∙ c.requires.unused in
    let few : map.len c.self.inside.places.names < 65535 = subst (λ n. n < 65535) (sym (ap (λ (w : TaggedView g.row.V.Denot). map.len w.names) c.self.view_is)) c.requires.not_full in
    let place : (0 < c.self.inside.room) ⊎ (c.self.inside.places.kept ≡ Some c.args.name) = elim c.requires.place [
      | inl f ↦ inl (subst (λ n. 0 < n) (sym (ap (λ (w : TaggedView g.row.V.Denot). w.room) c.self.view_is)) f.1)
      | inr is ↦ inr (ap (λ (w : TaggedView g.row.V.Denot). w.kept) c.self.view_is ∙ is)
    ] in
    sound_put c.self.inside.places c.self.inside.counts c.self.inside.len c.self.inside.room c.self.invariant c.insert.new.self c.args.name c.args.value c.saturating_sub-self-inside.result c.insert.ensures.names c.insert.ensures.kept none c.insert.ensures.room c.saturating_sub-self-inside.ensures place few
