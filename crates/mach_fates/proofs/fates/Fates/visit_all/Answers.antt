use Rattle.std.proofs.Common.{◌≡◌, ◌⊎◌, ◌<◌, ◌≤◌, None, inl, inr, subst, ◌∙◌, arith}
use Rattle.std.specs.BTreeMap.{get}
use Rattle.std.specs.Ordering.{nat_cmp}
use Rattle.mach_fates.specs.Keeping.{kept_at, entries_in, Apart, HasIdentities, VisitsBut}
use Rattle.mach_fates.proofs.Visiting.{visited_then, apart_none, none_kept, on_ok}
use Rattle.mach_fates.proofs.fates.Fates.visit_all.Goals as goal

pub returns : goal.returns
returns c =
    let number = c.args.turn.now.number in
    let w = c.args.world.now in
    let old = c.args.self.now in
    let mid = c.visit_kept.new.self in
    let new = c.visit_made.new.self in
    let kept = c.in_ok-visit_kept.ensures in
    let ports = c.as_slice.result.now in
    on_ok c.visit_made.result (HasIdentities w → VisitsBut (λ p. (p < mid.made) ⊎ (w.ports.made ≤ p)) number w mid new)
    (HasIdentities w → VisitsBut (λ p. (kept_at old p ≡ None) × ((p < old.made) ⊎ (w.ports.made ≤ p))) number w old new) c.visit_made.ensures
    (λ made few. visited_then (λ p. Apart p ports) (λ p. (p < mid.made) ⊎ (w.ports.made ≤ p)) (λ p. (kept_at old p ≡ None) × ((p < old.made) ⊎ (w.ports.made ≤ p))) number w old mid new kept (made few)
    (λ p apart where_is. (
      none_kept entries_in (get nat_cmp old.ports p) (c.kept_ports.ensures.has p ∙ apart_none _ p (subst (Apart p) (c.as_slice.ensures.value ∙ c.in_ok-kept.ensures.same) apart)),
      elim where_is [ inl h ↦ inl (let same = kept.made in omega (arith, h, same)) | inr h ↦ inr h ],
    )))
