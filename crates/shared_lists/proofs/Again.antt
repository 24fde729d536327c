-- The list of each further place, once more.
use Rattle.std.proofs.Common.{◌≡◌, ℕ, ◌<◌, List, length, Option, Some, None, true, false, inl, inr, refl, sym, ap, ◌∙◌, slice_get, slice_set}
use Rattle.std.specs.Option.{IsSome}
use Rattle.std.proofs.lemmas.Option.{slice_get_within}
use Rattle.slab.specs.Slab.{Updates, get}
use Rattle.member_lists.proofs.Times.{none_some, same_some, equal_or_not, got_set, got_other}
use Rattle.shared_lists.specs.declared.Further.{Further}
use Rattle.shared_lists.specs.Places.{AreListed, list_at, list_in}
use Rattle.shared_lists.proofs.Seen.{Kept}

pub listed_same : (s s' : Kept) (lists : List ℕ) → AreListed s lists → ((k : ℕ) → get s' k ≡ get s k) → AreListed s' lists
listed_same s s' lists i same k f at = i k f (sym (same k) ∙ at)

pub listed_longer : (s : Kept) (lists lists' : List ℕ) → AreListed s lists → ((k : ℕ) → k < length lists → slice_get lists' k ≡ slice_get lists k) → AreListed s lists'
listed_longer s lists lists' i stays k f at = let was = i k f at in stays k (slice_get_within lists k f.list was) ∙ was

pub listed_out : (s s' : Kept) (key : ℕ) (lists : List ℕ) → AreListed s lists → Updates s s' key None → AreListed s' lists
listed_out s s' key lists i u k f at = elim (equal_or_not k key) [
  | inl e ↦ absurd (none_some f (sym u.changed ∙ ap (get s') (sym e) ∙ at))
  | inr d ↦ i k f (sym (u.others k d) ∙ at)
]

pub listed_in : (s s' : Kept) (key : ℕ) (f : Further) (lists : List ℕ) → AreListed s lists → Updates s s' key (Some f) → key < length lists → AreListed s' (slice_set lists key f.list)
listed_in s s' key f lists i u low k g at = elim (equal_or_not k key) [
  | inl e ↦
      let same : f ≡ g = same_some f g (sym u.changed ∙ ap (get s') (sym e) ∙ at) in
      ap (slice_get (slice_set lists key f.list)) e ∙ got_set lists key f.list low ∙ ap (λ (h : Further). Some h.list) same
  | inr d ↦ got_other lists key k f.list d ∙ i k g (sym (u.others k d) ∙ at)
]

pub listed_at : (s : Kept) (lists : List ℕ) (key : ℕ) → AreListed s lists → IsSome (get s key) → slice_get lists key ≡ Some (list_at s key)
listed_at s lists key i some = by_what (get s key) refl some
  where
    by_what : (o : Option Further) → get s key ≡ o → IsSome o → slice_get lists key ≡ Some (list_at s key)
    by_what None e h = absurd (let bad : false ≡ true = h in cc)
    by_what (Some f) e h = i key f e ∙ ap (λ (p : Option Further). Some (list_in p)) (sym e)
