-- Where no list has ends, none has items.
use Rattle.std.proofs.Common.{◌≡◌, ◌↔◌, ℕ, eqb, IsTrue, List, [], ◌∷◌, length, None, refl, sym, ap, ◌∙◌}
use Rattle.std.specs.Prelude.{unwrap_or}
use Rattle.std.specs.Ordering.{nat_cmp}
use Rattle.std.specs.FinMap as map
use Rattle.member_lists.specs.declared.Link.{Link}
use Rattle.member_lists.specs.declared.Ends.{Ends}
use Rattle.member_lists.specs.Lists.{ListsView, list_of}
use Rattle.member_lists.specs.Chains.{items_from, lists_of, ends_at, IsKept}
use Rattle.member_lists.proofs.Values.{len-with_values}
use Rattle.member_lists.proofs.Times.{eqb_is, eqb_same}
use Rattle.member_lists.proofs.Sound.{some_if, same_gets, shown}

none_of : (xs : List ℕ) → unwrap_or (some_if xs) [] ≡ [] → some_if xs ≡ None
none_of [] e = refl
none_of (x ∷ xs) e = cc

module _ (links : List Link) (ends : map.FinMap nat_cmp Ends) (kept : IsKept links ends) (v : ListsView) (view_is : record { lists = lists_of links ends; items = length links } ≡ v) (len : ℕ) (len_is : len ≡ map.len ends) where
  many : map.len v.lists ≡ len
  many = ap (λ (w : ListsView). map.len w.lists) (sym view_is) ∙ len-with_values (items_from links) ends ∙ sym len_is

  nothing : v.lists ≡ map.empty → (list : ℕ) → list_of v list ≡ []
  nothing none list = ap (λ (m : map.FinMap nat_cmp (List ℕ)). unwrap_or (map.get m list) []) none ∙ ap (λ o. unwrap_or o []) (map.get-empty nat_cmp list)

  all_out : ((list : ℕ) → list_of v list ≡ []) → v.lists ≡ map.empty
  all_out none = same_gets v.lists map.empty (λ l.
      let got = (shown links ends kept v view_is).got l in
      got ∙ none_of (items_from links (ends_at ends l)) (ap (λ o. unwrap_or o []) (sym got) ∙ none l) ∙ sym (map.get-empty nat_cmp l))

  pub empty_told : IsTrue (eqb len 0) ↔ ((list : ℕ) → list_of v list ≡ [])
  empty_told = (
    λ yes. nothing (map.empty_of_len v.lists (many ∙ eqb_is len 0 yes)),
    λ none. eqb_same len 0 (sym many ∙ ap (λ (m : map.FinMap nat_cmp (List ℕ)). map.len m) (all_out none) ∙ map.len-empty nat_cmp (List ℕ)),
  )
