-- Chains as a whole, the lists in them, and what a change of one chain leaves.
use Rattle.std.proofs.Common.{◌≡◌, ◌≢◌, inl, inr, ℕ, zero, suc, ◌<◌, ◌≤◌, cond, List, [], ◌∷◌, length, Option, Some, None, slice_get, refl, sym, ◌∙◌, ap}
use Rattle.std.specs.Prelude.{unwrap_or}
use Rattle.std.specs.Option.{option_map}
use Rattle.std.specs.Ordering.{nat_cmp}
use Rattle.std.specs.Cmp.{nat_cmp_total, unsigned_tied}
use Rattle.std.specs.FinMap as map
use Rattle.std.proofs.lemmas.Option.{slice_get_within}
use Rattle.member_lists.specs.declared.Link.{Link}
use Rattle.member_lists.specs.declared.Ends.{Ends}
use Rattle.member_lists.specs.Lists.{ListsView, list_of, with_list}
use Rattle.member_lists.specs.Chains.{times, walk, first_or, ends_at, blank_ends, items_from, lists_of, IsSound, IsKept}
use Rattle.member_lists.proofs.Values.{get-with_values}
use Rattle.member_lists.proofs.Times.{none_some, equal_or_not, eqb_same, eqb_other, few_items}
use Rattle.member_lists.proofs.Linked.{linked_there, walk-linked}

-- ---- what stands in the chains

module _ (links : List Link) (chains : ℕ → Ends) (so : IsSound links chains) where
  pub link_of : (c x : ℕ) → 0 < times x (so.chained c) → (link : Link) × (slice_get links x ≡ Some link)
  link_of c x h = linked_there links None (so.chained c) None (so.chain c).linked x h

  pub in_range : (c x : ℕ) → 0 < times x (so.chained c) → x < length links
  in_range c x h = let link = link_of c x h in slice_get_within links x link.0 link.1

  pub few_chained : (c : ℕ) → length (so.chained c) ≤ length links
  few_chained c = few_items (length links) (so.chained c) (in_range c) (so.chain c).once

  pub walked : (c : ℕ) → items_from links (chains c) ≡ so.chained c
  walked c = ap (walk links (length links)) (so.chain c).first ∙ walk-linked links None (so.chained c) (length links) (so.chain c).linked (few_chained c)

-- ---- a finite map at a key, and at another

module _ {X : Type 0} (m : map.FinMap nat_cmp X) (k : ℕ) where
  pub put_here : (v : X) → map.get (map.insert m k v) k ≡ Some v
  put_here v = map.get-insert nat_cmp_total m k v k ∙ ap (λ b. cond b (Some v) (map.get m k)) (unsigned_tied k k ∙ eqb_same k k refl)

  pub put_other : (v : X) (q : ℕ) → q ≢ k → map.get (map.insert m k v) q ≡ map.get m q
  put_other v q d = map.get-insert nat_cmp_total m k v q ∙ ap (λ b. cond b (Some v) (map.get m q)) (unsigned_tied q k ∙ eqb_other q k d)

  pub out_here : map.get (map.remove m k) k ≡ None
  out_here = map.get-remove nat_cmp_total m k k ∙ ap (λ b. cond b (let none : Option X = None in none) (map.get m k)) (unsigned_tied k k ∙ eqb_same k k refl)

  pub out_other : (q : ℕ) → q ≢ k → map.get (map.remove m k) q ≡ map.get m q
  out_other q d = map.get-remove nat_cmp_total m k q ∙ ap (λ b. cond b (let none : Option X = None in none) (map.get m q)) (unsigned_tied q k ∙ eqb_other q k d)

pub same_gets : {X : Type 0} (m n : map.FinMap nat_cmp X) → ((q : ℕ) → map.get m q ≡ map.get n q) → m ≡ n
same_gets m n is = map.same_map nat_cmp_total map.nat_cmp-IsAntisymmetric m n is

-- ---- the lists that have items

abbrev pub some_if : List ℕ → Option (List ℕ)
some_if [] = None
some_if (x ∷ xs) = Some (x ∷ xs)

or_nothing : (xs : List ℕ) → unwrap_or (some_if xs) [] ≡ xs
or_nothing [] = refl
or_nothing (x ∷ xs) = refl

first_some_if : (x : ℕ) (xs : List ℕ) → first_or xs None ≡ Some x → Some xs ≡ some_if xs
first_some_if x [] e = absurd (none_some x e)
first_some_if x (y ∷ ys) e = refl

walk_none : (links : List Link) (n : ℕ) → walk links n None ≡ []
walk_none links zero = refl
walk_none links (suc n) = refl

-- the lists are those that the links and the ends give
pub record IsShown (links : List Link) (chains : ℕ → Ends) (v : ListsView) : Type 0 where
  pub got : (l : ℕ) → map.get v.lists l ≡ some_if (items_from links (chains l))
  pub items : length links ≡ v.items

pub shown : (links : List Link) (ends : map.FinMap nat_cmp Ends) → IsKept links ends → (v : ListsView) → record { lists = lists_of links ends; items = length links } ≡ v → IsShown links (ends_at ends) v
shown links ends k v is = record {
  got = λ l. ap (λ (w : ListsView). map.get w.lists l) (sym is) ∙ get-with_values (items_from links) ends l ∙ case l (map.get ends l) refl;
  items = ap (λ (w : ListsView). w.items) is;
}
  where
    case : (l : ℕ) (o : Option Ends) → map.get ends l ≡ o → option_map (items_from links) o ≡ some_if (items_from links (unwrap_or o blank_ends))
    case l None e = ap some_if (sym (walk_none links (length links)))
    case l (Some g) e =
        let here : ends_at ends l ≡ g = ap (λ o. unwrap_or o blank_ends) e in
        let some = k.filled l g e in
        let all : items_from links g ≡ k.sound.chained l = ap (items_from links) (sym here) ∙ walked links (ends_at ends) k.sound l in
        first_some_if some.0 (items_from links g) (ap (λ xs. first_or xs None) all ∙ sym ((k.sound.chain l).first) ∙ ap (λ (h : Ends). h.first) here ∙ some.1)

module _ (links : List Link) (chains : ℕ → Ends) (so : IsSound links chains) (v : ListsView) (sh : IsShown links chains v) (l : ℕ) where
  -- a list is its chain
  pub whole : list_of v l ≡ so.chained l
  whole = ap (λ o. unwrap_or o []) (sh.got l) ∙ or_nothing (items_from links (chains l)) ∙ walked links chains so l

-- ---- a list is changed, and its chain with it

module _ (links mores : List Link) (chains ends : ℕ → Ends) (v w : ListsView) (sh : IsShown links chains v) (sh' : IsShown mores ends w) (len : length mores ≡ length links) (l : ℕ)
    (others : (q : ℕ) → q ≢ l → items_from mores (ends q) ≡ items_from links (chains q)) where
  other_got : (q : ℕ) → q ≢ l → map.get w.lists q ≡ map.get v.lists q
  other_got q d = sh'.got q ∙ ap some_if (others q d) ∙ sym (sh.got q)

  items_kept : w.items ≡ v.items
  items_kept = sym sh'.items ∙ len ∙ sh.items

  put : (ys : List ℕ) → items_from mores (ends l) ≡ ys → record { lists = w.lists; items = v.items } ≡ with_list v l ys
  put [] e = ap (λ (m : map.FinMap nat_cmp (List ℕ)). let u : ListsView = record { lists = m; items = v.items } in u)
      (same_gets w.lists (map.remove v.lists l) (λ q. elim (equal_or_not q l) [
        | inl s ↦ ap (map.get w.lists) s ∙ sh'.got l ∙ ap some_if e ∙ sym (ap (map.get (map.remove v.lists l)) s ∙ out_here v.lists l)
        | inr d ↦ other_got q d ∙ sym (out_other v.lists l q d)
      ]))
  put (y ∷ ys) e = ap (λ (m : map.FinMap nat_cmp (List ℕ)). let u : ListsView = record { lists = m; items = v.items } in u)
      (same_gets w.lists (map.insert v.lists l (y ∷ ys)) (λ q. elim (equal_or_not q l) [
        | inl s ↦ ap (map.get w.lists) s ∙ sh'.got l ∙ ap some_if e ∙ sym (ap (map.get (map.insert v.lists l (y ∷ ys))) s ∙ put_here v.lists l (y ∷ ys))
        | inr d ↦ other_got q d ∙ sym (put_other v.lists l (y ∷ ys) q d)
      ]))

  pub view_changed : (ys : List ℕ) → items_from mores (ends l) ≡ ys → w ≡ with_list v l ys
  view_changed ys e = ap (λ n. let u : ListsView = record { lists = w.lists; items = n } in u) items_kept ∙ put ys e
