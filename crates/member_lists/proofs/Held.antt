-- The ends of the lists that have items, in their map, for which there is always room.
use Rattle.std.proofs.Common.{◌≡◌, ◌≢◌, inl, inr, ℕ, zero, suc, ◌+◌, ◌-◌, ◌<◌, ◌≤◌, ◌^◌, ◌||◌, Bool, true, false, cond, eqb, List, [], ◌∷◌, length, Option, Some, None, is_some, slice_get, refl, sym, ◌∙◌, ap, arith}
use Rattle.std.specs.Prelude.{unwrap_or}
use Rattle.std.specs.List.{list_any}
use Rattle.std.specs.Ordering.{nat_cmp, eq_by_cmp}
use Rattle.std.specs.Cmp.{nat_cmp_total, unsigned_tied}
use Rattle.std.specs.FinMap as map
use Rattle.number_map.specs.Maps.{MapView}
use Rattle.member_lists.specs.declared.Link.{Link}
use Rattle.member_lists.specs.declared.Ends.{Ends}
use Rattle.member_lists.specs.Lists.{ListsView, IsApart}
use Rattle.member_lists.specs.Chains.{times, first_or, ends_at, blank_ends, IsKept}
use Rattle.member_lists.proofs.Times.{same_some, none_some, equal_or_not, true_or_false, eqb_same, eqb_other, eqb_is, first_within}
use Rattle.member_lists.proofs.Sound.{IsShown, in_range, put_here, put_other, out_here, out_other, same_gets}
use Rattle.member_lists.proofs.Changed.{alone_at, sound_none, sound_grown}

-- the value has a first item below the number, which is that key's own
pub record Owns (owner : ℕ → ℕ) (n k : ℕ) (e : Ends) : Type 0 where
  pub x : ℕ
  pub first : e.first ≡ Some x
  pub low : x < n
  pub own : owner x ≡ k

no_true : false ≡ true → ⊥
no_true e = cc

abbrev Ended : Type 0
Ended = map.FinMap nat_cmp Ends

abbrev no_ends : Ended
no_ends = map.empty

nothing_in : (m : Ended) → ((k : ℕ) (e : Ends) → map.get m k ≡ Some e → ⊥) → map.len m ≡ 0
nothing_in m none = ap (λ (n : Ended). map.len n) (same_gets m no_ends (λ q. case q (map.get m q) refl)) ∙ map.len-empty nat_cmp Ends
  where
    case : (q : ℕ) (o : Option Ends) → map.get m q ≡ o → map.get m q ≡ map.get no_ends q
    case q None e = e ∙ sym (map.get-empty nat_cmp q)
    case q (Some v) e = absurd (none q v e)

module _ (owner : ℕ → ℕ) where
  -- a key that a map without one has, it has too
  still : (m : Ended) (c k : ℕ) (e : Ends) → map.get (map.remove m c) k ≡ Some e → (k ≢ c) × (map.get m k ≡ Some e)
  still m c k e at = grind (arith, none_some, out_here, out_other)

  shorter : (m : Ended) (c : ℕ) → map.len m ≤ map.len (map.remove m c) + 1
  shorter m c = one (map.contains_key m c) (map.len-remove nat_cmp_total m c)
    where
      one : (b : Bool) → map.len (map.remove m c) ≡ cond b (map.len m - 1) (map.len m) → map.len m ≤ map.len (map.remove m c) + 1
      one true e = omega arith
      one false e = omega arith

  owned : (n : ℕ) (m : Ended) → ((k : ℕ) (e : Ends) → map.get m k ≡ Some e → Owns owner n k e) → map.len m ≤ n
  owned zero m has = let none = nothing_in m (λ k e at. let o = has k e at in let l = o.low in omega arith) in omega arith
  owned (suc n) m has =
      let rest = owned n (map.remove m (owner n)) (λ k e at.
      let s = still m (owner n) k e at in
      let o = has k e s.1 in
      let d : o.x ≢ n = (λ same. s.0 (sym o.own ∙ ap owner same)) in
      record { x = o.x; first = o.first; low = (let l : o.x < suc n = o.low in omega arith); own = o.own }) in
      let less = shorter m (owner n) in omega arith

  pub owned_but : (n item : ℕ) (m : Ended) → item < n → ((k : ℕ) (e : Ends) → map.get m k ≡ Some e → Owns owner n k e) → ((k : ℕ) (e : Ends) → map.get m k ≡ Some e → e.first ≢ Some item) → map.len m < n
  owned_but zero item m low has but = absurd (omega arith)
  owned_but (suc n) item m low has but = elim (equal_or_not n item) [
    | inl s ↦
        let all = owned n m (λ k e at.
        let o = has k e at in
        let d : o.x ≢ n = (λ same. but k e at (o.first ∙ ap (λ y. Some y) (same ∙ s))) in
        record { x = o.x; first = o.first; low = (let l : o.x < suc n = o.low in omega arith); own = o.own }) in
        omega arith
    | inr d ↦
        let rest = owned_but n item (map.remove m (owner n)) (let l : item < suc n = low in omega arith) (λ k e at.
        let s = still m (owner n) k e at in
        let o = has k e s.1 in
        let d : o.x ≢ n = (λ same. s.0 (sym o.own ∙ ap owner same)) in
        record { x = o.x; first = o.first; low = (let l : o.x < suc n = o.low in omega arith); own = o.own })
        (λ k e at. let s = still m (owner n) k e at in but k e s.1) in
        let less = shorter m (owner n) in omega arith
  ]

-- ---- the ends of a list that has items

ends_there : (m : Ended) (l : ℕ) (e : Ends) → map.get m l ≡ Some e → ends_at m l ≡ e
ends_there m l e at = ap (λ o. unwrap_or o blank_ends) at

is_first : Option ℕ → ℕ → Bool
is_first None x = false
is_first (Some y) x = eqb y x

first_is_some : (o : Option ℕ) (x : ℕ) → is_first o x ≡ true → o ≡ Some x
unfolding is_first
first_is_some None x e = absurd (no_true e)
first_is_some (Some y) x e = ap (λ z. Some z) (eqb_is y x e)

-- the first of these lists that the item stands first in
owner_in : Ended → List ℕ → ℕ → ℕ
owner_in m [] x = 0
owner_in m (c ∷ cs) x = cond (is_first (ends_at m c).first x) c (owner_in m cs x)

owner_found : (m : Ended) (x l : ℕ) → is_first (ends_at m l).first x ≡ true → (cs : List ℕ) → list_any (eq_by_cmp nat_cmp l) cs ≡ true → is_first (ends_at m (owner_in m cs x)).first x ≡ true
unfolding owner_in is_first
owner_found m x l here [] any = absurd (no_true any)
owner_found m x l here (c ∷ cs) any = elim (true_or_false (is_first (ends_at m c).first x)) [
  | inl t ↦ ap (λ b. is_first (ends_at m (cond b c (owner_in m cs x))).first x) t ∙ t
  | inr f ↦
      let other : l ≢ c = (λ s. no_true (sym f ∙ ap (λ q. is_first (ends_at m q).first x) (sym s) ∙ here)) in
      let rest : list_any (eq_by_cmp nat_cmp l) cs ≡ true = ap (λ b. b || list_any (eq_by_cmp nat_cmp l) cs) (sym (unsigned_tied l c ∙ eqb_other l c other)) ∙ any in
      ap (λ b. is_first (ends_at m (cond b c (owner_in m cs x))).first x) f ∙ owner_found m x l here cs rest
]

module _ (links : List Link) (ends : Ended) (k : IsKept links ends) where
  inside : (l x : ℕ) (e : Ends) → map.get ends l ≡ Some e → e.first ≡ Some x → 0 < times x (k.sound.chained l)
  inside l x e at first = first_within (k.sound.chained l) x (sym ((k.sound.chain l).first) ∙ ap (λ (g : Ends). g.first) (ends_there ends l e at) ∙ first)

  owner_of : ℕ → ℕ
  owner_of x = owner_in ends (map.keys ends) x

  owns : (l : ℕ) (e : Ends) → map.get ends l ≡ Some e → Owns owner_of (length links) l e
  unfolding owner_of is_first
  owns l e at =
      let some = k.filled l e at in
      let h = inside l some.0 e at some.1 in
      let here : is_first (ends_at ends l).first some.0 ≡ true = ap (λ (g : Ends). is_first g.first some.0) (ends_there ends l e at) ∙ ap (λ o. is_first o some.0) some.1 ∙ eqb_same some.0 some.0 refl in
      let listed : list_any (eq_by_cmp nat_cmp l) (map.keys ends) ≡ true = sym (map.contains_key-keys ends l) ∙ ap is_some at in
      let found = owner_found ends some.0 l here (map.keys ends) listed in
      let other = owner_of some.0 in
      let there = first_within (k.sound.chained other) some.0 (sym ((k.sound.chain other).first) ∙ first_is_some (ends_at ends other).first some.0 found) in
      record {
        x = some.0;
        first = some.1;
        low = in_range links (ends_at ends) k.sound l some.0 h;
        own = k.sound.apart other l some.0 there h;
      }

  -- there are fewer lists than items, where an item is in none
  pub fewer_lists : (v : ListsView) → IsShown links (ends_at ends) v → (l item : ℕ) → item < v.items → IsApart v item → map.len ends < length links
  fewer_lists v sh l item low apart =
      let items : length links ≡ v.items = sh.items in
      owned_but owner_of (length links) item ends (omega arith) owns
      (λ c e at first. let h = inside c item e at first in let none = alone_at links links (ends_at ends) k.sound v sh l item low apart (ends_at ends l) refl c in omega arith)

-- ---- the map's ends once a list has others

module _ (m : Ended) (l : ℕ) (f : Ends) where
  pub held_here : ends_at (map.insert m l f) l ≡ f
  held_here = ap (λ o. unwrap_or o blank_ends) (put_here m l f)

  pub held_other : (c : ℕ) → c ≢ l → ends_at (map.insert m l f) c ≡ ends_at m c
  held_other c d = ap (λ o. unwrap_or o blank_ends) (put_other m l f c d)

  pub gone_here : ends_at (map.remove m l) l ≡ blank_ends
  gone_here = ap (λ o. unwrap_or o blank_ends) (out_here m l)

  pub gone_other : (c : ℕ) → c ≢ l → ends_at (map.remove m l) c ≡ ends_at m c
  gone_other c d = ap (λ o. unwrap_or o blank_ends) (out_other m l c d)

  module _ (filled : (c : ℕ) (e : Ends) → map.get m c ≡ Some e → (x : ℕ) × (e.first ≡ Some x)) where
    pub filled_held : (x : ℕ) → f.first ≡ Some x → (c : ℕ) (e : Ends) → map.get (map.insert m l f) c ≡ Some e → (x : ℕ) × (e.first ≡ Some x)
    filled_held x first c e at = elim (equal_or_not c l) [
      | inl s ↦
          let same : f ≡ e = same_some f e (sym (put_here m l f) ∙ ap (map.get (map.insert m l f)) (sym s) ∙ at) in
          (x, sym (ap (λ (g : Ends). g.first) same) ∙ first)
      | inr d ↦ filled c e (sym (put_other m l f c d) ∙ at)
    ]

    pub filled_gone : (c : ℕ) (e : Ends) → map.get (map.remove m l) c ≡ Some e → (x : ℕ) × (e.first ≡ Some x)
    filled_gone c e at = let s = still (λ x. x) m l c e at in filled c e s.1

no_first : (xs : List ℕ) (x : ℕ) → first_or xs None ≡ None → 0 < times x xs → ⊥
no_first [] x none h = omega arith
no_first (y ∷ xs) x none h = none_some y (sym none)

-- a list that has an item stands in the map
pub ends_held : (links : List Link) (ends : Ended) (k : IsKept links ends) (l x : ℕ) → 0 < times x (k.sound.chained l) → map.contains_key ends l ≡ true
ends_held links ends k l x h = grind (arith, is_some, no_first)

-- a list has a first item where it stands in the map
pub first_told : (links : List Link) (ends : Ended) (k : IsKept links ends) (l : ℕ) (e : Ends) → e ≡ ends_at ends l → is_some e.first ≡ map.contains_key ends l
first_told links ends k l e is = grind (arith, is_some)

-- ---- a list has fewer items

module _ (m m' : Ended) (l : ℕ) (f : Ends) (none : f.first ≡ None → m' ≡ map.remove m l) (some : (x : ℕ) → f.first ≡ Some x → m' ≡ map.insert m l f) (blank : f.first ≡ None → f ≡ blank_ends)
    (filled : (c : ℕ) (e : Ends) → map.get m c ≡ Some e → (x : ℕ) × (e.first ≡ Some x)) where
  pub record IsLeft : Type 0 where
    pub here : ends_at m' l ≡ f
    pub other : (c : ℕ) → c ≢ l → ends_at m' c ≡ ends_at m c
    pub still_filled : (c : ℕ) (e : Ends) → map.get m' c ≡ Some e → (x : ℕ) × (e.first ≡ Some x)

  by_first : (o : Option ℕ) → f.first ≡ o → IsLeft
  by_first None e =
      let is = none e in
      record {
        here = ap (λ n. ends_at n l) is ∙ gone_here m l f ∙ sym (blank e);
        other = λ c d. ap (λ n. ends_at n c) is ∙ gone_other m l f c d;
        still_filled = λ c g at. filled_gone m l f filled c g (sym (ap (λ n. map.get n c) is) ∙ at);
      }
  by_first (Some x) e =
      let is = some x e in
      record {
        here = ap (λ n. ends_at n l) is ∙ held_here m l f;
        other = λ c d. ap (λ n. ends_at n c) is ∙ held_other m l f c d;
        still_filled = λ c g at. filled_held m l f filled x e c g (sym (ap (λ n. map.get n c) is) ∙ at);
      }

  pub is_left : IsLeft
  is_left = by_first f.first refl

-- a list in the map has its ends there
pub key_there : {P : Type 0} (m : Ended) (l : ℕ) → map.contains_key m l ≡ true → map.get m l ≡ None → P
key_there m l has none = absurd (no_true (sym (ap is_some none) ∙ has))

pub held_key : (m : Ended) (l : ℕ) (f : Ends) → map.contains_key (map.insert m l f) l ≡ true
held_key m l f = ap is_some (put_here m l f)

-- ---- how many lists there are, with room for as many more

some_in : {X : Type 0} (m : map.FinMap nat_cmp X) (l : ℕ) → map.contains_key m l ≡ true → 0 < map.len m
some_in {X} m l h = more (map.len m) refl
  where
    more : (n : ℕ) → map.len m ≡ n → 0 < map.len m
    more zero e = absurd (no_true (sym (ap is_some (map.get-empty {X = X} nat_cmp l)) ∙ ap (λ (k : map.FinMap nat_cmp X). map.contains_key k l) (sym (map.empty_of_len m e)) ∙ h))
    more (suc n) e = omega arith

-- a list that isn't in the map has no ends there
pub none_in : {X : Type 0} (m : map.FinMap nat_cmp X) (l : ℕ) → map.contains_key m l ≡ false → map.get m l ≡ None
none_in {X} m l h = grind (arith, no_true, is_some)

module _ {X : Type 0} (v w : MapView X) (l : ℕ) (f : X) where
  pub total_set : map.contains_key v.map l ≡ true → w ≡ record { map = map.insert v.map l f; room = v.room } → map.len w.map + w.room ≡ map.len v.map + v.room
  total_set h e =
      let a : map.len w.map ≡ map.len v.map = ap (λ (u : MapView X). map.len u.map) e ∙ map.len-insert nat_cmp_total v.map l f ∙ ap (λ b. cond b (map.len v.map) (map.len v.map + 1)) h in
      let b : w.room ≡ v.room = ap (λ (u : MapView X). u.room) e in omega arith

  pub total_put : map.contains_key v.map l ≡ false → 0 < v.room → w ≡ record { map = map.insert v.map l f; room = v.room - 1 } → map.len w.map + w.room ≡ map.len v.map + v.room
  total_put h some e =
      let a : map.len w.map ≡ map.len v.map + 1 = ap (λ (u : MapView X). map.len u.map) e ∙ map.len-insert nat_cmp_total v.map l f ∙ ap (λ b. cond b (map.len v.map) (map.len v.map + 1)) h in
      let b : w.room ≡ v.room - 1 = ap (λ (u : MapView X). u.room) e in omega arith

  pub total_out : map.contains_key v.map l ≡ true → w ≡ record { map = map.remove v.map l; room = v.room + 1 } → map.len w.map + w.room ≡ map.len v.map + v.room
  total_out h e =
      let a : map.len w.map ≡ map.len v.map - 1 = ap (λ (u : MapView X). map.len u.map) e ∙ map.len-remove nat_cmp_total v.map l ∙ ap (λ b. cond b (map.len v.map - 1) (map.len v.map)) h in
      let b : w.room ≡ v.room + 1 = ap (λ (u : MapView X). u.room) e in
      let some = some_in v.map l h in omega arith

-- ---- none yet, and room for more

pub kept_none : (links : List Link) (ends : Ended) → links ≡ [] → ends ≡ map.empty → IsKept links ends
kept_none links ends e f =
    let nothing : (l : ℕ) → map.get ends l ≡ None = (λ l. ap (λ (m : Ended). map.get m l) f ∙ map.get-empty {X = Ends} nat_cmp l) in
    record {
      sound = sound_none links (ends_at ends) e (λ c. ap (λ o. unwrap_or o blank_ends) (nothing c));
      filled = λ l g at. absurd (none_some g (sym (nothing l) ∙ at));
      few = let n : length links ≡ 0 = ap (λ (ks : List Link). length ks) e in omega arith;
    }

pub kept_grown : (links mores : List Link) (ends ends' : Ended) → IsKept links ends → ends' ≡ ends → length mores < 2 ^ 32 → ((x : ℕ) → x < length links → slice_get mores x ≡ slice_get links x) → IsKept mores ends'
kept_grown links mores ends ends' k is few kept = grind (arith, sound_grown)
