-- Counts of fresh names as bytes by index.
use Rattle.std.proofs.Common.{◌≡◌, ◌≢◌, ℕ, zero, suc, ◌+◌, ◌-◌, ◌%◌, ◌<◌, ◌≤◌, max, List, [], length, get_or, set, unwrap_or, refl, ap, sym, ◌∙◌, arith}
use Rattle.std.proofs.lemmas.Bool.{cases_lt, cases_eq}
use Rattle.std.proofs.lemmas.List.{get_or-set_same, get_or-set_other, get_or_past, length-set}
use Rattle.std.proofs.lemmas.Grind.{get_or_default_zero}
use Rattle.std.specs.Ordering.{nat_cmp}
use Rattle.std.specs.FinMap as map
use Rattle.name_space_base.proofs.Tables.{tabulated-below, tabulated-above, same_gets, put_here, put_other, out_here, out_other}
use Rattle.tagged_names.specs.Names.{Given, count_of, with_count, counted}
use Rattle.tagged_names.specs.Counts.{CountsView, some_count, given_in}

pub get-given : (bytes : List ℕ) (i : ℕ) → map.get (given_in bytes) i ≡ some_count (get_or bytes i 0)
get-given bytes i = grind (arith, cases_lt, tabulated-below, tabulated-above, get_or_past)

or_zero : (n : ℕ) → unwrap_or (some_count n) 0 ≡ n
or_zero zero = refl
or_zero (suc n) = refl

pub count-given : (bytes : List ℕ) (i : ℕ) → count_of (given_in bytes) i ≡ get_or bytes i 0
count-given bytes i = ap (λ o. unwrap_or o 0) (get-given bytes i) ∙ or_zero (get_or bytes i 0)

pub same-given : (a b : List ℕ) → ((i : ℕ) → get_or a i 0 ≡ get_or b i 0) → given_in a ≡ given_in b
same-given a b same = same_gets _ _ (λ i. get-given a i ∙ ap some_count (same i) ∙ sym (get-given b i))

count_here : (given : Given) (i n : ℕ) → map.get (with_count given i n) i ≡ some_count n
count_here given i zero = out_here given i
count_here given i (suc n) = put_here given i (suc n)

count_other : (given : Given) (i n q : ℕ) → q ≢ i → map.get (with_count given i n) q ≡ map.get given q
count_other given i zero q d = out_other given i q d
count_other given i (suc n) q d = put_other given i (suc n) q d

pub given-set : (bytes : List ℕ) (i n : ℕ) → i < length bytes → given_in (set bytes i n) ≡ with_count (given_in bytes) i n
given-set bytes i n h = grind (arith, same_gets, cases_eq, set, get-given, get_or-set_same, count_here, get_or-set_other, count_other)

view_of : Given → ℕ → CountsView
view_of a r = record { given = a; reach = r }

pub same_counts : (a b : Given) (r s : ℕ) → a ≡ b → r ≡ s → ◌≡◌ {A = CountsView} record { given = a; reach = r } record { given = b; reach = s }
unfolding view_of
same_counts a b r s e f = ap (λ m. view_of m r) e ∙ ap (view_of b) f

pub no_counts : (bytes : List ℕ) → bytes ≡ [] → ◌≡◌ {A = CountsView} record { given = given_in bytes; reach = length bytes - 1 } record { given = map.empty; reach = 0 }
no_counts bytes none = same_counts _ _ _ 0 (same_gets _ _ (λ q. get-given bytes q ∙ ap (λ (l : List ℕ). some_count (get_or l q 0)) none ∙ sym (map.get-empty nat_cmp q))) (ap (λ (l : List ℕ). length l - 1) none)

module _ (bytes : List ℕ) (v : CountsView) (view_is : ◌≡◌ {A = CountsView} record { given = given_in bytes; reach = length bytes - 1 } v) where
  given_is : given_in bytes ≡ v.given
  given_is = ap (λ (a : CountsView). a.given) view_is

  reach_is : length bytes - 1 ≡ v.reach
  reach_is = ap (λ (a : CountsView). a.reach) view_is

  pub count_seen : (i : ℕ) → get_or bytes i 0 ≡ count_of v.given i
  count_seen i = sym (count-given bytes i) ∙ ap (λ (m : Given). count_of m i) given_is

  pub count_read : (i w : ℕ) → i < length bytes → w ≡ get_or bytes i w → w ≡ count_of v.given i
  count_read i w h e = e ∙ get_or_default_zero bytes i w h ∙ count_seen i

  pub count_past : (i : ℕ) → length bytes ≤ i → 0 ≡ count_of v.given i
  count_past i h = sym (get_or_past bytes i 0 h) ∙ count_seen i

  pub in_bytes : (i : ℕ) → 0 < i → i ≤ v.reach → i < length bytes
  in_bytes i a b = let r = reach_is in omega arith

  pub view_counted : (i w : ℕ) → 0 < i → i ≤ v.reach → w ≡ get_or bytes i w →
      ◌≡◌ {A = CountsView} record { given = given_in (set bytes i ((w + 1) % 256)); reach = length (set bytes i ((w + 1) % 256)) - 1 } record { given = counted v.given i; reach = v.reach }
  view_counted i w a b e = grind (arith, same_counts, given-set, in_bytes, given_is, count_read, length-set, reach_is)

  pub view_grown : (new : List ℕ) (i : ℕ) → length bytes ≤ i → length new ≡ i + 1 → ((k d : ℕ) → k < i + 1 → k < length bytes → get_or new k d ≡ get_or bytes k d)
      → ((k d : ℕ) → length bytes ≤ k → k < i + 1 → get_or new k d ≡ 0) → ◌≡◌ {A = CountsView} record { given = given_in new; reach = length new - 1 } record { given = v.given; reach = max v.reach i }
  view_grown new i short long same none = grind (arith, same_counts, same-given, given_is, reach_is, cases_lt, get_or_past)
