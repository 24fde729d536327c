-- The keys of a map in turn, each found as the next one.
use Rattle.std.proofs.Common.{◌≡◌, inl, inr, ℕ, ◌+◌, ◌<◌, ◌≤◌, ◌&&◌, Bool, true, false, cond, T, List, [], ◌∷◌, ◌++◌, length, refl, ap, sym, subst, ◌∙◌, Option, Some, None, is_some, IfSome, IfNone, map as map_list, arith}
use Rattle.std.proofs.lemmas.Bool.{cases_lt}
use Rattle.std.proofs.lemmas.Cmp.{ranked}
use Rattle.std.proofs.lemmas.List.{append-nil, append_assoc}
use Rattle.std.specs.declared.cmp.Ordering.{Ordering}
use Rattle.std.specs.declared.cmp.Ordering.TheVariants.{Less, Equal, Greater}
use Rattle.std.specs.Ordering.{nat_cmp, is_lt, MatchOrdering}
use Rattle.std.specs.Cmp.{unsigned_tied}
use Rattle.std.specs.FinMap as map
use Rattle.std.specs.FinMap.Entries.{find, is_sorted, below_all}
use Rattle.name_space_base.specs.Pages.{IsNextUsed}
use Rattle.name_space.specs.declared.Entry.{Entry}
use Rattle.name_space.specs.Names.{Names}
use Rattle.name_space.proofs.Keys.{some_or_none, equal_or_not, eqb-same}
use Rattle.name_space.proofs.Gathered.{used_there}
use Rattle.std.proofs.lemmas.Bool.{ne_eqb}

abbrev pub Listed : Type 0
Listed = List (ℕ × Entry)

abbrev pub first_of : ℕ × Entry → ℕ
first_of e = e.0

left_of : (a b : Bool) → T (a && b) → T a
left_of true b h = tt
left_of false b h = h

right_of : (a b : Bool) → T (a && b) → T b
right_of true b h = h
right_of false b h = absurd h

less_of : (x y : ℕ) (r : Ordering) → MatchOrdering r (x < y) (x ≡ y) (y < x) → T (is_lt r) → x < y
less_of x y Less h t = h
less_of x y Equal h t = absurd t
less_of x y Greater h t = absurd t

find_here : (q : ℕ) (e : ℕ × Entry) (es : Listed) → q ≡ e.0 → find nat_cmp q (e ∷ es) ≡ Some e.1
find_here q e es is = ap (λ k. find nat_cmp k (e ∷ es)) is ∙ ap (λ b. cond b (Some e.1) (find nat_cmp e.0 es)) (unsigned_tied e.0 e.0 ∙ eqb-same e.0)

find_later : (q : ℕ) (e : ℕ × Entry) (es : Listed) → (q ≡ e.0 → ⊥) → find nat_cmp q (e ∷ es) ≡ find nat_cmp q es
find_later q e es d = ap (λ b. cond b (Some e.1) (find nat_cmp q es)) (unsigned_tied q e.0 ∙ ne_eqb q e.0 d)

-- what is found in a rising list is greater than what comes before it
found_above : (k q : ℕ) (es : Listed) (x : Entry) → T (below_all nat_cmp k es) → find nat_cmp q es ≡ Some x → k < q
found_above k q [] x low there = absurd (some_or_none x _ there refl)
found_above k q (e ∷ es) x low there = elim (equal_or_not q e.0) [
  | inl is ↦ (let less : k < e.0 = less_of k e.0 (nat_cmp k e.0) (ranked k e.0 _ refl) (left_of (is_lt (nat_cmp k e.0)) (below_all nat_cmp k es) low) in omega arith)
  | inr d ↦ found_above k q es x (right_of (is_lt (nat_cmp k e.0)) (below_all nat_cmp k es) low) (sym (find_later q e es d) ∙ there)
]

not_below : (k q : ℕ) (es : Listed) → T (below_all nat_cmp k es) → q ≤ k → (o : Option Entry) → find nat_cmp q es ≡ o → find nat_cmp q es ≡ None
not_below k q es low few None h = h
not_below k q es low few (Some x) h = absurd (let more : k < q = found_above k q es x low h in omega arith)

-- So many keys were found, up to one, and the others are left.
pub record Remains (m : Names) (items : List ℕ) (turns start : ℕ) : Type 0 where
  pub left : Listed
  pub so_far : items ++ map_list first_of left ≡ map.keys m
  pub sorted : T (is_sorted nat_cmp left)
  pub from_here : (q : ℕ) → start ≤ q → find nat_cmp q left ≡ map.get m q
  pub none_before : (q : ℕ) → q < start → find nat_cmp q left ≡ None
  pub counted : turns + length left ≡ map.len m

pub remains_first : (m : Names) → map.get m 0 ≡ None → Remains m [] 0 1
remains_first m none = record {
  left = map.entries m;
  so_far = refl;
  sorted = map.entries_sorted m;
  from_here = λ q a. sym (map.get-entries m q);
  none_before = λ q a. sym (map.get-entries m q) ∙ ap (map.get m) (let zero : q ≡ 0 = omega arith in zero) ∙ none;
  counted = (let long : map.len m ≡ length (map.entries m) = map.len-entries m in omega arith);
}

-- one more there is, where not all were found
some_left : (m : Names) (left : Listed) (start : ℕ) → ((q : ℕ) → start ≤ q → find nat_cmp q left ≡ map.get m q) → ((q : ℕ) → q < start → find nat_cmp q left ≡ None) →
    ((n : ℕ) → start ≤ n → map.get m n ≡ None) → length left ≡ 0
some_left m [] start here before none = refl
some_left m (e ∷ rest) start here before none = absurd (some_or_none e.1 _ (find_here e.0 e rest refl) (elim (cases_lt e.0 start) [ inl h ↦ before e.0 h | inr h ↦ here e.0 h ∙ none e.0 h ]))

pub remains_some : (m : Names) (items : List ℕ) (turns start : ℕ) → Remains m items turns start → turns < map.len m → (r : Option ℕ) → IfNone r ((n : ℕ) → start ≤ n → map.get m n ≡ None) → is_some r ≡ true
remains_some m items turns start x few (Some n) none = refl
remains_some m items turns start x few None none =
    let no_more : length x.left ≡ 0 = some_left m x.left start x.from_here x.none_before none in
    let counted = x.counted in
    absurd (omega arith)

next_of : (m : Names) (items : List ℕ) (turns start n : ℕ) (left : Listed) → items ++ map_list first_of left ≡ map.keys m → T (is_sorted nat_cmp left) → ((q : ℕ) → start ≤ q → find nat_cmp q left ≡ map.get m q) →
    ((q : ℕ) → q < start → find nat_cmp q left ≡ None) → turns + length left ≡ map.len m → IsNextUsed m start n → Remains m (items ++ n ∷ []) (turns + 1) (n + 1)
next_of m items turns start n [] so_far sorted here before counted next = grind (arith, used_there, some_or_none)
next_of m items turns start n (e ∷ rest) so_far sorted here before counted next =
    let there : (x : Entry) × (map.get m n ≡ Some x) = used_there m n next.used in
    let low : T (below_all nat_cmp e.0 rest) = left_of (below_all nat_cmp e.0 rest) (is_sorted nat_cmp rest) sorted in
    let own : start ≤ e.0 = elim (cases_lt e.0 start) [ inl h ↦ absurd (some_or_none e.1 _ (find_here e.0 e rest refl) (before e.0 h)) | inr h ↦ h ] in
    let used : map.get m e.0 ≡ Some e.1 = sym (here e.0 own) ∙ find_here e.0 e rest refl in
    let most : n ≤ e.0 = elim (cases_lt e.0 n) [ inl h ↦ absurd (some_or_none e.1 _ used (next.least e.0 own h)) | inr h ↦ h ] in
    let is : n ≡ e.0 = elim (equal_or_not n e.0) [
      | inl h ↦ h
      | inr d ↦ absurd (let more : e.0 < n = found_above e.0 n rest there.0 low (sym (find_later n e rest d) ∙ here n next.from ∙ there.1) in omega arith)
    ] in
    record {
      left = rest;
      so_far = append_assoc items (n ∷ []) (map_list first_of rest) ∙ ap (λ k. items ++ k ∷ map_list first_of rest) is ∙ so_far;
      sorted = right_of (below_all nat_cmp e.0 rest) (is_sorted nat_cmp rest) sorted;
      from_here = λ q a. sym (find_later q e rest (λ h. omega arith)) ∙ here q (let from = next.from in omega arith);
      none_before = λ q a. not_below e.0 q rest low (omega arith) (find nat_cmp q rest) refl;
      counted = omega arith;
    }

pub remains_next : (m : Names) (items : List ℕ) (turns start n : ℕ) → Remains m items turns start → IsNextUsed m start n → Remains m (items ++ n ∷ []) (turns + 1) (n + 1)
remains_next m items turns start n x next = next_of m items turns start n x.left x.so_far x.sorted x.from_here x.none_before x.counted next

pub remains_found : (m : Names) (items : List ℕ) (turns start : ℕ) → Remains m items turns start → (r : Option ℕ) (n : ℕ) → r ≡ Some n → IfSome r (IsNextUsed m start) → Remains m (items ++ n ∷ []) (turns + 1) (n + 1)
remains_found m items turns start x r n is next = remains_next m items turns start n x (subst (λ o. IfSome o (IsNextUsed m start)) is next)

none_left : (m : Names) (items : List ℕ) (left : Listed) → items ++ map_list first_of left ≡ map.keys m → length left ≡ 0 → items ≡ map.keys m
none_left m items [] so_far none = sym (append-nil items) ∙ so_far
none_left m items (e ∷ rest) so_far none = absurd (omega arith)

pub remains_all : (m : Names) (items : List ℕ) (turns start : ℕ) → Remains m items turns start → map.len m ≤ turns → items ≡ map.keys m
remains_all m items turns start x all = none_left m items x.left x.so_far (let counted = x.counted in omega arith)

pub if_none : (r : Option ℕ) {P : Type 0} → P → IfNone r P
if_none None p = p
if_none (Some x) p = tt
