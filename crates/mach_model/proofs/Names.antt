-- Sums over tokens, and one task's names: what keeps what is true of them.
use Rattle.std.proofs.Common.{◌≡◌, ℕ, suc, zero, ◌+◌, ◌<◌, ◌≤◌, List, [], ◌∷◌, ◌++◌, refl, arith, true, false, Bool, ◌⊎◌, inl, inr, length, get_or, Some, None, sym, ap, ◌∙◌, Option, cond, subst}
use Rattle.std.specs.Prelude.{if◌then◌else◌, ◌&&◌, ◌==◌, slice_get, drop, map as list_map, is_some, ◌-◌, ◌/◌}
use Rattle.std.proofs.lemmas.Bool.{false_from_ne_true, eq-eqb, ne_eqb, true_from_ne_false}
use Rattle.std.proofs.lemmas.Bool.Decides.{eqb_tells}
use Rattle.std.specs.FinMap as map
use Rattle.std.specs.FinMap.{get-insert, get-remove, len-remove, empty_of_len, len-empty, entries-insert, same_map, nat_cmp-IsAntisymmetric, get-empty, len-insert}
use Rattle.std.specs.FinMap.Entries.{put, find, by_order}
use Rattle.std.specs.declared.cmp.Ordering.{Ordering}
use Rattle.std.specs.declared.cmp.Ordering.TheVariants.{Less, Equal, Greater}
use Rattle.std.specs.Ordering.{nat_cmp, eq_by_cmp, is_eq}
use Rattle.std.specs.Cmp.{nat_cmp_total, eq_by_cmp_equiv}
use Rattle.mach_types.specs.Tokens.{Token, Kind, weigh, count, is_of, is_held, Place, receive, send, send_once, Request, no_senders, port_destroyed, dead_name}
use Rattle.mach_types.specs.Numbers.{dead_word, most_names, most_references}
use Rattle.mach_model.specs.Death.{same_place}
use Rattle.mach_model.specs.State.{State, at, Names, IsFresh, Target, lookup, request_at, IsFreshIndex}
use Rattle.mach_model.specs.Carried.{lying}
use Rattle.mach_model.specs.Lawful.{tally, is_once, onces, HasReferences, LawfulTasks, LawfulSpace, LawfulNames, LawfulSets, IsRight, LawfulGround}
use Rattle.mach_model.specs.Midway.{IsOnName}

-- ---- Sums over the tokens.

pub weigh-append : (h : Token → ℕ) (xs ys : List Token) → weigh h (xs ++ ys) ≡ weigh h xs + weigh h ys
weigh-append h [] ys = omega arith
weigh-append h (x ∷ xs) ys = omega (arith, weigh-append h xs ys)

pub weigh-le : (g h : Token → ℕ) → ((x : Token) → g x ≤ h x) → (xs : List Token) → weigh g xs ≤ weigh h xs
weigh-le g h below [] = omega arith
weigh-le g h below (x ∷ xs) = omega (arith, below x, weigh-le g h below xs)

pub length-weigh : (xs : List Token) → length xs ≡ weigh (λ x. 1) xs
length-weigh [] = refl
length-weigh (x ∷ xs) = omega (arith, length-weigh xs)

pub if_le : (a b : Bool) → (a ≡ true → b ≡ true) → (if a then 1 else 0) ≤ (if b then 1 else 0)
if_le true true f = omega arith
if_le false b f = omega arith
if_le true false f = absurd (let e : false ≡ true = f refl in cc)

pub right_of : (a b : Bool) → (a && b) ≡ true → b ≡ true
right_of true b e = e
right_of false b e = absurd (cc)

pub left_of : (a b : Bool) → (a && b) ≡ true → a ≡ true
left_of true b e = refl
left_of false b e = absurd (cc)

pub pos_or_zero : (n : ℕ) → (n ≡ 0) ⊎ (0 < n)
pos_or_zero zero = inl refl
pos_or_zero (suc n) = inr (omega arith)

pub count_le : (f g : Token → Bool) → ((x : Token) → f x ≡ true → g x ≡ true) → (xs : List Token) → count f xs ≤ count g xs
count_le f g h xs = weigh-le _ _ (λ x. if_le (f x) (g x) (h x)) xs

pub held_le_of : (task : ℕ) (k : Kind) (p : ℕ) (xs : List Token) → count (is_held task k p) xs ≤ count (is_of k p) xs
held_le_of task k p xs = count_le (is_held task k p) (is_of k p) (λ x e. left_of _ _ e) xs

pub lying_le_of : (s : State) (kind : Kind) (q : ℕ) (place : Place) → lying s kind q place ≤ count (is_of kind q) s.ledger
lying_le_of s kind q place = count_le (λ x. is_of kind q x && same_place place x.place) (is_of kind q) (λ x e. left_of _ _ e) s.ledger

-- a test that some token passes, and one that none does
pub count_none : (test : Token → Bool) (xs : List Token) → ((k : ℕ) (d : Token) → k < length xs → test (get_or xs k d) ≡ true → ⊥) → count test xs ≡ 0
count_none test [] none = refl
count_none test (x ∷ xs) none = grind (arith, false_from_ne_true (test x) (none 0 x (omega arith)), count_none test xs (λ k d below. none (suc k) d (omega (arith, below))))

pub count_some : (test : Token → Bool) (xs : List Token) (k : ℕ) (d : Token) → k < length xs → test (get_or xs k d) ≡ true → 0 < count test xs
count_some test [] k d below e = absurd (omega arith)
count_some test (x ∷ xs) zero d below e = rw e (omega arith)
count_some test (x ∷ xs) (suc k) d below e = let h = count_some test xs k d (omega (arith, below)) e in omega (arith, h)

-- ---- tests of a token that comes or goes

pub both_test : (b c : Bool) → (b ≡ false) ⊎ (c ≡ false) → (if b && c then suc zero else zero) ≡ zero
both_test true c (inl h) = absurd (cc)
both_test true c (inr h) = rw h
both_test false c h = refl

-- ---- Functions that were changed at one number, and tests of equal numbers.

pub at_same : {A : Type 0} (f : ℕ → A) (k : ℕ) (v : A) (q : ℕ) → q ≡ k → at f k v q ≡ v
at_same f k v q e = rw (eq-eqb q k e)

pub at_other : {A : Type 0} (f : ℕ → A) (k : ℕ) (v : A) (q : ℕ) → (q ≡ k → ⊥) → at f k v q ≡ f q
at_other f k v q e = rw (ne_eqb q k e)

pub at_own : {A : Type 0} (f : ℕ → A) (k : ℕ) (v : A) → at f k v k ≡ v
at_own f k v = at_same f k v k refl

-- what holds of the value at k, and of all others, holds of the changed function
pub at_all : {A : Type 0} (P : ℕ → A → Type 0) (f : ℕ → A) (k : ℕ) (v : A) → P k v → ((q : ℕ) → (q ≡ k → ⊥) → P q (f q)) → (q : ℕ) → P q (at f k v q)
at_all P f k v own others q = grind arith

pub if_same : (q p : ℕ) → q ≡ p → (if q == p then suc zero else zero) ≡ suc zero
if_same q p e = rw (eq-eqb q p e)

pub if_other : (q p : ℕ) → (q ≡ p → ⊥) → (if q == p then suc zero else zero) ≡ zero
if_other q p e = rw (ne_eqb q p e)

pub both_same : (a b c d : ℕ) → a ≡ b → c ≡ d → (if a == b && c == d then suc zero else zero) ≡ suc zero
both_same a b c d e f = rw (eq-eqb a b e, eq-eqb c d f)

-- the same place of another port's log, or another place of the same
pub elsewhere : (p q e f : ℕ) → (p ≡ q → e ≡ f → ⊥) → (p == q && e == f) ≡ false
elsewhere p q e f not = grind (arith, ne_eqb)

-- an element of a list with one more at its end
pub snoc_cases : {A : Type 0} (xs : List A) (y : A) (i : ℕ) (x : A) → slice_get (xs ++ y ∷ []) i ≡ Some x →
    ((i < length xs) × (slice_get xs i ≡ Some x)) ⊎ ((i ≡ length xs) × (x ≡ y))
snoc_cases [] y zero x e = let e' : Some y ≡ Some x = e in inr (refl, (cc))
snoc_cases [] y (suc i) x e = absurd (let e' : None ≡ Some x = e in cc)
snoc_cases (z ∷ xs) y zero x e = inl (omega arith, e)
snoc_cases (z ∷ xs) y (suc i) x e = grind (arith, snoc_cases xs y i x e)

-- an element behind the first n
pub slice_get_drop : {A : Type 0} (n : ℕ) (xs : List A) (i : ℕ) → slice_get (drop n xs) i ≡ slice_get xs (n + i)
slice_get_drop zero xs i = ap (slice_get xs) (omega arith)
slice_get_drop (suc n) [] i = refl
slice_get_drop (suc n) (x ∷ xs) i = grind (arith, slice_get_drop n xs i)

-- ---- Finite maps of names: what stands under a name after another was put, how many values pass a test, fresh names.

-- ---- what stands under a name

apart : (n name : ℕ) → (n ≡ name → ⊥) → eq_by_cmp nat_cmp n name ≡ false
apart n name not = grind (arith, false_from_ne_true)

put_own : {V : Type 0} (name : ℕ) (v : V) (o : Option V) → cond (eq_by_cmp nat_cmp name name) (Some v) o ≡ Some v
put_own name v o = rw ((eq_by_cmp_equiv nat_cmp_total).refl name)

-- what was put is there
pub get_own : {V : Type 0} (m : map.FinMap nat_cmp V) (name : ℕ) (v : V) → map.get (map.insert m name v) name ≡ Some v
get_own m name v = get-insert nat_cmp_total m name v name ∙ put_own name v (map.get m name)

-- no other name changes
pub get_other : {V : Type 0} (m : map.FinMap nat_cmp V) (name : ℕ) (v : V) (n : ℕ) → (n ≡ name → ⊥) → map.get (map.insert m name v) n ≡ map.get m n
get_other {V} m name v n not = get-insert nat_cmp_total m name v n ∙ ap (λ (b : Bool). cond b (Some v) (map.get m n)) (apart n name not)

pub get_removed : {V : Type 0} (m : map.FinMap nat_cmp V) (name n : ℕ) → (n ≡ name → ⊥) → map.get (map.remove m name) n ≡ map.get m n
get_removed {V} m name n not = get-remove nat_cmp_total m name n ∙ ap (λ (b : Bool). cond b None (map.get m n)) (apart n name not)

-- a name that was there is there after another was put
pub kept : {V : Type 0} (m : map.FinMap nat_cmp V) (name : ℕ) (v : V) (n : ℕ) (w : V) → map.get m name ≡ None → map.get m n ≡ Some w → map.get (map.insert m name v) n ≡ Some w
kept m name v n w none some = get_other m name v n (λ e. (let f = ap (map.get m) e in cc)) ∙ some

-- what stands there is what was put, or was there
pub inserted : {V : Type 0} (m : map.FinMap nat_cmp V) (name : ℕ) (v : V) (n : ℕ) (w : V) → map.get (map.insert m name v) n ≡ Some w →
    (n ≡ name) × (v ≡ w) ⊎ (map.get m n ≡ Some w)
inserted m name v n w e = grind (arith, get_own, get_other)

-- maps that answer alike are equal
pub alike : {V : Type 0} (m n : map.FinMap nat_cmp V) → ((q : ℕ) → map.get m q ≡ map.get n q) → m ≡ n
alike m n is = same_map nat_cmp_total nat_cmp-IsAntisymmetric m n is

pub all_unused : {V : Type 0} (m : map.FinMap nat_cmp V) → ((n : ℕ) → map.get m n ≡ None) → m ≡ map.empty
all_unused m none = alike m map.empty (λ q. none q ∙ sym (get-empty nat_cmp q))

-- ---- how many values pass a test

abbrev pub values_of : {V : Type 0} → List (ℕ × V) → List V
values_of es = list_map (λ e. e.1) es

put_one : {V : Type 0} (test : V → Bool) (e : ℕ × V) (es : List (ℕ × V)) (name : ℕ) (v : V) (r : Ordering) →
    cond (is_eq r) (Some e.1) (find nat_cmp name es) ≡ None →
    (find nat_cmp name es ≡ None → tally test (values_of (put nat_cmp name v es)) ≡ (if test v then 1 else 0) + tally test (values_of es)) →
    tally test (values_of (by_order r ((name, v) ∷ e ∷ es) ((e.0, v) ∷ es) (e ∷ put nat_cmp name v es))) ≡ (if test v then 1 else 0) + tally test (values_of (e ∷ es))
put_one test e es name v Less none ih = refl
put_one test e es name v Equal none ih = absurd (cc)
put_one test e es name v Greater none ih = omega (arith, ih none)

put_tally : {V : Type 0} (test : V → Bool) (es : List (ℕ × V)) (name : ℕ) (v : V) → find nat_cmp name es ≡ None →
    tally test (values_of (put nat_cmp name v es)) ≡ (if test v then 1 else 0) + tally test (values_of es)
put_tally test [] name v none = refl
put_tally test (e ∷ es) name v none = put_one test e es name v (nat_cmp name e.0) none (put_tally test es name v)

pub insert_tally : {V : Type 0} (test : V → Bool) (m : map.FinMap nat_cmp V) (name : ℕ) (v : V) → map.get m name ≡ None →
    tally test (map.values (map.insert m name v)) ≡ (if test v then 1 else 0) + tally test (map.values m)
insert_tally test m name v none =
    rw (entries-insert nat_cmp_total m name v) (put_tally test (map.entries m) name v (sym (map.get-entries m name) ∙ none))

pub no_values : {V : Type 0} (test : V → Bool) → tally test (map.values (map.empty {X = V} {R = nat_cmp})) ≡ 0
no_values {V} test = ap (λ (es : List (ℕ × V)). tally test (values_of es)) (no_entries (map.entries (map.empty {X = V} {R = nat_cmp})) (sym (map.len-entries (map.empty {X = V} {R = nat_cmp})) ∙ len-empty nat_cmp V))
  where
    no_entries : (es : List (ℕ × V)) → length es ≡ 0 → es ≡ []
    no_entries [] e = refl
    no_entries (x ∷ es) e = absurd (omega arith)

pub removed_own : {V : Type 0} (m : map.FinMap nat_cmp V) (name : ℕ) → map.get (map.remove m name) name ≡ None
removed_own m name = get-remove nat_cmp_total m name name ∙ rw ((eq_by_cmp_equiv nat_cmp_total).refl name)

-- a name that is taken away and put again
pub put_again : {V : Type 0} (m : map.FinMap nat_cmp V) (name : ℕ) (v : V) → map.get m name ≡ Some v → map.insert (map.remove m name) name v ≡ m
put_again m name v is = grind (arith, alike, get_own, get_other, get_removed)

-- a value that passes is counted
pub some_tally : {V : Type 0} (test : V → Bool) (m : map.FinMap nat_cmp V) (name : ℕ) (v : V) → map.get m name ≡ Some v → test v ≡ true →
    0 < tally test (map.values m)
some_tally test m name v is passes =
    let e = insert_tally test (map.remove m name) name v (removed_own m name) in
    let f : tally test (map.values m) ≡ (if test v then 1 else 0) + tally test (map.values (map.remove m name)) =
    ap (λ x. tally test (map.values x)) (sym (put_again m name v is)) ∙ e in
    let g : (if test v then suc zero else zero) ≡ suc zero = rw passes in
    omega (arith, f, g)

-- ---- fresh names

-- a map in which each number from 1 to k stands has k names or more
pub many_names : {V : Type 0} (k : ℕ) (m : map.FinMap nat_cmp V) → ((n : ℕ) → 0 < n → n ≤ k → map.contains_key m n ≡ true) → k ≤ map.len m
many_names zero m all = omega arith
many_names {V} (suc k) m all =
    let has = all (suc k) (omega arith) (omega arith) in
    let less : map.len (map.remove m (suc k)) ≡ map.len m - 1 = len-remove nat_cmp_total m (suc k) ∙ rw has in
    let ih = many_names k (map.remove m (suc k)) (λ n above below. rw (get_removed m (suc k) n (λ e. omega (arith, e, below))) (all n above (omega (arith, below)))) in
    elim (pos_or_zero (map.len m)) [
      | inl h ↦ absurd (let e = get-empty {X = V} nat_cmp (suc k) in let f = ap (λ (x : map.FinMap nat_cmp V). map.contains_key x (suc k)) (empty_of_len m h) in let g : false ≡ true = sym (f ∙ ap is_some e) ∙ has in cc)
      | inr h ↦ omega (arith, less, ih, h)
    ]

-- a fresh name is at most one above the number of names
pub fresh_fits : (space : Names) (name : ℕ) → IsFresh space name → name ≤ map.len space + 1
fresh_fits space zero f = omega arith
fresh_fits space (suc k) f = let h = many_names k space (λ n above below. f.least n above (omega (arith, below))) in omega (arith, h)

-- the indices of some names, each with a name that has it
abbrev indexed : List (ℕ × Target) → map.FinMap nat_cmp ℕ
indexed [] = map.empty
indexed (e ∷ es) = map.insert (indexed es) (e.0 / 256) e.0

few_indices : (es : List (ℕ × Target)) → map.len (indexed es) ≤ length es
few_indices [] = let e = len-empty nat_cmp ℕ in omega (arith, e)
few_indices (e ∷ es) = go (few_indices es) (map.contains_key (indexed es) (e.0 / 256)) (len-insert nat_cmp_total (indexed es) (e.0 / 256) e.0)
  where
    go : map.len (indexed es) ≤ length es → (b : Bool) → map.len (map.insert (indexed es) (e.0 / 256) e.0) ≡ cond b (map.len (indexed es)) (map.len (indexed es) + 1) →
        map.len (map.insert (indexed es) (e.0 / 256) e.0) ≤ suc (length es)
    go ih true f = omega (arith, f, ih)
    go ih false f = omega (arith, f, ih)

has_index : (es : List (ℕ × Target)) (n : ℕ) → is_some (find nat_cmp n es) ≡ true → map.contains_key (indexed es) (n / 256) ≡ true
has_index [] n h = absurd (cc)
has_index (e ∷ es) n h = elim (eqb_tells (n / 256) (e.0 / 256)) [
  | inl same ↦ ap (map.contains_key (indexed (e ∷ es))) same.1 ∙ ap is_some (get_own (indexed es) (e.0 / 256) e.0)
  | inr other ↦
      ap is_some (get_other (indexed es) (e.0 / 256) e.0 (n / 256) other.1) ∙ has_index es n (later other.1 (nat_cmp n e.0) refl h)
]
  where
    later : (n / 256 ≡ e.0 / 256 → ⊥) → (r : Ordering) → nat_cmp n e.0 ≡ r → is_some (cond (is_eq r) (Some e.1) (find nat_cmp n es)) ≡ true → is_some (find nat_cmp n es) ≡ true
    later other Less f g = g
    later other Greater f g = g
    later other Equal f g = absurd (other (ap (λ (x : ℕ). x / 256) (nat_cmp-IsAntisymmetric n e.0 f)))

-- a name with a generation that is fresh has an index that is at most one above the number of names
pub fresh_index_fits : (space : Names) (given : ℕ → ℕ) (name : ℕ) → IsFreshIndex space given name → name / 256 ≤ map.len space + 1
fresh_index_fits space given name f =
    let few = few_indices (map.entries space) in
    let len = map.len-entries space in
    go (name / 256) refl few len
  where
    go : (i : ℕ) → name / 256 ≡ i → map.len (indexed (map.entries space)) ≤ length (map.entries space) → map.len space ≡ length (map.entries space) → i ≤ map.len space + 1
    go zero e few len = omega arith
    go (suc k) e few len =
        let h = many_names k (indexed (map.entries space)) (λ i above below.
        let x = f.least i above (omega (arith, below, e)) in
        ap (map.contains_key (indexed (map.entries space))) (sym x.1) ∙ has_index (map.entries space) x.0 (ap is_some (sym (map.get-entries space x.0)) ∙ x.2)) in
        omega (arith, h, few, len)

-- ---- One task's names: what is true of them beside the rights that the task has, and what keeps it.

-- ---- finite maps without a name

-- what is left was there, under another name
pub left : (m : Names) (name n : ℕ) (x : Target) → map.get (map.remove m name) n ≡ Some x → (n ≡ name → ⊥) × (map.get m n ≡ Some x)
left m name n x is = grind (arith, removed_own, get_removed)

pub remove_tally : (test : Target → Bool) (m : Names) (name : ℕ) (v : Target) → map.get m name ≡ Some v →
    tally test (map.values m) ≡ (if test v then 1 else 0) + tally test (map.values (map.remove m name))
remove_tally test m name v is =
    ap (λ (x : Names). tally test (map.values x)) (sym (put_again m name v is)) ∙ insert_tally test (map.remove m name) name v (removed_own m name)

pub fewer_names : (m : Names) (name : ℕ) → map.len (map.remove m name) ≤ map.len m
fewer_names m name = go (map.contains_key m name) (len-remove nat_cmp_total m name)
  where
    go : (b : Bool) → map.len (map.remove m name) ≡ cond b (map.len m - 1) (map.len m) → map.len (map.remove m name) ≤ map.len m
    go true e = omega (arith, e)
    go false e = omega (arith, e)

pub removed_length : (m : Names) (name : ℕ) (v : Target) → map.get m name ≡ Some v → map.len (map.remove m name) + 1 ≡ map.len m
removed_length m name v is =
    let a : map.len (map.insert (map.remove m name) name v) ≡ map.len (map.remove m name) + 1 =
    len-insert nat_cmp_total (map.remove m name) name v ∙ rw (removed_own m name) refl in
    let b : map.len (map.insert (map.remove m name) name v) ≡ map.len m = ap map.len (put_again m name v is) in omega (arith, a, b)

-- a name that stands for another thing now
pub again : (m : Names) (name : ℕ) (v : Target) → map.insert (map.remove m name) name v ≡ map.insert m name v
again m name v = grind (arith, alike, get_own, get_other, get_removed)

pub replace_tally : (test : Target → Bool) (m : Names) (name : ℕ) (v w : Target) → map.get m name ≡ Some v → test v ≡ test w →
    tally test (map.values (map.insert m name w)) ≡ tally test (map.values m)
replace_tally test m name v w is same = grind (
  arith,
  insert_tally test (map.remove m name) name w (removed_own m name),
  ap (λ (x : Names). tally test (map.values x)) (again m name w),
  remove_tally test m name v is,
)

pub same_length : (m : Names) (name : ℕ) (v w : Target) → map.get m name ≡ Some v → map.len (map.insert m name w) ≡ map.len m
same_length m name v w is = len-insert nat_cmp_total m name w ∙ rw is refl

-- ---- one task's names

-- what is asked of a name that comes
pub record IsNew (m : Names) (name : ℕ) : Type 0 where
  pub unused : map.get m name ≡ None
  pub some : 0 < name
  pub fits : name < dead_word
  pub room : map.len m < most_names

not_there : (m : Names) (name n : ℕ) (v : Target) → map.get m n ≡ None → map.get m name ≡ Some v → n ≡ name → ⊥
not_there m name n v none is same = let e : map.get m name ≡ None = subst (λ (k : ℕ). map.get m k ≡ None) same none in cc

same_target : (o : Option Target) (v w : Target) → o ≡ Some v → o ≡ Some w → v ≡ w
same_target o v w e f = cc

port_of : (p q : ℕ) → Target.port p ≡ Target.port q → p ≡ q
port_of p q e = cc

module _ (m : Names) (name : ℕ) (l : LawfulSpace m) where
  -- A name goes.
  pub less_space : LawfulSpace (map.remove m name)
  less_space = grind (arith, left, fewer_names, removed_own, get_removed)

  -- A name comes, or comes to stand for another thing.
  pub more_space : (v : Target) → 0 < name → name < dead_word → map.len (map.insert m name v) ≤ most_names → HasReferences v → LawfulSpace (map.insert m name v)
  more_space v some fits few has = grind (arith, get_other, inserted)

  pub new_space : (v : Target) → IsNew m name → HasReferences v → LawfulSpace (map.insert m name v)
  new_space v new has = more_space v new.some new.fits (
      let e : map.len (map.insert m name v) ≡ map.len m + 1 = len-insert nat_cmp_total m name v ∙ rw new.unused refl in
      let r = new.room in omega (arith, e, r)) has

  pub changed_space : (v w : Target) → map.get m name ≡ Some v → HasReferences w → LawfulSpace (map.insert m name w)
  changed_space v w is has = grind (arith, more_space, not_there, same_length)

module _ (m : Names) (rights now : Kind → ℕ → ℕ) (l : LawfulNames m rights) where
  abbrev New : Names → Type 0
  New names = LawfulNames names now

  -- The same rights, in another count.
  pub same_naming : ((kind : Kind) (q : ℕ) → now kind q ≡ rights kind q) → New m
  same_naming same = grind arith

  -- ---- the rights for one port change

  module _ (p : ℕ) (same : (kind : Kind) (q : ℕ) → (q ≡ p → ⊥) → now kind q ≡ rights kind q) (same_once : now send_once p ≡ rights send_once p) where
    onces_kept : (q : ℕ) → now send_once q ≡ rights send_once q
    onces_kept q = grind arith

    few_kept : now send p ≤ most_references → (q : ℕ) → now send q ≤ most_references
    few_kept few q = grind arith

    -- a port that has a right now has not the rights of one that has none
    unlike : (of : Kind → ℕ → ℕ) (q : ℕ) → 0 < of receive q + of send q → of receive p + of send p ≡ 0 → q ≡ p → ⊥
    unlike of q some none e = let z : of receive q + of send q ≡ 0 = ap (λ (k : ℕ). of receive k + of send k) e ∙ none in omega (arith, some, z)

    -- The port keeps its name.
    pub port_kept : (name : ℕ) → map.get m name ≡ Some (Target.port p) → 0 < now receive p + now send p → now send p ≤ most_references → New m
    port_kept name is some few = grind (arith, onces_kept, few_kept)

    -- Its last right goes, and the name with it.
    pub port_unnamed : (name : ℕ) → map.get m name ≡ Some (Target.port p) → now receive p + now send p ≡ 0 → New (map.remove m name)
    port_unnamed name is none = record {
      space = less_space m name l.space;
      has_right = λ n q e.
          let h = left m name n (Target.port q) e in
          let not : q ≡ p → ⊥ = λ x. h.0 (l.one_name n name p (subst (λ (k : ℕ). map.get m n ≡ Some (Target.port k)) x h.1) is) in
          let some = l.has_right n q h.1 in omega (arith, some, same receive q not, same send q not);
      is_named = λ q some.
          let not = unlike now q some none in
          let h = l.is_named q (omega (arith, some, same receive q not, same send q not)) in
          (h.0, get_removed m name h.0 (λ x. not (port_of q p (same_target (map.get m h.0) (Target.port q) (Target.port p) h.1 (ap (map.get m) x ∙ is)))) ∙ h.1);
      one_name = λ a b q e f. l.one_name a b q (left m name a (Target.port q) e).1 (left m name b (Target.port q) f).1;
      once_names = λ q. let t = remove_tally (is_once q) m name (Target.port p) is in let o = l.once_names q in let s = onces_kept q in omega (arith, t, o, s);
      few_references = few_kept (omega (arith, none));
    }

    -- A receive or send right comes for a port of which the task had neither, under a name of its own.
    pub port_named : (name : ℕ) → IsNew m name → rights receive p + rights send p ≡ 0 → 0 < now receive p + now send p → now send p ≤ most_references → New (map.insert m name (Target.port p))
    port_named name new none some few = record {
      space = new_space m name l.space (Target.port p) new tt;
      has_right = λ n q e. elim (inserted m name (Target.port p) n (Target.port q) e) [
        | inl h ↦ subst (λ (k : ℕ). 0 < now receive k + now send k) (port_of p q h.1) some
        | inr h ↦ let r = l.has_right n q h in omega (arith, r, same receive q (unnamed n q h), same send q (unnamed n q h))
      ];
      is_named = λ q more. elim (eqb_tells q p) [
        | inl h ↦ (name, get_own m name (Target.port p) ∙ ap (λ (k : ℕ). Some (Target.port k)) (sym h.1))
        | inr h ↦
            let g = l.is_named q (omega (arith, more, same receive q h.1, same send q h.1)) in
            (g.0, kept m name (Target.port p) g.0 (Target.port q) new.unused g.1)
      ];
      one_name = λ a b q e f. elim (inserted m name (Target.port p) a (Target.port q) e) [
        | inl h ↦ elim (inserted m name (Target.port p) b (Target.port q) f) [
          | inl g ↦ h.0 ∙ sym g.0
          | inr g ↦ absurd (unnamed b q g (sym (port_of p q h.1)))
        ]
        | inr h ↦ elim (inserted m name (Target.port p) b (Target.port q) f) [
          | inl g ↦ absurd (unnamed a q h (sym (port_of p q g.1)))
          | inr g ↦ l.one_name a b q h g
        ]
      ];
      once_names = λ q. let a = insert_tally (is_once q) m name (Target.port p) new.unused in let b = l.once_names q in let s = onces_kept q in omega (arith, a, b, s);
      few_references = few_kept few;
    }
      where
        -- no name was for the port
        unnamed : (n q : ℕ) → map.get m n ≡ Some (Target.port q) → q ≡ p → ⊥
        unnamed n q e = unlike rights q (l.has_right n q e) none

  -- ---- the receive and send rights stay

  module _ (receives : (q : ℕ) → now receive q ≡ rights receive q) (sends : (q : ℕ) → now send q ≡ rights send q) where
    -- the same ports have the same names
    others_named : (names : Names) → LawfulSpace names → ((n q : ℕ) → map.get names n ≡ Some (Target.port q) → map.get m n ≡ Some (Target.port q)) →
        ((n q : ℕ) → map.get m n ≡ Some (Target.port q) → map.get names n ≡ Some (Target.port q)) → ((q : ℕ) → now send_once q ≡ onces names q) → New names
    others_named names space before after once_names = grind arith

    -- A name that stands for no port with a receive or send right goes.
    pub other_unnamed : (name : ℕ) (v : Target) → map.get m name ≡ Some v → ((q : ℕ) → v ≡ Target.port q → ⊥) → ((q : ℕ) → now send_once q + (if is_once q v then 1 else 0) ≡ rights send_once q) →
        New (map.remove m name)
    other_unnamed name v is not less = others_named (map.remove m name) (less_space m name l.space)
        (λ n q e. (left m name n (Target.port q) e).1)
        (λ n q e. get_removed m name n (λ x. not q (same_target (map.get m n) v (Target.port q) (ap (map.get m) x ∙ is) e)) ∙ e)
        (λ q. let a = remove_tally (is_once q) m name v is in let b = l.once_names q in let c = less q in omega (arith, a, b, c))

    -- What is no port comes under a name of its own.
    pub other_named : (name : ℕ) (v : Target) → IsNew m name → HasReferences v → ((q : ℕ) → v ≡ Target.port q → ⊥) → ((q : ℕ) → now send_once q ≡ rights send_once q + (if is_once q v then 1 else 0)) →
        New (map.insert m name v)
    other_named name v new has not more = others_named (map.insert m name v) (new_space m name l.space v new has)
        (λ n q e. elim (inserted m name v n (Target.port q) e) [
          | inl h ↦ absurd (not q h.1)
          | inr h ↦ h
        ])
        (λ n q e. kept m name v n (Target.port q) new.unused e)
        (λ q. let a = insert_tally (is_once q) m name v new.unused in let b = l.once_names q in let c = more q in omega (arith, a, b, c))

    module _ (onces_same : (q : ℕ) → now send_once q ≡ rights send_once q) where
      -- A dead name has another number of references.
      pub dead_counted : (name a b : ℕ) → map.get m name ≡ Some (Target.dead a) → HasReferences (Target.dead b) → New (map.insert m name (Target.dead b))
      dead_counted name a b is fits = others_named (map.insert m name (Target.dead b)) (changed_space m name l.space (Target.dead a) (Target.dead b) is fits)
          (λ n q e. elim (inserted m name (Target.dead b) n (Target.port q) e) [
            | inl h ↦ absurd (no_dead b q h.1)
            | inr h ↦ h
          ])
          (λ n q e. get_other m name (Target.dead b) n (λ x. no_dead a q (same_target (map.get m n) (Target.dead a) (Target.port q) (ap (map.get m) x ∙ is) e)) ∙ e)
          (λ q. onces_same q ∙ l.once_names q ∙ sym (replace_tally (is_once q) m name (Target.dead a) (Target.dead b) is refl))
        where
          no_dead : (n q : ℕ) → Target.dead n ≡ Target.port q → ⊥
          no_dead n q e = cc

      -- What is under a name comes under another.
      pub renamed : (name other : ℕ) (v : Target) → map.get m name ≡ Some v → map.get m other ≡ None → 0 < other → other < dead_word → New (map.insert (map.remove m name) other v)
      renamed name other v is unused some fits = record {
        space = new_space (map.remove m name) other (less_space m name l.space) v (record {
          unused = gone;
          some = some;
          fits = fits;
          room = let b = removed_length m name v is in let c = l.few_names in omega (arith, b, c);
        }) (l.references name v is);
        has_right = λ n q e. elim (came n (Target.port q) e) [
          | inl h ↦ let r = l.has_right name q (is ∙ ap Some h.1) in omega (arith, r, receives q, sends q)
          | inr h ↦ let r = l.has_right n q h.1 in omega (arith, r, receives q, sends q)
        ];
        is_named = λ q more.
            let h = l.is_named q (omega (arith, more, receives q, sends q)) in
            elim (eqb_tells h.0 name) [
              | inl e ↦ (other, get_own (map.remove m name) other v ∙ sym is ∙ ap (map.get m) (sym e.1) ∙ h.1)
              | inr e ↦ (h.0, get_other (map.remove m name) other v h.0 (λ x. not_there m h.0 other (Target.port q) unused h.1 (sym x)) ∙ get_removed m name h.0 e.1 ∙ h.1)
            ];
        one_name = λ a b q e f. elim (came a (Target.port q) e) [
          | inl h ↦ elim (came b (Target.port q) f) [
            | inl g ↦ h.0 ∙ sym g.0
            | inr g ↦ absurd (g.0 (l.one_name b name q g.1 (is ∙ ap Some h.1)))
          ]
          | inr h ↦ elim (came b (Target.port q) f) [
            | inl g ↦ absurd (h.0 (l.one_name a name q h.1 (is ∙ ap Some g.1)))
            | inr g ↦ l.one_name a b q h.1 g.1
          ]
        ];
        once_names = λ q.
            let a = insert_tally (is_once q) (map.remove m name) other v gone in
            let b = remove_tally (is_once q) m name v is in
            let c = l.once_names q in let d = onces_same q in omega (arith, a, b, c, d);
        few_references = λ q. let h = l.few_references q in omega (arith, h, sends q);
      }
        where
          gone : map.get (map.remove m name) other ≡ None
          gone = get_removed m name other (not_there m name other v unused is) ∙ unused

          came : (n : ℕ) (x : Target) → map.get (map.insert (map.remove m name) other v) n ≡ Some x → (n ≡ other) × (v ≡ x) ⊎ (n ≡ name → ⊥) × (map.get m n ≡ Some x)
          came n x e = elim (inserted (map.remove m name) other v n x e) [
            | inl h ↦ inl h
            | inr h ↦ inr (left m name n x h)
          ]

-- ---- the names of all tasks

-- a task with a name lives
pub has_task : {live : ℕ → Bool} {made : ℕ} {naming : ℕ → Names} → LawfulTasks live made naming → (task name : ℕ) (x : Target) → map.get (naming task) name ≡ Some x → live task ≡ true
has_task {live} l task name x is = true_from_ne_false (live task) (λ e. let z = l.no_task task name e in cc)

-- Only this task's names change.
module _ (naming new : ℕ → Names) (task : ℕ) (others : (t : ℕ) → (t ≡ task → ⊥) → new t ≡ naming t) where
  pub tasks_named : (live : ℕ → Bool) (made : ℕ) → LawfulTasks live made naming → live task ≡ true → LawfulTasks live made new
  tasks_named live made l is_task = grind arith

  pub all_named : (rights now : ℕ → Kind → ℕ → ℕ) → ((t : ℕ) → LawfulNames (naming t) (rights t)) → ((t : ℕ) → (t ≡ task → ⊥) → (kind : Kind) (q : ℕ) → now t kind q ≡ rights t kind q) →
      LawfulNames (new task) (now task) → (t : ℕ) → LawfulNames (new t) (now t)
  all_named rights now l same own t = grind (arith, same_naming)

-- ---- The names of port sets, and what keeps them.

abbrev pub IsNoSet : Target → Type 0
IsNoSet x = (set : ℕ) → x ≡ Target.set set → ⊥

-- ---- one task's names

-- The same names stand for the same sets.
pub record SameSets (m n : Names) : Type 0 where
  pub there : (name set : ℕ) → map.get m name ≡ Some (Target.set set) → map.get n name ≡ Some (Target.set set)
  pub back : (name set : ℕ) → map.get n name ≡ Some (Target.set set) → map.get m name ≡ Some (Target.set set)

pub SameSets-refl : (m : Names) → SameSets m m
SameSets-refl m = record { there = λ name set e. e; back = λ name set e. e }

one_target : (o : Option Target) (v w : Target) → o ≡ Some v → o ≡ Some w → v ≡ w
one_target o v w e f = cc

no_target : (o : Option Target) (v : Target) → o ≡ None → o ≡ Some v → ⊥
no_target o v e f = cc

-- A name that stands for no set goes.
pub removed_sets : (m : Names) (name : ℕ) (x : Target) → map.get m name ≡ Some x → IsNoSet x → SameSets m (map.remove m name)
removed_sets m name x is not = grind (arith, get_removed, one_target, left)

-- A name that stood for no set stands for another thing that is none.
pub replaced_sets : (m : Names) (name : ℕ) (x : Target) → ((set : ℕ) → map.get m name ≡ Some (Target.set set) → ⊥) → IsNoSet x → SameSets m (map.insert m name x)
replaced_sets m name x before not = grind (arith, get_other, inserted)

-- An unused name comes to stand for no set.
pub inserted_sets : (m : Names) (name : ℕ) (x : Target) → map.get m name ≡ None → IsNoSet x → SameSets m (map.insert m name x)
inserted_sets m name x none not = replaced_sets m name x (λ set e. no_target (map.get m name) (Target.set set) none e) not

pub dead_sets : (m : Names) (name a b : ℕ) → map.get m name ≡ Some (Target.dead a) → SameSets m (map.insert m name (Target.dead b))
dead_sets m name a b is = replaced_sets m name (Target.dead b) (λ set e. (let f = one_target (map.get m name) (Target.dead a) (Target.set set) is e in cc)) (λ set e. cc)

-- ---- all tasks

-- What is true of the sets' names stays where one task's names change, and the same of them stand for the same sets.
pub kept_set_law : (naming new : ℕ → Names) (owner : ℕ → Option ℕ) (made task : ℕ) → LawfulSets naming owner made → ((t : ℕ) → (t ≡ task → ⊥) → new t ≡ naming t) →
    SameSets (naming task) (new task) → LawfulSets new owner made
kept_set_law naming new owner made task l others own = grind arith

pub at_law : (naming : ℕ → Names) (task : ℕ) (owner : ℕ → Option ℕ) (made : ℕ) (names : Names) → LawfulSets naming owner made → SameSets (naming task) names → LawfulSets (at naming task names) owner made
at_law naming task owner made names l same = grind (arith, kept_set_law, at_other, at_same)

-- A name that becomes another number keeps its set.
module _ (naming : ℕ → Names) (task : ℕ) (owner : ℕ → Option ℕ) (made o n : ℕ) (x : Target) (l : LawfulSets naming owner made) (is : map.get (naming task) o ≡ Some x) (unused : map.get (naming task) n ≡ None) where
  abbrev moved : Names
  moved = map.insert (map.remove (naming task) o) n x

  abbrev all : ℕ → Names
  all = at naming task moved

  -- what a name stands for was under it, or is what came
  came : (t name set : ℕ) → map.get (all t) name ≡ Some (Target.set set) →
      (t ≡ task) × (name ≡ n) × (x ≡ Target.set set) ⊎ (map.get (naming t) name ≡ Some (Target.set set)) × (t ≡ task → name ≡ o → ⊥)
  came t name set e = grind (arith, inserted, at_same, left, at_other)

  goes : (t name set : ℕ) → map.get (naming t) name ≡ Some (Target.set set) → (other : ℕ) × (map.get (all t) other ≡ Some (Target.set set))
  goes t name set e = elim (eqb_tells t task) [
    | inl h ↦
        let e' : map.get (naming task) name ≡ Some (Target.set set) = subst (λ (k : ℕ). map.get (naming k) name ≡ Some (Target.set set)) h.1 e in
        let here : all t ≡ moved = at_same naming task moved t h.1 in
        elim (eqb_tells name o) [
          | inl g ↦ (n, ap (λ (m : Names). map.get m n) here ∙ get_own (map.remove (naming task) o) n x ∙ sym is ∙ ap (map.get (naming task)) (sym g.1) ∙ e')
          | inr g ↦ (
            name,
            ap (λ (m : Names). map.get m name) here
                ∙ get_other (map.remove (naming task) o) n x name (λ same. no_target (map.get (naming task) n) (Target.set set) unused (ap (map.get (naming task)) (sym same) ∙ e'))
                ∙ get_removed (naming task) o name g.1 ∙ e',
          )
        ]
    | inr h ↦ (name, ap (λ (m : Names). map.get m name) (at_other naming task moved t h.1) ∙ e)
  ]

  -- what came was the old name's
  here_owned : (set : ℕ) → x ≡ Target.set set → map.get (naming task) o ≡ Some (Target.set set)
  here_owned set e = is ∙ ap (λ (y : Target). Some y) e

  pub rename_law : LawfulSets all owner made
  rename_law = grind (arith, came, here_owned, goes)

-- ---- Requests while names change: one on a name that goes ends, and each that stands has a right under its name.

-- From these requests to those, and with these names: a request on a port stays as it is; one that stands on a name stood, and has a
-- right under it.
pub record KeepsRequests (stands now : Request → Bool) (naming : ℕ → Names) : Type 0 where
  pub ports : (r : Request) → ¬ (IsOnName r) → now r ≡ stands r
  pub names : (t n : ℕ) → now (dead_name t n) ≡ true → (stands (dead_name t n) ≡ true) × IsRight (map.get (naming t) n)

pub stood : {stands now : Request → Bool} {naming : ℕ → Names} → KeepsRequests stands now naming → (r : Request) → now r ≡ true → stands r ≡ true
stood k (no_senders p) e = sym (k.ports (no_senders p) (λ h. h)) ∙ e
stood k (port_destroyed p) e = sym (k.ports (port_destroyed p) (λ h. h)) ∙ e
stood k (dead_name t n) e = (k.names t n e).0

-- Each request still stands on something.
pub all_ground : (live : ℕ → Bool) (naming new : ℕ → Names) (stands now : Request → Bool) → LawfulGround live naming stands → KeepsRequests stands now new → LawfulGround live new now
all_ground live naming new stands now g k = grind (arith, stood)

module _ (s : State) (ground : LawfulGround s.live_port s.naming s.stands) where
  pub requests_stay : KeepsRequests s.stands s.stands s.naming
  requests_stay = record { ports = λ r not. refl; names = λ t n e. (e, ground.stands_on (dead_name t n) e) }

  -- ---- a name goes

  ended_other : (b c : Bool) → (if b then false else c) ≡ true → (b ≡ false) × (c ≡ true)
  ended_other true c e = absurd (cc)
  ended_other false c e = (refl, e)

  not_both : (a b : Bool) → (a && b) ≡ false → a ≡ true → b ≡ false
  not_both true b e f = e
  not_both false b e f = absurd (cc)

  pub without_requests : (task name : ℕ) → KeepsRequests s.stands (request_at s.stands (dead_name task name) false) (at s.naming task (map.remove (s.naming task) name))
  without_requests task name = grind (arith, ended_other, at_same, get_removed, not_both, eq-eqb, at_other)

  -- ---- a name is given

  pub named_requests : (task name : ℕ) (x : Target) → IsRight (Some x) ⊎ ¬ (IsRight (lookup s task name)) →
      KeepsRequests s.stands s.stands (at s.naming task (map.insert (s.naming task) name x))
  named_requests task name x is = grind (arith, get_own, get_other, at_same, at_other)

pub none_right : (o : Option Target) → o ≡ None → ¬ (IsRight o)
none_right o e h = subst IsRight e h

pub dead_not_right : (o : Option Target) (n : ℕ) → o ≡ Some (Target.dead n) → ¬ (IsRight o)
dead_not_right o n e h = subst IsRight e h
