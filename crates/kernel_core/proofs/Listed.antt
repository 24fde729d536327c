-- A listing has no more names, and a set no more members, than the task has names.
use Rattle.std.proofs.Common.{◌≡◌, ◌⊎◌, ◌≤◌, ℕ, zero, suc, ◌<◌, true, List, [], ◌∷◌, length, Option, Some, None, refl, sym, ap, ◌∙◌, arith, inl, inr, map as list_map}
use Rattle.std.specs.Prelude.{AllPairs, Contains, is_some}
use Rattle.std.specs.Ordering.{nat_cmp}
use Rattle.std.specs.FinMap as map
use Rattle.std.proofs.lemmas.Map.Views.{Contains-from_any}
use mathlib.Core.Logic.{dite}
use native.Mathlib.Decide.{ℕ_discrete}
use Rattle.mach_model.specs.State.{State}
use Rattle.mach_model.specs.Telling.{names_of, TellsMembers}
use Rattle.mach_model.specs.NameGuards.{IsNoTask}
use Rattle.name_space.specs.Names.{SpaceView}
use Rattle.copyin_base.specs.Shows.{Shows}
use Rattle.copyin_base.specs.Worlds.{WorldView, space_at}
use Rattle.transfer.specs.Transfer.{names_in}
use Rattle.kernel_core_base.proofs.Members.{keys_in, rising, same_key}

-- ---- rising lists

abbrev IsRising : List ℕ → Type 0
IsRising xs = AllPairs (λ a b. a < b) xs

contains_first : (x : ℕ) (xs : List ℕ) → Contains (x ∷ xs) x
contains_first x xs = (0, (omega arith), refl)

contains_later : (x : ℕ) (xs : List ℕ) (n : ℕ) → Contains xs n → Contains (x ∷ xs) n
contains_later x xs n (k, within, is) = (suc k, (omega (arith, within)), is)

contains_cases : (x : ℕ) (xs : List ℕ) (n : ℕ) → Contains (x ∷ xs) n → (x ≡ n) ⊎ Contains xs n
contains_cases x xs n (zero, within, is) = inl is
contains_cases x xs n (suc k, within, is) = inr (k, (omega (arith, within)), is)

none_contained : (n : ℕ) → Contains [] n → ⊥
none_contained n (k, within, is) = omega (arith, within)

below_later : (x : ℕ) (xs : List ℕ) (n : ℕ) → IsRising (x ∷ xs) → Contains xs n → x < n
below_later x xs n rising (k, within, is) = let h = rising 0 (suc k) n (omega arith) (omega (arith, within)) in omega (arith, h, is)

rising_tail : (x : ℕ) (xs : List ℕ) → IsRising (x ∷ xs) → IsRising xs
rising_tail x xs rising = λ i j d less within. rising (suc i) (suc j) d (omega (arith, less)) (omega (arith, within))

-- the first of one list is not behind that of the other
not_behind : (x y : ℕ) (xs ys : List ℕ) → IsRising (y ∷ ys) → ((n : ℕ) → Contains (x ∷ xs) n → Contains (y ∷ ys) n) → (x < y → ⊥)
not_behind x y xs ys rising f less = elim (contains_cases y ys x (f x (contains_first x xs))) [
  | inl h ↦ omega (arith, h, less)
  | inr h ↦ let g = below_later y ys x rising h in omega (arith, g, less)
]

tail_in_tail : (x y : ℕ) (xs ys : List ℕ) → x ≡ y → IsRising (x ∷ xs) → ((n : ℕ) → Contains (x ∷ xs) n → Contains (y ∷ ys) n) → (n : ℕ) → Contains xs n → Contains ys n
tail_in_tail x y xs ys e rising f n h = elim (contains_cases y ys n (f n (contains_later x xs n h))) [
  | inl g ↦ absurd (let b = below_later x xs n rising h in omega (arith, b, e, g))
  | inr g ↦ g
]

-- what is above the other's first is in its tail
all_in_tail : (x y : ℕ) (xs ys : List ℕ) → y < x → IsRising (x ∷ xs) → ((n : ℕ) → Contains (x ∷ xs) n → Contains (y ∷ ys) n) → (n : ℕ) → Contains (x ∷ xs) n → Contains ys n
all_in_tail x y xs ys above rising f n h = elim (contains_cases y ys n (f n h)) [
  | inl g ↦ absurd (elim (contains_cases x xs n h) [
    | inl k ↦ omega (arith, above, g, k)
    | inr k ↦ let b = below_later x xs n rising k in omega (arith, b, above, g)
  ])
  | inr g ↦ g
]

fewer : (xs ys : List ℕ) → IsRising xs → IsRising ys → ((n : ℕ) → Contains xs n → Contains ys n) → length xs ≤ length ys
fewer [] ys a b f = omega arith
fewer (x ∷ xs) [] a b f = absurd (none_contained x (f x (contains_first x xs)))
fewer (x ∷ xs) (y ∷ ys) a b f = dite (ℕ_discrete x y)
    (λ same. let h = fewer xs ys (rising_tail x xs a) (rising_tail y ys b) (tail_in_tail x y xs ys same a f) in omega (arith, h))
    (λ other.
    let low = not_behind x y xs ys b f in
    let above : y < x = omega (arith, low, other) in
    let h = fewer (x ∷ xs) ys a (rising_tail y ys b) (all_in_tail x y xs ys above a f) in
    omega (arith, h))

-- ---- the keys of a map

is_key : {X : Type 0} (m : map.FinMap nat_cmp X) (n : ℕ) → is_some (map.get m n) ≡ true → Contains (map.keys m) n
is_key m n some = Contains-from_any same_key n (map.keys m) (sym (map.contains_key-keys m n) ∙ some)

keys_len : {X : Type 0} (es : List (ℕ × X)) → length (keys_in es) ≡ length es
keys_len [] = refl
keys_len (e ∷ es) = ap suc (keys_len es)

mapped_len : {A B : Type 0} (f : A → B) (xs : List A) → length (list_map f xs) ≡ length xs
mapped_len f [] = refl
mapped_len f (x ∷ xs) = ap suc (mapped_len f xs)

-- ---- names and members, of a task that lives

names_are : (w : WorldView) (s : State) (task : ℕ) → Shows w s → ¬ (IsNoTask s task) → map.len (s.naming task) ≡ names_in (space_at w task)
names_are w s task sh lives = go (space_at w task) refl
  where
    go : (o : Option SpaceView) → space_at w task ≡ o → map.len (s.naming task) ≡ names_in o
    go (Some space) e = sym (sh.agrees.names_kept task space e)
    go None e = absurd (lives (sym (sh.agrees.live_task task) ∙ ap is_some e))

pub names_few : (w : WorldView) (s : State) (task : ℕ) (names : List (ℕ × ℕ)) → Shows w s → ¬ (IsNoTask s task) → names ≡ names_of s task → length names ≤ names_in (space_at w task)
names_few w s task names sh lives is =
    let m = s.naming task in
    let told = ap length is ∙ mapped_len _ (map.entries m) in
    omega (arith, told, map.len-entries m, names_are w s task sh lives)

pub members_few : (w : WorldView) (s : State) (task name : ℕ) (members : List ℕ) → Shows w s → ¬ (IsNoTask s task) → TellsMembers s task name members → length members ≤ names_in (space_at w task)
members_few w s task name members sh lives tells =
    let m = s.naming task in
    let h = fewer members (map.keys m) tells.rising (rising (map.entries m) (map.entries_sorted m))
    (λ n in_it. let p = (tells.each n).0 in_it in is_key m n (ap is_some p.1)) in
    omega (arith, h, keys_len (map.entries m), map.len-entries m, names_are w s task sh lives)
