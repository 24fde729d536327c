-- A map and a set that are made of what stands at each number below a bound.
use Rattle.std.proofs.Common.{◌≡◌, ◌≢◌, inl, inr, ℕ, zero, suc, ◌+◌, ◌-◌, ◌<◌, ◌≤◌, ◌*◌, add-one, Bool, true, false, cond, ◌||◌, Option, Some, None, is_some, refl, ap, sym, ◌∙◌, subst, arith}
use Rattle.std.proofs.lemmas.Bool.{eq-eqb, ne_eqb, cases_eq, cases_Bool}
use Rattle.std.specs.Ordering.{nat_cmp}
use Rattle.std.specs.Cmp.{nat_cmp_total, unsigned_tied}
use Rattle.std.specs.FinMap as map
use Rattle.std.specs.FinSet as set
use Rattle.name_space_base.specs.Sound.{tabulated, with_value, chosen, sum_below}

module _ {X : Type 0} (m : map.FinMap nat_cmp X) (k : ℕ) where
  pub put_here : (v : X) → map.get (map.insert m k v) k ≡ Some v
  put_here v = map.get-insert nat_cmp_total m k v k ∙ ap (λ b. cond b (Some v) (map.get m k)) (unsigned_tied k k ∙ eq-eqb k k refl)

  pub put_other : (v : X) (q : ℕ) → q ≢ k → map.get (map.insert m k v) q ≡ map.get m q
  put_other v q n = map.get-insert nat_cmp_total m k v q ∙ ap (λ b. cond b (Some v) (map.get m q)) (unsigned_tied q k ∙ ne_eqb q k n)

  pub out_here : map.get (map.remove m k) k ≡ None
  out_here = map.get-remove nat_cmp_total m k k ∙ ap (λ b. cond b (let none : Option X = None in none) (map.get m k)) (unsigned_tied k k ∙ eq-eqb k k refl)

  pub out_other : (q : ℕ) → q ≢ k → map.get (map.remove m k) q ≡ map.get m q
  out_other q n = map.get-remove nat_cmp_total m k q ∙ ap (λ b. cond b (let none : Option X = None in none) (map.get m q)) (unsigned_tied q k ∙ ne_eqb q k n)

-- two maps that answer alike are equal
pub same_gets : {X : Type 0} (m n : map.FinMap nat_cmp X) → ((q : ℕ) → map.get m q ≡ map.get n q) → m ≡ n
same_gets m n is = map.same_map nat_cmp_total map.nat_cmp-IsAntisymmetric m n is

module _ {T : Type 0} where
  with_here : (m : map.FinMap nat_cmp T) (k : ℕ) (o : Option T) → map.get m k ≡ None → map.get (with_value m k o) k ≡ o
  with_here m k None e = e
  with_here m k (Some v) e = put_here m k v

  with_other : (m : map.FinMap nat_cmp T) (k : ℕ) (o : Option T) (q : ℕ) → q ≢ k → map.get (with_value m k o) q ≡ map.get m q
  with_other m k None q n = refl
  with_other m k (Some v) q n = put_other m k v q n

  module _ (at : ℕ → Option T) where
    pub tabulated-above : (bound q : ℕ) → bound ≤ q → map.get (tabulated at bound) q ≡ None
    unfolding tabulated
    tabulated-above zero q h = map.get-empty nat_cmp q
    tabulated-above (suc bound) q h = with_other (tabulated at bound) bound (at bound) q (omega arith) ∙ tabulated-above bound q (omega arith)

    pub tabulated-below : (bound q : ℕ) → q < bound → map.get (tabulated at bound) q ≡ at q
    unfolding tabulated
    tabulated-below zero q h = absurd (omega arith)
    tabulated-below (suc bound) q h = elim (cases_eq q bound) [
      | inl e ↦ subst (λ n. map.get (with_value (tabulated at bound) bound (at bound)) n ≡ at n) (sym e) (with_here (tabulated at bound) bound (at bound) (tabulated-above bound bound (omega arith)))
      | inr n ↦ with_other (tabulated at bound) bound (at bound) q n ∙ tabulated-below bound q (omega arith)
    ]

-- a map's length after a value is put in at a new key, or taken out at a key
absent : {X : Type 0} (o : Option X) → o ≡ None → is_some o ≡ false
absent o e = ap is_some e

pub len-put : {X : Type 0} (m : map.FinMap nat_cmp X) (k : ℕ) (v : X) → map.get m k ≡ None → map.len (map.insert m k v) ≡ map.len m + 1
len-put m k v none = map.len-insert nat_cmp_total m k v ∙ ap (λ b. cond b (map.len m) (map.len m + 1)) (absent _ none)

pub len-kept : {X : Type 0} (m : map.FinMap nat_cmp X) (k : ℕ) (v : X) → map.contains_key m k ≡ true → map.len (map.insert m k v) ≡ map.len m
len-kept m k v some = map.len-insert nat_cmp_total m k v ∙ ap (λ b. cond b (map.len m) (map.len m + 1)) some

pub len-out : {X : Type 0} (m : map.FinMap nat_cmp X) (k : ℕ) → map.contains_key m k ≡ true → map.len (map.remove m k) + 1 ≡ map.len m
len-out {X} m k some = elim (cases_eq (map.len m) 0) [
  | inl e ↦ absurd (let none : map.get m k ≡ None = ap (λ (n : map.FinMap nat_cmp X). map.get n k) (map.empty_of_len m e) ∙ map.get-empty nat_cmp k in let f : is_some (map.get m k) ≡ false = absent _ none in cc)
  | inr n ↦ let e : map.len (map.remove m k) ≡ map.len m - 1 = map.len-remove nat_cmp_total m k ∙ ap (λ b. cond b (map.len m - 1) (map.len m)) some in omega arith
]

-- a set of numbers that pass a test

pub in_here : (s : set.FinSet nat_cmp) (k : ℕ) → set.contains (set.insert s k) k ≡ true
in_here s k = set.contains-insert nat_cmp_total s k k ∙ ap (λ b. b || set.contains s k) (unsigned_tied k k ∙ eq-eqb k k refl)

pub in_other : (s : set.FinSet nat_cmp) (k q : ℕ) → q ≢ k → set.contains (set.insert s k) q ≡ set.contains s q
in_other s k q n = set.contains-insert nat_cmp_total s k q ∙ ap (λ b. b || set.contains s q) (unsigned_tied q k ∙ ne_eqb q k n)

pub same_sets : (s t : set.FinSet nat_cmp) → ((q : ℕ) → set.contains s q ≡ set.contains t q) → s ≡ t
same_sets s t is = set.same_set nat_cmp_total set.nat_cmp-IsAntisymmetric s t is

module _ (test : ℕ → Bool) where
  choice_here : (b : Bool) (s : set.FinSet nat_cmp) (k : ℕ) → set.contains s k ≡ false → set.contains (cond b (set.insert s k) s) k ≡ b
  choice_here true s k e = in_here s k
  choice_here false s k e = e

  choice_other : (b : Bool) (s : set.FinSet nat_cmp) (k q : ℕ) → q ≢ k → set.contains (cond b (set.insert s k) s) q ≡ set.contains s q
  choice_other true s k q n = in_other s k q n
  choice_other false s k q n = refl

  pub chosen-above : (bound q : ℕ) → bound ≤ q → set.contains (chosen test bound) q ≡ false
  unfolding chosen
  chosen-above zero q h = set.contains-empty nat_cmp q
  chosen-above (suc bound) q h = choice_other (test bound) (chosen test bound) bound q (omega arith) ∙ chosen-above bound q (omega arith)

  pub chosen-below : (bound q : ℕ) → q < bound → set.contains (chosen test bound) q ≡ test q
  unfolding chosen
  chosen-below zero q h = absurd (omega arith)
  chosen-below (suc bound) q h = elim (cases_eq q bound) [
    | inl e ↦ subst (λ n. set.contains (cond (test bound) (set.insert (chosen test bound) bound) (chosen test bound)) n ≡ test n) (sym e) (choice_here (test bound) (chosen test bound) bound (chosen-above bound bound (omega arith)))
    | inr n ↦ choice_other (test bound) (chosen test bound) bound q n ∙ chosen-below bound q (omega arith)
  ]

-- sums of two functions that agree, or agree but at one number
pub sum-same : (f g : ℕ → ℕ) (bound : ℕ) → ((q : ℕ) → q < bound → f q ≡ g q) → sum_below f bound ≡ sum_below g bound
unfolding sum_below
sum-same f g zero same = refl
sum-same f g (suc bound) same = let e : sum_below f bound ≡ sum_below g bound = sum-same f g bound (λ q h. same q (omega arith)) in let h = same bound (omega arith) in omega arith

pub sum-changed : (f g : ℕ → ℕ) (bound i : ℕ) → i < bound → ((q : ℕ) → q ≢ i → f q ≡ g q) → sum_below f bound + g i ≡ sum_below g bound + f i
unfolding sum_below
sum-changed f g zero i h same = absurd (omega arith)
sum-changed f g (suc bound) i h same = elim (cases_eq i bound) [
  | inl e ↦ let k : sum_below f bound ≡ sum_below g bound = sum-same f g bound (λ q l. same q (omega arith)) in subst (λ n. sum_below f bound + f bound + g n ≡ sum_below g bound + g bound + f n) (sym e) (omega arith)
  | inr n ↦ let k : sum_below f bound + g i ≡ sum_below g bound + f i = sum-changed f g bound i (omega arith) same in let l : f bound ≡ g bound = same bound (λ e. n (sym e)) in omega arith
]

pub sum-some : (f : ℕ → ℕ) (bound : ℕ) → 0 < sum_below f bound → (q : ℕ) × ((q < bound) × (0 < f q))
unfolding sum_below
sum-some f zero h = absurd (omega arith)
sum-some f (suc bound) h = elim (cases_eq (f bound) 0) [
  | inl e ↦ let found : (q : ℕ) × ((q < bound) × (0 < f q)) = sum-some f bound (omega arith) in (found.0, (let l : found.0 < bound = found.1.0 in omega arith, found.1.1))
  | inr n ↦ (bound, (omega arith, omega arith))
]

pub sum-le : (f : ℕ → ℕ) (bound : ℕ) → ((q : ℕ) → f q ≤ 256) → sum_below f bound ≤ 256 * bound
unfolding sum_below
sum-le f zero few = omega arith
sum-le f (suc bound) few = let h = sum-le f bound few in let k = few bound in omega arith

pub sum-more : (f : ℕ → ℕ) (bound : ℕ) → sum_below f (bound + 1) ≡ sum_below f bound + f bound
unfolding sum_below
sum-more f bound = rw add-one refl

pub sum-none : (f : ℕ → ℕ) → sum_below f 0 ≡ 0
unfolding sum_below
sum-none f = refl

len-with : {T : Type 0} (m : map.FinMap nat_cmp T) (k : ℕ) (o : Option T) → map.len (with_value m k o) ≤ map.len m + 1
len-with m k None = omega arith
len-with m k (Some v) = elim (cases_Bool (map.contains_key m k)) [
  | inl e ↦ let h : map.len (map.insert m k v) ≡ map.len m = map.len-insert nat_cmp_total m k v ∙ ap (λ b. cond b (map.len m) (map.len m + 1)) e in omega arith
  | inr e ↦ let h : map.len (map.insert m k v) ≡ map.len m + 1 = map.len-insert nat_cmp_total m k v ∙ ap (λ b. cond b (map.len m) (map.len m + 1)) e in omega arith
]

pub len-tabulated : {T : Type 0} (at : ℕ → Option T) (bound : ℕ) → map.len (tabulated at bound) ≤ bound
unfolding tabulated
len-tabulated {T} at zero = let h : map.len (map.empty {X = T} {R = nat_cmp}) ≡ 0 = map.len-empty nat_cmp T in omega arith
len-tabulated at (suc bound) = let h = len-tabulated at bound in let k = len-with (tabulated at bound) bound (at bound) in omega arith
