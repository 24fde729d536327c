-- Names that stand before others, and attributes behind attributes.
use Rattle.std.proofs.Common.{◌≤◌, Bool, true, false, ◌≡◌, ℕ, ◌+◌, ◌<◌, List, [], ◌∷◌, ◌++◌, Contains, map, take, get_or, length, inl, inr, ap, ◌∙◌, sym, subst, append_assoc, append-nil, zero, suc, arith, refl}
use Rattle.std.proofs.lemmas.List.{map-append, take_all, take_more}
use lib.Dec.{eqb}
use lib.Pointwise.{pointwise, bytes_decides}
use Rattle.std.proofs.lemmas.List.Elements.{Contains-append_cases, Contains-append_left, Contains-append_right}
use Rattle.mach_xml.specs.Names.{IsName}
use Rattle.mach_xml.specs.Elements.{Adds, IsAttributes, IsAttribute, HasAttributes}
use Rattle.mach_xml.specs.Elements.IsAttributes.{none, more}

-- the only element
contains-one : (x y : List ℕ) → Contains (x ∷ []) y → x ≡ y
contains-one x y (zero, lt, e) = e
contains-one x y (suc k, lt, e) = absurd (omega arith)

one-contains : (x : List ℕ) → Contains (x ∷ []) x
one-contains x = (0, omega arith, refl)

map-more : {X : Type 0} (f : X → List ℕ) (xs : List X) (i : ℕ) (d : X) → i < length xs → map f (take (i + 1) xs) ≡ map f (take i xs) ++ f (get_or xs i d) ∷ []
map-more f xs i d lt = ap (map f) (take_more xs i d lt) ∙ map-append f (take i xs) (get_or xs i d ∷ [])

-- a name that differs from those before and from this one
pub not-in-more : {X : Type 0} (f : X → List ℕ) (xs : List X) (i : ℕ) (d : X) (n : List ℕ) (r : Bool) → i < length xs
    → (Contains (map f (take i xs)) n → ⊥) → r ≡ pointwise eqb (f (get_or xs i d)) n → r ≡ false → Contains (map f (take (i + 1) xs)) n → ⊥
not-in-more f xs i d n r lt before tested differs has =
    let here : f (get_or xs i d) ≡ n → ⊥ = λ e. let same : pointwise eqb (f (get_or xs i d)) n ≡ true = (bytes_decides (f (get_or xs i d)) n).1 e in cc in
    elim (Contains-append_cases (map f (take i xs)) (f (get_or xs i d) ∷ []) n (subst (λ (l : List (List ℕ)). Contains l n) (map-more f xs i d lt) has))
    [ inl h ↦ before h | inr h ↦ here (contains-one (f (get_or xs i d)) n h) ]

pub none-has : {X : Type 0} (f : X → List ℕ) (xs : List X) (i : ℕ) (n : List ℕ) → length xs ≤ i → (Contains (map f (take i xs)) n → ⊥) → Contains (map f xs) n → ⊥
none-has {X} f xs i n le before has = before (subst (λ (l : List X). Contains (map f l) n) (sym (take_all i xs le)) has)

-- attributes whose names are among these
pub record Among (allowed : List (List ℕ)) (shown : List ℕ) : Type 0 where
  pub names : List (List ℕ)
  pub is : IsAttributes names shown
  pub within : (n : List ℕ) → Contains names n → Contains allowed n

pub among-none : (a : List ℕ) → Adds (Among []) a a
among-none a = record { shown = []; is = record { names = []; is = none; within = λ n h. h }; at = sym (append-nil a) }

wider : (allowed : List (List ℕ)) (name shown : List ℕ) → Among allowed shown → Among (allowed ++ name ∷ []) shown
wider allowed name shown w = record {
  names = w.names;
  is = w.is;
  within = λ n h. Contains-append_left allowed (name ∷ []) n (w.within n h);
}

some-element : {X : Type 0} (xs : List X) (i : ℕ) → i < length xs → X
some-element [] i lt = absurd (omega arith)
some-element (x ∷ xs) i lt = x

pub among-left : {X : Type 0} (f : X → List ℕ) (xs : List X) (i : ℕ) (a b : List ℕ) → i < length xs
    → Adds (Among (map f (take i xs))) a b → Adds (Among (map f (take (i + 1) xs))) a b
among-left {X} f xs i a b lt w =
    let d : X = some-element xs i lt in
    record {
      shown = w.shown;
      is = subst (λ (l : List (List ℕ)). Among l w.shown) (sym (map-more f xs i d lt)) (wider (map f (take i xs)) (f (get_or xs i d)) w.shown w.is);
      at = w.at;
    }

one-more : (allowed : List (List ℕ)) (name shown next : List ℕ) → IsName name → (Contains allowed name → ⊥) → Among allowed shown → IsAttribute name next → Among (allowed ++ name ∷ []) (shown ++ next)
one-more allowed name shown next named fresh w here = record {
  names = name ∷ w.names;
  is = subst (λ (l : List ℕ). IsAttributes (name ∷ w.names) (shown ++ l)) (sym here.at) (more w.names shown name here.value w.is named (λ h. fresh (w.within name h)) here.is);
  within = λ n h. elim (Contains-append_cases (name ∷ []) w.names n h)
      [ inl first ↦ Contains-append_right allowed (name ∷ []) n first | inr rest ↦ Contains-append_left allowed (name ∷ []) n (w.within n rest) ];
}

pub among-more : {X : Type 0} (f : X → List ℕ) (xs : List X) (i : ℕ) (d : X) (a b c : List ℕ) → i < length xs
    → IsName (f (get_or xs i d)) → (Contains (map f (take i xs)) (f (get_or xs i d)) → ⊥)
    → Adds (Among (map f (take i xs))) a b → Adds (IsAttribute (f (get_or xs i d))) b c → Adds (Among (map f (take (i + 1) xs))) a c
among-more f xs i d a b c lt named fresh w next = record {
  shown = w.shown ++ next.shown;
  is = subst (λ (l : List (List ℕ)). Among l (w.shown ++ next.shown)) (sym (map-more f xs i d lt))
      (one-more (map f (take i xs)) (f (get_or xs i d)) w.shown next.shown named fresh w.is next.is);
  at = next.at ∙ ap (λ (l : List ℕ). l ++ next.shown) w.at ∙ append_assoc a w.shown next.shown;
}

pub has-attributes : (allowed : List (List ℕ)) (a b : List ℕ) → Adds (Among allowed) a b → Adds HasAttributes a b
has-attributes allowed a b w = record { shown = w.shown; is = record { names = w.is.names; is = w.is.is }; at = w.at }
