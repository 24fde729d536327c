-- The rights of a destroyed message, one after another.
use Rattle.std.proofs.Common.{◌≡◌, ℕ, zero, suc, ◌+◌, ◌<◌, arith, List, [], ◌∷◌, ◌++◌, Option, Some, None, refl, sym, ap, ◌∙◌, length, take, append_assoc}
use Rattle.std.specs.Prelude.{slice_get}
use Rattle.std.specs.List.{filter_map}
use Rattle.std.specs.Option.{option_to_list}
use Rattle.std.proofs.lemmas.List.Elements.{filter_map-append}
use Rattle.copyin_base.specs.declared.Carried.{Carried}
use Rattle.copyin_base.specs.Kept.{receive_of}
use Rattle.kernel_change.specs.declared.change.Change.{Change}
use Rattle.kernel_change.specs.Changing.{by_destroying, by_losing_with, noticed_of, receives_of, with_right}

of_one : (f : Carried → Option ℕ) (c : Carried) (o : Option ℕ) → f c ≡ o → filter_map f (c ∷ []) ≡ option_to_list (f c)
of_one f c None is = rw is refl
of_one f c (Some p) is = rw is refl

parts : (f : Carried → Option ℕ) (cs : List Carried) (c : Carried) → filter_map f (cs ++ c ∷ []) ≡ filter_map f cs ++ option_to_list (f c)
parts f cs c = filter_map-append f cs (c ∷ []) ∙ ap (λ (ps : List ℕ). filter_map f cs ++ ps) (of_one f c (f c) refl)

one_more : (port : ℕ) (rs ns : List ℕ) (r n : Option ℕ) → by_losing_with port (rs ++ option_to_list r) (ns ++ option_to_list n) ≡ with_right (by_losing_with port rs ns) r n
one_more port [] ns (Some p) n = refl
one_more port (x ∷ xs) ns (Some p) n = refl
one_more port [] [] None None = refl
one_more port [] (a ∷ []) None None = refl
one_more port [] (a ∷ b ∷ ns) None None = refl
one_more port (x ∷ xs) ns None None = refl
one_more port [] [] None (Some q) = refl
one_more port [] (a ∷ []) None (Some q) = refl
one_more port [] (a ∷ b ∷ ns) None (Some q) = refl
one_more port (x ∷ xs) ns None (Some q) = refl

right_more : (port : ℕ) (cs : List Carried) (c : Carried) (told : Change) → told ≡ by_destroying port cs → with_right told (receive_of c) (noticed_of c) ≡ by_destroying port (cs ++ c ∷ [])
right_more port cs c told is =
    ap (λ (t : Change). with_right t (receive_of c) (noticed_of c)) is ∙ sym (one_more port (receives_of cs) (filter_map noticed_of cs) (receive_of c) (noticed_of c))
    ∙ sym (λ i. by_losing_with port (parts receive_of cs c i) (parts noticed_of cs c i))

next_right : (rights : List Carried) (i : ℕ) (c : Carried) → slice_get rights i ≡ Some c → take (i + 1) rights ≡ take i rights ++ c ∷ []
next_right [] i c is = absurd (let e = is in cc)
next_right (x ∷ xs) zero c is = ap (λ (y : Carried). y ∷ []) (let e : x ≡ c = (let f = is in cc) in e)
next_right (x ∷ xs) (suc k) c is = let on : suc k + 1 ≡ suc (k + 1) = omega arith in ap (λ (n : ℕ). take n (x ∷ xs)) on ∙ ap (λ (ys : List Carried). x ∷ ys) (next_right xs k c is)

-- One right more of the body is lost.
pub next_told : (port : ℕ) (reply rights : List Carried) (i : ℕ) (c : Carried) (told : Change) → told ≡ by_destroying port (reply ++ take i rights) → slice_get rights i ≡ Some c →
    with_right told (receive_of c) (noticed_of c) ≡ by_destroying port (reply ++ take (i + 1) rights)
next_told port reply rights i c told is at =
    right_more port (reply ++ take i rights) c told is
    ∙ ap (λ (cs : List Carried). by_destroying port cs) (append_assoc reply (take i rights) (c ∷ []) ∙ ap (λ (cs : List Carried). reply ++ cs) (sym (next_right rights i c at)))

pub none_past : (rights : List Carried) (i : ℕ) → i < length rights → slice_get rights i ≡ None → ⊥
none_past [] i below none = omega (arith, below)
none_past (x ∷ xs) zero below none = let e : Some x ≡ None = none in cc
none_past (x ∷ xs) (suc k) below none = none_past xs k (omega (arith, below)) none
