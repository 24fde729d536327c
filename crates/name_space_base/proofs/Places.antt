-- How many places of a page have a value, and which.
use Rattle.std.proofs.Common.{◌≡◌, inl, inr, ℕ, zero, suc, ◌+◌, ◌<◌, ◌≤◌, ◌==◌, Bool, true, if◌then◌else◌, List, [], ◌∷◌, length, get_or, set, Option, Some, None, is_some, refl, ap, sym, ◌∙◌, arith}
use Rattle.std.proofs.lemmas.Bool.{eq-eqb, ne_eqb, cases_eq, cases_lt}
use Rattle.std.proofs.lemmas.List.{get_or-set_same, get_or-set_other, get_or_past, length-set}
use Rattle.name_space_base.specs.Bits.{has}
use Rattle.name_space_base.specs.Page.{used_in, IsBlank, IsMarked}

module _ {T : Type 0} where
  pub used-le : (l : List (Option T)) → used_in l ≤ length l
  used-le [] = omega arith
  used-le (None ∷ l) = let h = used-le l in omega arith
  used-le (Some x ∷ l) = let h = used-le l in omega arith

  pub used-put : (l : List (Option T)) (i : ℕ) (v : T) → i < length l → get_or l i None ≡ None → used_in (set l i (Some v)) ≡ used_in l + 1
  used-put [] i v h e = absurd (omega arith)
  used-put (None ∷ l) zero v h e = omega arith
  used-put (Some x ∷ l) zero v h e = cc
  used-put (None ∷ l) (suc i) v h e = used-put l i v (omega arith) e
  used-put (Some x ∷ l) (suc i) v h e = let k = used-put l i v (omega arith) e in omega arith

  pub used-set : (l : List (Option T)) (i : ℕ) (v : T) → i < length l → is_some (get_or l i None) ≡ true → used_in (set l i (Some v)) ≡ used_in l
  used-set [] i v h e = absurd (omega arith)
  used-set (None ∷ l) zero v h e = cc
  used-set (Some x ∷ l) zero v h e = refl
  used-set (None ∷ l) (suc i) v h e = used-set l i v (omega arith) e
  used-set (Some x ∷ l) (suc i) v h e = let k = used-set l i v (omega arith) e in omega arith

  pub used-clear : (l : List (Option T)) (i : ℕ) → i < length l → is_some (get_or l i None) ≡ true → used_in (set l i None) + 1 ≡ used_in l
  used-clear [] i h e = absurd (omega arith)
  used-clear (None ∷ l) zero h e = cc
  used-clear (Some x ∷ l) zero h e = omega arith
  used-clear (None ∷ l) (suc i) h e = used-clear l i (omega arith) e
  used-clear (Some x ∷ l) (suc i) h e = let k = used-clear l i (omega arith) e in omega arith

  pub none-used : (l : List (Option T)) → ((i : ℕ) → get_or l i None ≡ None) → used_in l ≡ 0
  none-used [] none = refl
  none-used (None ∷ l) none = none-used l (λ i. none (suc i))
  none-used (Some x ∷ l) none = let e : Some x ≡ None = none 0 in cc

  pub all-used : (l : List (Option T)) (i : ℕ) → length l ≤ used_in l → i < length l → is_some (get_or l i None) ≡ true
  all-used [] i e h = absurd (omega arith)
  all-used (None ∷ l) i e h = absurd (let k = used-le l in omega arith)
  all-used (Some x ∷ l) zero e h = refl
  all-used (Some x ∷ l) (suc i) e h = all-used l i (omega arith) (omega arith)

  pub record IsFreeAt (l : List (Option T)) (from i : ℕ) : Type 0 where
    pub after : from ≤ i
    pub within : i < length l
    pub free : get_or l i None ≡ None

  abbrev shifted : (x : Option T) (l : List (Option T)) (from : ℕ) → (i : ℕ) × IsFreeAt l from i → (i : ℕ) × IsFreeAt (x ∷ l) (suc from) i
  shifted x l from (i, at) = (suc i, record { after = let h = at.after in omega arith; within = let h = at.within in omega arith; free = at.free })

  abbrev lowered : (l : List (Option T)) (i : ℕ) → IsFreeAt l 1 i → IsFreeAt l 0 i
  lowered l i at = record { after = omega arith; within = at.within; free = at.free }

  pub some-free : (l : List (Option T)) → used_in l < length l → (i : ℕ) × IsFreeAt l 0 i
  some-free [] h = absurd (omega arith)
  some-free (None ∷ l) h = (0, record { after = omega arith; within = omega arith; free = refl })
  some-free (Some x ∷ l) h = let found = shifted (Some x) l 0 (some-free l (omega arith)) in (found.0, lowered _ _ found.1)

  pub some-free_after : (l : List (Option T)) → get_or l 0 None ≡ None → used_in l + 1 < length l → (i : ℕ) × IsFreeAt l 1 i
  some-free_after [] e h = absurd (omega arith)
  some-free_after (None ∷ l) e h = shifted None l 0 (some-free l (omega arith))
  some-free_after (Some x ∷ l) e h = cc

  pub all-used_after : (l : List (Option T)) (i : ℕ) → get_or l 0 None ≡ None → length l ≤ used_in l + 1 → i < length l → 0 < i → is_some (get_or l i None) ≡ true
  all-used_after [] i e f h k = absurd (omega arith)
  all-used_after (None ∷ l) zero e f h k = absurd (omega arith)
  all-used_after (None ∷ l) (suc i) e f h k = all-used l i (omega arith) (omega arith)
  all-used_after (Some x ∷ l) i e f h k = cc

  pub used-lt : (l : List (Option T)) → get_or l 0 None ≡ None → 0 < length l → used_in l + 1 ≤ length l
  used-lt [] e h = absurd (omega arith)
  used-lt (None ∷ l) e h = let k = used-le l in omega arith
  used-lt (Some x ∷ l) e h = cc

  -- one place is changed, and its bit
  pub marked-changed : (l : List (Option T)) (words words' : List ℕ) (len len' place : ℕ) (slot : Option T) (b : Bool) → IsMarked l words len → place < length l
      → ((i : ℕ) → i < 256 → has words' i ≡ (if i == place then b else has words i)) → is_some slot ≡ b → len' ≡ used_in (set l place slot) → IsMarked (set l place slot) words' len'
  marked-changed l words words' len len' place slot b old within changed is count = record {
    short = let e = length-set l place slot in let h = old.short in omega arith;
    marked = λ i h. elim (cases_eq i place) [
      | inl e ↦ changed i h ∙ ap (λ t. if t then b else has words i) (eq-eqb i place e) ∙ sym is ∙ ap is_some (sym (ap (λ p. get_or (set l place slot) p None) e ∙ get_or-set_same l place slot None within))
      | inr n ↦ changed i h ∙ ap (λ t. if t then b else has words i) (ne_eqb i place n) ∙ old.marked i h ∙ ap is_some (sym (get_or-set_other l place i slot None n))
    ];
    counted = count;
  }

  -- a value is put in place of another
  pub marked-set : (l : List (Option T)) (words : List ℕ) (len place : ℕ) (v : T) → IsMarked l words len → place < length l → is_some (get_or l place None) ≡ true → IsMarked (set l place (Some v)) words len
  marked-set l words len place v old within used = record {
    short = let e = length-set l place (Some v) in let h = old.short in omega arith;
    marked = λ i h. elim (cases_eq i place) [
      | inl e ↦ old.marked i h ∙ ap (λ p. is_some (get_or l p None)) e ∙ used ∙ ap is_some (sym (ap (λ p. get_or (set l place (Some v)) p None) e ∙ get_or-set_same l place (Some v) None within))
      | inr n ↦ old.marked i h ∙ ap is_some (sym (get_or-set_other l place i (Some v) None n))
    ];
    counted = old.counted ∙ sym (used-set l place v within used);
  }

  pub blank : (l : List (Option T)) → length l ≡ 256 → ((i : ℕ) → i < 256 → get_or l i None ≡ None) → IsBlank l
  blank l long none = record {
    long = long;
    free = λ i. elim (cases_lt i 256) [
      | inl h ↦ none i h
      | inr h ↦ get_or_past l i None (omega arith)
    ];
  }
