-- What stands under names after one was put, changed or taken away, in the tables and in the machine alike.
use Rattle.std.proofs.Common.{◌≡◌, ℕ, Option, Some, None, refl, sym, subst, ◌∙◌, inl, inr}
use Rattle.std.specs.Prelude.{◌+◌, ◌-◌}
use Rattle.std.specs.Option.{option_map}
use Rattle.std.specs.FinMap as map
use Rattle.std.specs.FinMap.{get-remove, len-insert, len-remove, nat_cmp-IsAntisymmetric}
use Rattle.std.specs.declared.cmp.Ordering.{Ordering}
use Rattle.std.specs.declared.cmp.Ordering.TheVariants.{Less, Equal, Greater}
use Rattle.std.specs.Ordering.{nat_cmp, is_eq}
use Rattle.std.specs.Prelude.{cond}
use Rattle.std.specs.Cmp.{nat_cmp_total}
use Rattle.std.proofs.lemmas.Bool.Decides.{eqb_tells}
use Rattle.mach_model.proofs.Names.{get_own, get_other, removed_own, alike}
use Rattle.copyin_base.specs.Worlds.{put}

module _ {V : Type 0} where
  pub get_removed : (m : map.FinMap nat_cmp V) (name n : ℕ) → (n ≡ name → ⊥) → map.get (map.remove m name) n ≡ map.get m n
  get_removed m name n not = get-remove nat_cmp_total m name n ∙ go (nat_cmp n name) refl
    where
      go : (r : Ordering) → nat_cmp n name ≡ r → cond (is_eq r) None (map.get m n) ≡ map.get m n
      go Less e = refl
      go Greater e = refl
      go Equal e = absurd (not (nat_cmp-IsAntisymmetric n name e))

  pub put_own : (m : map.FinMap nat_cmp V) (name : ℕ) (o : Option V) → map.get (put m name o) name ≡ o
  put_own m name (Some v) = get_own m name v
  put_own m name None = removed_own m name

  pub put_other : (m : map.FinMap nat_cmp V) (name : ℕ) (o : Option V) (n : ℕ) → (n ≡ name → ⊥) → map.get (put m name o) n ≡ map.get m n
  put_other m name (Some v) n not = get_other m name v n not
  put_other m name None n not = get_removed m name n not

  -- what is true under the name, and under each other, is true under all
  pub each_put : (m : map.FinMap nat_cmp V) (name : ℕ) (o : Option V) (P : ℕ → Option V → Type 0) → P name o → ((n : ℕ) → (n ≡ name → ⊥) → P n (map.get m n)) →
      (n : ℕ) → P n (map.get (put m name o) n)
  each_put m name o P own other n = elim (eqb_tells n name) [
    | inl h ↦ subst (λ (k : ℕ). P k (map.get (put m name o) k)) (sym h.1) (subst (P name) (sym (put_own m name o)) own)
    | inr h ↦ subst (P n) (sym (put_other m name o n h.1)) (other n h.1)
  ]

  -- what was there is put again
  pub put_same : (m : map.FinMap nat_cmp V) (name : ℕ) (v : V) → map.get m name ≡ Some v → map.insert m name v ≡ m
  put_same m name v is = alike (map.insert m name v) m (λ n. elim (eqb_tells n name) [
    | inl h ↦ subst (λ (x : ℕ). map.get (map.insert m name v) x ≡ map.get m x) (sym h.1) (get_own m name v ∙ sym is)
    | inr h ↦ get_other m name v n h.1
  ])

  pub len_put : (m : map.FinMap nat_cmp V) (name : ℕ) (v w : V) → map.get m name ≡ Some v → map.len (map.insert m name w) ≡ map.len m
  len_put m name v w is = len-insert nat_cmp_total m name w ∙ rw is refl

  pub len_removed : (m : map.FinMap nat_cmp V) (name : ℕ) (v : V) → map.get m name ≡ Some v → map.len (map.remove m name) ≡ map.len m - 1
  len_removed m name v is = len-remove nat_cmp_total m name ∙ rw is refl

  pub len_added : (m : map.FinMap nat_cmp V) (name : ℕ) (w : V) → map.get m name ≡ None → map.len (map.insert m name w) ≡ map.len m + 1
  len_added m name w is = len-insert nat_cmp_total m name w ∙ rw is refl

-- maps of as many names have as many after the same was done to a name that both have, or neither
pub same_len : {V W : Type 0} (m : map.FinMap nat_cmp V) (n : map.FinMap nat_cmp W) (name : ℕ) (f : V → W) (o : Option V) →
    map.contains_key m name ≡ map.contains_key n name → map.len m ≡ map.len n → map.len (put m name o) ≡ map.len (put n name (option_map f o))
same_len m n name f (Some x) both len = len-insert nat_cmp_total m name x ∙ rw (both, len) refl ∙ sym (len-insert nat_cmp_total n name (f x))
same_len m n name f None both len = len-remove nat_cmp_total m name ∙ rw (both, len) refl ∙ sym (len-remove nat_cmp_total n name)
