-- The finite map of a list's entries, as the list is read by a key.
use Rattle.std.proofs.Common.{◌≡◌, ◌≢◌, ◌⊎◌, inl, inr, ℕ, zero, suc, ◌+◌, cond, eqb, true, List, [], ◌∷◌, refl, ap, sym, ◌∙◌, Option, Some, None, length, is_some, nat_eq, slice_get, arith}
use Rattle.std.specs.Ordering.{nat_cmp, eq_by_cmp}
use Rattle.std.specs.Cmp.{nat_cmp_total, unsigned_tied, nat_eq_equiv}
use Rattle.std.specs.Map.{lookup}
use Rattle.std.specs.FinMap as map
use Rattle.std.specs.FinMap.Entries.{find}
use Rattle.std.proofs.lemmas.Bool.Decides.{eqb_tells}
use Rattle.number_map.specs.Maps.{MapView}
use Rattle.number_map.specs.Kept.{IsUnique}

same_some : {A : Type 0} (x y : A) → Some x ≡ Some y → x ≡ y
same_some x y e = cc

none_some : {A : Type 0} (x : A) → None ≡ Some x → ⊥
none_some x e = cc

eqb_same : (q k : ℕ) → q ≡ k → eqb q k ≡ true
eqb_same q k e = elim (eqb_tells q k) [ inl h ↦ h.0 | inr h ↦ absurd (h.1 e) ]

turned : (k q : ℕ) → eq_by_cmp nat_cmp q k ≡ nat_eq k q
turned k q = unsigned_tied q k ∙ nat_eq_equiv.symm q k

module _ {V : Type 0} where
  find-lookup : (es : List (ℕ × V)) (q : ℕ) → find nat_cmp q es ≡ lookup (nat_eq q) es
  find-lookup [] q = refl
  find-lookup (e ∷ es) q = ap (λ b. cond b (Some e.1) (find nat_cmp q es)) (unsigned_tied q e.0) ∙ ap (cond (nat_eq q e.0) (Some e.1)) (find-lookup es q)

  pub get-table : (es : List (ℕ × V)) (q : ℕ) → map.get (map.from_entries {R = nat_cmp} es) q ≡ lookup (nat_eq q) es
  get-table es q = map.get-from_entries nat_cmp_total es q ∙ find-lookup es q

  -- ---- no key twice

  pub lookup_none : (es : List (ℕ × V)) (q : ℕ) → ((x : ℕ) (v : V) → slice_get es x ≡ Some (q, v) → ⊥) → lookup (nat_eq q) es ≡ None
  lookup_none [] q h = refl
  lookup_none (e ∷ es) q h = elim (eqb_tells q e.0) [
    | inl s ↦ absurd (h 0 e.1 (ap (λ k. Some (k, e.1)) (sym s.1)))
    | inr d ↦ ap (λ b. cond b (Some e.1) (lookup (nat_eq q) es)) d.0 ∙ lookup_none es q (λ x v at. h (suc x) v at)
  ]

  unique_tail : (e : ℕ × V) (es : List (ℕ × V)) → IsUnique (e ∷ es) → IsUnique es
  unique_tail e es u x y a b p r s = let same : suc x ≡ suc y = u (suc x) (suc y) a b p r s in omega arith

  pub lookup_at : (es : List (ℕ × V)) → IsUnique es → (x q : ℕ) (v : V) → slice_get es x ≡ Some (q, v) → lookup (nat_eq q) es ≡ Some v
  lookup_at [] u x q v at = absurd (none_some (q, v) at)
  lookup_at (e ∷ es) u zero q v at =
      let is : e ≡ (q, v) = same_some e (q, v) at in
      ap (λ b. cond b (Some e.1) (lookup (nat_eq q) es)) (eqb_same q e.0 (sym (ap (λ (p : ℕ × V). p.0) is))) ∙ ap (λ (p : ℕ × V). Some p.1) is
  lookup_at (e ∷ es) u (suc x) q v at = elim (eqb_tells q e.0) [
    | inl s ↦ absurd (let bad : zero ≡ suc x = u 0 (suc x) e (q, v) refl at (sym s.1) in omega arith)
    | inr d ↦ ap (λ b. cond b (Some e.1) (lookup (nat_eq q) es)) d.0 ∙ lookup_at es (unique_tail e es u) x q v at
  ]

  pub place_of : (es : List (ℕ × V)) (q : ℕ) → ((x : ℕ) × (v : V) × (slice_get es x ≡ Some (q, v))) ⊎ ((x : ℕ) (v : V) → slice_get es x ≡ Some (q, v) → ⊥)
  place_of [] q = inr (λ x v at. none_some (q, v) at)
  place_of (e ∷ es) q = elim (eqb_tells q e.0) [
    | inl s ↦ inl (0, e.1, ap (λ k. Some (k, e.1)) (sym s.1))
    | inr d ↦ elim (place_of es q) [
      | inl at ↦ inl (suc at.0, at.1, at.2)
      | inr none ↦ inr (λ x v at. beside x v at d.1 none)
    ]
  ]
    where
      beside : (x : ℕ) (v : V) → slice_get (e ∷ es) x ≡ Some (q, v) → q ≢ e.0 → ((x : ℕ) (v : V) → slice_get es x ≡ Some (q, v) → ⊥) → ⊥
      beside zero v at d none = d (sym (ap (λ (p : ℕ × V). p.0) (same_some e (q, v) at)))
      beside (suc x) v at d none = none x v at

  -- two rows have the same under a key
  agree : (es fs : List (ℕ × V)) → IsUnique es → IsUnique fs → (q : ℕ)
      → ((x : ℕ) (v : V) → slice_get fs x ≡ Some (q, v) → (y : ℕ) × (slice_get es y ≡ Some (q, v)))
      → ((y : ℕ) (v : V) → slice_get es y ≡ Some (q, v) → (x : ℕ) × (slice_get fs x ≡ Some (q, v))) → lookup (nat_eq q) fs ≡ lookup (nat_eq q) es
  agree es fs u w q back on = elim (place_of es q) [
    | inl at ↦ let x = on at.0 at.1 at.2 in lookup_at fs w x.0 q at.1 x.1 ∙ sym (lookup_at es u at.0 q at.1 at.2)
    | inr none ↦ lookup_none fs q (λ x v at. let y = back x v at in none y.0 v y.1) ∙ sym (lookup_none es q none)
  ]

  module _ (es fs : List (ℕ × V)) (u : IsUnique es) (w : IsUnique fs) (k : ℕ)
      (back : (q : ℕ) → q ≢ k → (x : ℕ) (v : V) → slice_get fs x ≡ Some (q, v) → (y : ℕ) × (slice_get es y ≡ Some (q, v)))
      (on : (q : ℕ) → q ≢ k → (y : ℕ) (v : V) → slice_get es y ≡ Some (q, v) → (x : ℕ) × (slice_get fs x ≡ Some (q, v))) where
    other : (q : ℕ) → q ≢ k → lookup (nat_eq q) fs ≡ lookup (nat_eq q) es
    other q d = agree es fs u w q (back q d) (on q d)

    pub looked_put : (x : ℕ) (v : V) → slice_get fs x ≡ Some (k, v) → (q : ℕ) → lookup (nat_eq q) fs ≡ cond (nat_eq k q) (Some v) (lookup (nat_eq q) es)
    looked_put x v at q = elim (eqb_tells k q) [
      | inl s ↦ lookup_at fs w x q v (at ∙ ap (λ p. Some (p, v)) s.1) ∙ sym (ap (λ b. cond b (Some v) (lookup (nat_eq q) es)) s.0)
      | inr d ↦ other q (λ e. d.1 (sym e)) ∙ sym (ap (λ b. cond b (Some v) (lookup (nat_eq q) es)) d.0)
    ]

    pub looked_out : ((x : ℕ) (v : V) → slice_get fs x ≡ Some (k, v) → ⊥) → (q : ℕ) → lookup (nat_eq q) fs ≡ cond (nat_eq k q) None (lookup (nat_eq q) es)
    looked_out none q = let nothing : Option V = None in elim (eqb_tells k q) [
      | inl s ↦ lookup_none fs q (λ x v at. none x v (at ∙ ap (λ p. Some (p, v)) (sym s.1))) ∙ sym (ap (λ b. cond b nothing (lookup (nat_eq q) es)) s.0)
      | inr d ↦ other q (λ e. d.1 (sym e)) ∙ sym (ap (λ b. cond b nothing (lookup (nat_eq q) es)) d.0)
    ]

  pub len-table : (es : List (ℕ × V)) → IsUnique es → map.len (map.from_entries {R = nat_cmp} es) ≡ length es
  len-table [] h = map.len-empty nat_cmp V
  len-table (e ∷ es) h =
      let m : map.FinMap nat_cmp V = map.from_entries es in
      let alone : lookup (nat_eq e.0) es ≡ None = lookup_none es e.0 (λ x v at. let bad : zero ≡ suc x = h 0 (suc x) e (e.0, v) refl at refl in omega arith) in
      let more : map.len (map.insert m e.0 e.1) ≡ map.len m + 1 = map.len-insert nat_cmp_total m e.0 e.1
      ∙ ap (λ o. cond (is_some o) (map.len m) (map.len m + 1)) (get-table es e.0 ∙ alone) in
      let rest : map.len m ≡ length es = len-table es (unique_tail e es h) in
      omega arith

  same_tables : (m n : map.FinMap nat_cmp V) → ((q : ℕ) → map.get m q ≡ map.get n q) → m ≡ n
  same_tables m n is = map.same_map nat_cmp_total map.nat_cmp-IsAntisymmetric m n is

  -- the entries once one key has something else
  pub put-table : (es fs : List (ℕ × V)) (k : ℕ) (v : V) → ((q : ℕ) → lookup (nat_eq q) fs ≡ cond (nat_eq k q) (Some v) (lookup (nat_eq q) es)) →
      map.from_entries {R = nat_cmp} fs ≡ map.insert (map.from_entries es) k v
  put-table es fs k v is = same_tables _ _ (λ q. get-table fs q ∙ is q ∙ ap (cond (nat_eq k q) (Some v)) (sym (get-table es q))
      ∙ sym (map.get-insert nat_cmp_total _ k v q ∙ ap (λ b. cond b (Some v) (map.get (map.from_entries {R = nat_cmp} es) q)) (turned k q)))

  pub out-table : (es fs : List (ℕ × V)) (k : ℕ) → ((q : ℕ) → lookup (nat_eq q) fs ≡ cond (nat_eq k q) None (lookup (nat_eq q) es)) →
      map.from_entries {R = nat_cmp} fs ≡ map.remove (map.from_entries es) k
  out-table es fs k is =
      let none : Option V = None in
      same_tables _ _ (λ q. get-table fs q ∙ is q ∙ ap (cond (nat_eq k q) none) (sym (get-table es q))
      ∙ sym (map.get-remove nat_cmp_total _ k q ∙ ap (λ b. cond b none (map.get (map.from_entries {R = nat_cmp} es) q)) (turned k q)))

  -- ---- as a whole map sees them

  module _ (es : List (ℕ × V)) (room : ℕ) (v : MapView V) (view_is : record { map = map.from_entries es; room = room } ≡ v) where
    pub map_is : map.from_entries es ≡ v.map
    map_is = ap (λ (w : MapView V). w.map) view_is

    pub room_is : room ≡ v.room
    room_is = ap (λ (w : MapView V). w.room) view_is

    pub lookup_is : (q : ℕ) → lookup (nat_eq q) es ≡ map.get v.map q
    lookup_is q = sym (get-table es q) ∙ ap (λ (m : map.FinMap nat_cmp V). map.get m q) map_is

  view_of : map.FinMap nat_cmp V → ℕ → MapView V
  view_of m room = record { map = m; room = room }

  pub same_view : (m n : map.FinMap nat_cmp V) (room most : ℕ) → m ≡ n → room ≡ most → ◌≡◌ {A = MapView V} record { map = m; room = room } record { map = n; room = most }
  unfolding view_of
  same_view m n room most e f = ap (λ k. view_of k room) e ∙ ap (view_of n) f
