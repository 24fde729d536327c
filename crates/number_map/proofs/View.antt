-- What a map from numbers is, by its nodes, and once a key joins, has another value, or leaves.
use Rattle.std.proofs.Common.{◌≡◌, ◌≢◌, ◌⊎◌, inl, inr, ℕ, zero, suc, ◌+◌, ◌-◌, ◌^◌, ◌<◌, ◌≤◌, cond, List, [], ◌∷◌, ◌++◌, length, Option, Some, None, is_some, true, false, nat_eq, slice_get, slice_set, refl, sym, ◌∙◌, ap, arith}
use Rattle.std.specs.Option.{option_map}
use Rattle.std.specs.Map.{lookup}
use Rattle.std.specs.FinMap as map
use Rattle.std.specs.Ordering.{nat_cmp}
use Rattle.std.proofs.lemmas.Bool.Decides.{eqb_tells}
use Rattle.std.proofs.lemmas.List.{length-set}
use Rattle.std.proofs.lemmas.Option.{slice_get_within, slice_get-map}
use Rattle.number_map.specs.declared.Node.{Node}
use Rattle.number_map.specs.Kept.{entry_of, entries_of, HasKey, IsUnique, IsIndexed, SameEntries, IsTakenOut, IsKept}
use Rattle.number_map.proofs.Trees.{equal_or_not}
use Rattle.number_map.proofs.Entries.{place_of, lookup_none, lookup_at, looked_put, looked_out, put-table, out-table}
use Rattle.number_map.proofs.Rows.{same_some, none_some, got_set, got_other, got_before, got_last, length_pushed, entries_len, entry_here, same_len}
use Rattle.number_map.proofs.Planted.{indexed_valued}

module _ {V : Type 0} where
  -- ---- nodes and entries

  pub node_at : (nodes : List (Node V)) (x : ℕ) (a : ℕ × V) → slice_get (entries_of nodes) x ≡ Some a → (n : Node V) × (slice_get nodes x ≡ Some n) × (entry_of n ≡ a)
  node_at [] x a at = absurd (none_some a at)
  node_at (n ∷ nodes) zero a at = (n, refl, same_some (entry_of n) a at)
  node_at (n ∷ nodes) (suc x) a at = node_at nodes x a at

  entries_pushed : (nodes : List (Node V)) (n : Node V) → entries_of (nodes ++ n ∷ []) ≡ entries_of nodes ++ entry_of n ∷ []
  entries_pushed [] n = refl
  entries_pushed (m ∷ nodes) n = ap (λ es. entry_of m ∷ es) (entries_pushed nodes n)

  pub none_looked : (nodes : List (Node V)) (key : ℕ) → ((x : ℕ) → HasKey nodes key x → ⊥) → lookup (nat_eq key) (entries_of nodes) ≡ None
  none_looked nodes key none = lookup_none (entries_of nodes) key (λ x v at. let n = node_at nodes x (key, v) at in none x (n.0, n.1, ap (λ (e : ℕ × V). e.0) n.2))

  pub key_there : (nodes : List (Node V)) (key : ℕ) → is_some (lookup (nat_eq key) (entries_of nodes)) ≡ true → (x : ℕ) × HasKey nodes key x
  key_there nodes key some = elim (place_of (entries_of nodes) key) [
    | inl at ↦ let n = node_at nodes at.0 (key, at.1) at.2 in (at.0, (n.0, n.1, ap (λ (e : ℕ × V). e.0) n.2))
    | inr none ↦ absurd (let bad : false ≡ true = sym (ap is_some (lookup_none (entries_of nodes) key none)) ∙ some in cc)
  ]

  pub key_looked : (nodes : List (Node V)) → IsUnique (entries_of nodes) → (key x : ℕ) → HasKey nodes key x → (n : Node V) → slice_get nodes x ≡ Some n → lookup (nat_eq key) (entries_of nodes) ≡ Some n.value
  key_looked nodes u key x has n at =
      let own : n.key ≡ key = ap (λ (k : Node V). k.key) (same_some n has.0 (sym at ∙ has.1)) ∙ has.2 in
      lookup_at (entries_of nodes) u x key n.value (entry_here nodes x n at ∙ ap (λ k. Some (k, n.value)) own)

  pub key_inside : (nodes : List (Node V)) (key x : ℕ) → HasKey nodes key x → x < length nodes
  key_inside nodes key x has = slice_get_within nodes x has.0 has.1

  -- ---- a key joins

  got_pushed : (es : List (ℕ × V)) (e : ℕ × V) (x : ℕ) (a : ℕ × V) → slice_get (es ++ e ∷ []) x ≡ Some a → (slice_get es x ≡ Some a) ⊎ ((x ≡ length es) × (a ≡ e))
  got_pushed [] e zero a at = inr (refl, sym (same_some e a at))
  got_pushed [] e (suc x) a at = absurd (none_some a at)
  got_pushed (b ∷ es) e zero a at = inl at
  got_pushed (b ∷ es) e (suc x) a at = elim (got_pushed es e x a at) [ inl h ↦ inl h | inr h ↦ inr (ap (λ n. suc n) h.0, h.1) ]

  module _ (es : List (ℕ × V)) (u : IsUnique es) (e : ℕ × V) (alone : lookup (nat_eq e.0) es ≡ None) where
    not_there : (x : ℕ) (a : ℕ × V) → slice_get es x ≡ Some a → a.0 ≢ e.0
    not_there x a at s = none_some a.1 (sym alone ∙ lookup_at es u x e.0 a.1 (at ∙ ap (λ k. Some (k, a.1)) s))

    pub unique_pushed : IsUnique (es ++ e ∷ [])
    unique_pushed x y a b p q s = elim (got_pushed es e x a p) [
      | inl h ↦ elim (got_pushed es e y b q) [
        | inl g ↦ u x y a b h g s
        | inr g ↦ absurd (not_there x a h (s ∙ ap (λ (k : ℕ × V). k.0) g.1))
      ]
      | inr h ↦ elim (got_pushed es e y b q) [
        | inl g ↦ absurd (not_there y b g (sym s ∙ ap (λ (k : ℕ × V). k.0) h.1))
        | inr g ↦ h.0 ∙ sym g.0
      ]
    ]

    pub looked_pushed : (q : ℕ) → lookup (nat_eq q) (es ++ e ∷ []) ≡ cond (nat_eq e.0 q) (Some e.1) (lookup (nat_eq q) es)
    looked_pushed = looked_put es (es ++ e ∷ []) u unique_pushed e.0
        (λ q d x v at. elim (got_pushed es e x (q, v) at) [ inl h ↦ (x, h) | inr h ↦ absurd (d (ap (λ (k : ℕ × V). k.0) h.1)) ])
        (λ q d y v at. (y, got_before es (e ∷ []) y (slice_get_within es y (q, v) at) ∙ at))
        (length es) e.1 (got_last es e)

  module _ (nodes more : List (Node V)) (heads heads' : List ℕ) (capacity room : ℕ) (k : IsKept nodes heads capacity room) (some : 0 < room)
      (n : Node V) (alone : lookup (nat_eq n.key) (entries_of nodes) ≡ None) (indexed : IsIndexed more heads') (same : SameEntries (nodes ++ n ∷ []) more) (len : length heads' ≡ length heads) where
    pub kept_pushed : IsKept more heads' capacity (room - 1)
    kept_pushed =
        let l : length more ≡ suc (length nodes) = same_len (nodes ++ n ∷ []) more same ∙ length_pushed nodes n in
        record {
          unique = rw (same, entries_pushed nodes n) (unique_pushed (entries_of nodes) k.unique (entry_of n) alone);
          indexed = indexed;
          fits = let f = k.fits in omega arith;
          few = let f = k.few in omega arith;
          ready = λ h. let r = k.ready some in omega arith;
        }

  pub table_pushed : (nodes more : List (Node V)) → IsUnique (entries_of nodes) → (n : Node V) → lookup (nat_eq n.key) (entries_of nodes) ≡ None → SameEntries (nodes ++ n ∷ []) more
      → map.from_entries {R = nat_cmp} (entries_of more) ≡ map.insert (map.from_entries (entries_of nodes)) n.key n.value
  table_pushed nodes more u n alone same = put-table (entries_of nodes) (entries_of more) n.key n.value
      (rw (same, entries_pushed nodes n) (looked_pushed (entries_of nodes) u (entry_of n) alone))

  pub unique_joined : (nodes : List (Node V)) (n : Node V) → IsUnique (entries_of nodes) → lookup (nat_eq n.key) (entries_of nodes) ≡ None → IsUnique (entries_of (nodes ++ n ∷ []))
  unique_joined nodes n u alone = rw (entries_pushed nodes n) (unique_pushed (entries_of nodes) u (entry_of n) alone)

  -- ---- a key has another value

  module _ (nodes : List (Node V)) (heads : List ℕ) (capacity room : ℕ) (k : IsKept nodes heads capacity room) (key x : ℕ) (has : HasKey nodes key x)
      (n : Node V) (at : slice_get nodes x ≡ Some n) (value : V) where
    abbrev changed : List (Node V)
    changed = slice_set nodes x (record { key = n.key; value = value; links = n.links; above = n.above })

    inside : x < length nodes
    inside = slice_get_within nodes x n at

    own : n.key ≡ key
    own = ap (λ (m : Node V). m.key) (same_some n has.0 (sym at ∙ has.1)) ∙ has.2

    here : slice_get (entries_of changed) x ≡ Some (n.key, value)
    here = entry_here changed x _ (got_set nodes x _ inside)

    aside : (y : ℕ) → y ≢ x → slice_get (entries_of changed) y ≡ slice_get (entries_of nodes) y
    aside y d = slice_get-map entry_of changed y ∙ ap (λ (o : Option (Node V)). option_map entry_of o) (got_other nodes x y _ d) ∙ sym (slice_get-map entry_of nodes y)

    -- the entry that was there has the same key
    before : (y : ℕ) (a : ℕ × V) → slice_get (entries_of changed) y ≡ Some a → (b : ℕ × V) × (slice_get (entries_of nodes) y ≡ Some b) × (b.0 ≡ a.0)
    before y a h = elim (equal_or_not y x) [
      | inl e ↦ (
        entry_of n,
        ap (slice_get (entries_of nodes)) e ∙ entry_here nodes x n at,
        ap (λ (p : ℕ × V). p.0) (same_some (n.key, value) a (sym here ∙ ap (slice_get (entries_of changed)) (sym e) ∙ h)),
      )
      | inr d ↦ (a, sym (aside y d) ∙ h, refl)
    ]

    unique_changed : IsUnique (entries_of changed)
    unique_changed y z a b p q s = let u = before y a p in let w = before z b q in k.unique y z u.0 w.0 u.1 w.1 (u.2 ∙ s ∙ sym w.2)

    looked_changed : (q : ℕ) → lookup (nat_eq q) (entries_of changed) ≡ cond (nat_eq key q) (Some value) (lookup (nat_eq q) (entries_of nodes))
    looked_changed = looked_put (entries_of nodes) (entries_of changed) k.unique unique_changed key
        (λ q d y v h. (y, sym (aside y (λ e. d (ap (λ (p : ℕ × V). p.0) (same_some (q, v) (n.key, value) (sym h ∙ ap (slice_get (entries_of changed)) e ∙ here)) ∙ own))) ∙ h))
        (λ q d y v h. (y, aside y (λ e. d (ap (λ (p : ℕ × V). p.0) (same_some (q, v) (entry_of n) (sym h ∙ ap (slice_get (entries_of nodes)) e ∙ entry_here nodes x n at)) ∙ own)) ∙ h))
        x value (here ∙ ap (λ p. Some (p, value)) own)

    pub kept_changed : IsKept changed heads capacity room
    kept_changed = record {
      unique = unique_changed;
      indexed = indexed_valued nodes heads x n _ at refl refl refl k.indexed;
      fits = let f = k.fits in let l = length-set nodes x (let m : Node V = record { key = n.key; value = value; links = n.links; above = n.above } in m) in omega arith;
      few = let f = k.few in let l = length-set nodes x (let m : Node V = record { key = n.key; value = value; links = n.links; above = n.above } in m) in omega arith;
      ready = k.ready;
    }

    pub table_changed : map.from_entries {R = nat_cmp} (entries_of changed) ≡ map.insert (map.from_entries (entries_of nodes)) key value
    table_changed = put-table (entries_of nodes) (entries_of changed) key value looked_changed

  -- ---- a key leaves

  module _ (nodes : List (Node V)) (heads : List ℕ) (capacity room : ℕ) (k : IsKept nodes heads capacity room) (key x : ℕ) (has : HasKey nodes key x)
      (rest : List (Node V)) (t : IsTakenOut nodes rest x) where
    gone : slice_get (entries_of nodes) x ≡ Some (key, has.0.value)
    gone = entry_here nodes x has.0 has.1 ∙ ap (λ p. Some (p, has.0.value)) has.2

    less : (y : ℕ) (a : ℕ × V) → slice_get (entries_of rest) y ≡ Some a → y < length rest
    less y a h = let w = slice_get_within (entries_of rest) y a h in let l = entries_len rest in omega arith

    from : (y : ℕ) (a : ℕ × V) → slice_get (entries_of rest) y ≡ Some a → slice_get (entries_of nodes) (t.was y) ≡ Some a
    from y a h = sym (t.came y (less y a h)) ∙ h

    onto : (z : ℕ) (a : ℕ × V) → slice_get (entries_of nodes) z ≡ Some a → z ≢ x → (y : ℕ) × (slice_get (entries_of rest) y ≡ Some a)
    onto z a h d =
        let p = t.all z (let w = slice_get_within (entries_of nodes) z a h in let l = entries_len nodes in omega arith) d in
        (p.0, t.came p.0 p.1 ∙ ap (slice_get (entries_of nodes)) p.2 ∙ h)

    unique_left : IsUnique (entries_of rest)
    unique_left y z a b p q s = t.once y z (less y a p) (less z b q) (k.unique (t.was y) (t.was z) a b (from y a p) (from z b q) s)

    looked_left : (q : ℕ) → lookup (nat_eq q) (entries_of rest) ≡ cond (nat_eq key q) None (lookup (nat_eq q) (entries_of nodes))
    looked_left = looked_out (entries_of nodes) (entries_of rest) k.unique unique_left key
        (λ q d y v h. (t.was y, from y (q, v) h))
        (λ q d z v h. onto z (q, v) h (λ e. d (ap (λ (p : ℕ × V). p.0) (same_some (q, v) (key, has.0.value) (sym h ∙ ap (slice_get (entries_of nodes)) e ∙ gone)))))
        (λ y v h. t.others y (less y (key, v) h) (k.unique (t.was y) x (key, v) (key, has.0.value) (from y (key, v) h) gone refl))

    pub kept_left : (heads' : List ℕ) → IsIndexed rest heads' → length heads' ≡ length heads → IsKept rest heads' capacity room
    kept_left heads' so len = record {
      unique = unique_left;
      indexed = so;
      fits = let f = k.fits in let l = t.len in omega arith;
      few = let f = k.few in let l = t.len in omega arith;
      ready = λ h. let r = k.ready h in omega arith;
    }

    pub kept_released : (heads' : List ℕ) → IsIndexed rest heads' → length heads' ≡ length heads → IsKept rest heads' capacity (room + 1)
    kept_released heads' so len = record {
      unique = unique_left;
      indexed = so;
      fits = let f = k.fits in let l = t.len in omega arith;
      few = let f = k.few in let l = t.len in omega arith;
      ready = λ h. let w = k.indexed.wide (let i = key_inside nodes key x has in omega arith) in omega arith;
    }

    pub table_left : map.from_entries {R = nat_cmp} (entries_of rest) ≡ map.remove (map.from_entries (entries_of nodes)) key
    table_left = out-table (entries_of nodes) (entries_of rest) key looked_left

  -- taking out a key that isn't there
  pub out_none : (es : List (ℕ × V)) (key : ℕ) → lookup (nat_eq key) es ≡ None → map.from_entries {R = nat_cmp} es ≡ map.remove (map.from_entries es) key
  out_none es key none = let nothing : Option V = None in out-table es es key (λ q. elim (eqb_tells key q) [
    | inl s ↦ ap (λ p. lookup (nat_eq p) es) (sym s.1) ∙ none ∙ sym (ap (λ b. cond b nothing (lookup (nat_eq q) es)) s.0)
    | inr d ↦ sym (ap (λ b. cond b nothing (lookup (nat_eq q) es)) d.0)
  ])

  -- ---- more room

  pub kept_grown : (nodes more : List (Node V)) (heads heads' : List ℕ) (capacity capacity' room room' : ℕ) → IsKept nodes heads capacity room → IsIndexed more heads' → SameEntries nodes more → length nodes + room' ≤ capacity' → length nodes + room' < 2 ^ 32 → (0 < room' → 0 < length heads')
      → IsKept more heads' capacity' room'
  kept_grown nodes more heads heads' capacity capacity' room room' k so same fits few ready = record {
    unique = rw same k.unique;
    indexed = so;
    fits = let a = entries_len nodes in let b = entries_len more in let e : length (entries_of more) ≡ length (entries_of nodes) = ap (λ (es : List (ℕ × V)). length es) same in omega arith;
    few = let a = entries_len nodes in let b = entries_len more in let e : length (entries_of more) ≡ length (entries_of nodes) = ap (λ (es : List (ℕ × V)). length es) same in omega arith;
    ready = ready;
  }
