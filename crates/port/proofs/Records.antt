-- What the ports are, and what becomes of them when a record comes, changes or goes.
use Rattle.std.proofs.Common.{◌≡◌, ◌≢◌, inl, inr, ℕ, ◌+◌, true, List, refl, ap, sym, ◌∙◌, Option, Some, None, is_some, arith}
use Rattle.std.specs.Option.{option_map}
use Rattle.std.specs.Ordering.{nat_cmp}
use Rattle.std.specs.FinMap as map
use Rattle.port_base.specs.declared.Record.{Record}
use Rattle.port.specs.Ports.{PortView}
use Rattle.shared_lists.specs.Shared.{SharedView, more_of}
use Rattle.port.specs.Records.{ports_of, port_in, rights_of, rights_in, IsIndexed}
use Rattle.member_lists.proofs.Values.{get-with_values}
use Rattle.port.proofs.Keys.{same_some, some_or_none, equal_or_not, put_here, put_other, out_here, out_other, same_gets}

abbrev pub Keyed : Type 0
Keyed = map.FinMap nat_cmp ℕ

module _ {M : Type 0} where
  abbrev pub port_of : Record M → (more : List ℕ) → PortView M
  port_of r more = record { queue = r.queue; attributes = r.kept.attributes; more = more }

  -- the same in each place but one
  pub record Turns (at new : ℕ → Option (Record M)) (key : ℕ) (slot : Option (Record M)) : Type 0 where
    pub changed : new key ≡ slot
    pub others : (other : ℕ) → other ≢ key → new other ≡ at other

  module _ (at : ℕ → Option (Record M)) (sets : SharedView) (n : Keyed) where
    pub get-ports : (q : ℕ) → map.get (ports_of at sets n) q ≡ option_map (λ k. port_in (at k) (more_of sets k)) (map.get n q)
    get-ports q = get-with_values (λ k. port_in (at k) (more_of sets k)) n q

    pub port_at : (q k : ℕ) (r : Record M) → map.get n q ≡ Some k → at k ≡ Some r → map.get (ports_of at sets n) q ≡ Some (port_of r (more_of sets k))
    port_at q k r e f = get-ports q ∙ ap (option_map (λ k. port_in (at k) (more_of sets k))) e ∙ ap (λ o. Some (port_in o (more_of sets k))) f

    pub no_port_at : (q : ℕ) → map.get n q ≡ None → map.get (ports_of at sets n) q ≡ None
    no_port_at q e = get-ports q ∙ ap (option_map (λ k. port_in (at k) (more_of sets k))) e

    pub live_key : (q : ℕ) → map.contains_key (ports_of at sets n) q ≡ true → (k : ℕ) × (map.get n q ≡ Some k)
    live_key q e = grind (arith, is_some, get-ports)

  -- ---- how many rights there are

  pub get-rights : (at : ℕ → Option (Record M)) (n : Keyed) (q : ℕ) → map.get (rights_of at n) q ≡ option_map (λ k. rights_in (at k)) (map.get n q)
  get-rights at n q = get-with_values (λ k. rights_in (at k)) n q

  pub rights_at : (at : ℕ → Option (Record M)) (n : Keyed) (q k : ℕ) (r : Record M) → map.get n q ≡ Some k → at k ≡ Some r → map.get (rights_of at n) q ≡ Some r.counts
  rights_at at n q k r e f = get-rights at n q ∙ ap (option_map (λ k. rights_in (at k))) e ∙ ap (λ o. Some (rights_in o)) f

  pub live_rights : (at : ℕ → Option (Record M)) (n : Keyed) (q : ℕ) → map.contains_key (rights_of at n) q ≡ true → (k : ℕ) × (map.get n q ≡ Some k)
  live_rights at n q e = grind (arith, is_some, get-rights)

  pub rights-alike : (at new : ℕ → Option (Record M)) (n : Keyed) → ((k : ℕ) → rights_in (new k) ≡ rights_in (at k)) → rights_of new n ≡ rights_of at n
  rights-alike at new n same = same_gets _ _ (λ q. get-rights new n q ∙ each (map.get n q) ∙ sym (get-rights at n q))
    where
      each : (o : Option ℕ) → option_map (λ k. rights_in (new k)) o ≡ option_map (λ k. rights_in (at k)) o
      each None = refl
      each (Some k) = ap (λ c. Some c) (same k)

  -- they are the same where the record that changes has the same counts
  pub rights-kept : (at new : ℕ → Option (Record M)) (n : Keyed) (key : ℕ) (r s : Record M) → at key ≡ Some r → Turns at new key (Some s) → s.counts ≡ r.counts → rights_of new n ≡ rights_of at n
  rights-kept at new n key r s here turns same = rights-alike at new n (λ k. elim (equal_or_not k key) [
    | inl e ↦ ap (λ x. rights_in (new x)) e ∙ ap rights_in turns.changed ∙ same ∙ sym (ap (λ x. rights_in (at x)) e ∙ ap rights_in here)
    | inr d ↦ ap rights_in (turns.others k d)
  ])

  -- ---- a record changes

  module _ (at new : ℕ → Option (Record M)) (sets then : SharedView) (n : Keyed) (made : ℕ) (x : IsIndexed at n made) (id key : ℕ) (keep : (k : ℕ) → k ≢ key → more_of then k ≡ more_of sets k) (r s : Record M) (found : map.get n id ≡ Some key) (here : at key ≡ Some r)
      (turns : Turns at new key (Some s)) (same : s.id ≡ r.id) where
    only_key : (q : ℕ) → q ≢ id → (k : ℕ) → map.get n q ≡ Some k → k ≢ key
    only_key q d k h e = grind (arith, same_some)

    pub ports-changed : ports_of new then n ≡ map.insert (ports_of at sets n) id (port_of s (more_of then key))
    ports-changed = same_gets _ _ (λ q. elim (equal_or_not q id) [
      | inl e ↦ ap (map.get (ports_of new then n)) e ∙ port_at new then n id key s found turns.changed ∙ sym (put_here (ports_of at sets n) id (port_of s (more_of then key))) ∙ ap (map.get (map.insert (ports_of at sets n) id (port_of s (more_of then key)))) (sym e)
      | inr d ↦ get-ports new then n q ∙ same_at q d (map.get n q) refl ∙ sym (get-ports at sets n q) ∙ sym (put_other (ports_of at sets n) id (port_of s (more_of then key)) q d)
    ])
      where
        same_at : (q : ℕ) → q ≢ id → (o : Option ℕ) → map.get n q ≡ o → option_map (λ k. port_in (new k) (more_of then k)) o ≡ option_map (λ k. port_in (at k) (more_of sets k)) o
        same_at q d None h = refl
        same_at q d (Some k) h = let no : k ≢ key = only_key q d k h in ap (λ a. Some (port_in a (more_of then k))) (turns.others k no) ∙ ap (λ ys. Some (port_in (at k) ys)) (keep k no)

    pub rights-changed : rights_of new n ≡ map.insert (rights_of at n) id s.counts
    rights-changed = same_gets _ _ (λ q. elim (equal_or_not q id) [
      | inl e ↦ ap (map.get (rights_of new n)) e ∙ rights_at new n id key s found turns.changed ∙ sym (put_here (rights_of at n) id s.counts) ∙ ap (map.get (map.insert (rights_of at n) id s.counts)) (sym e)
      | inr d ↦ get-rights new n q ∙ rights_same q d (map.get n q) refl ∙ sym (get-rights at n q) ∙ sym (put_other (rights_of at n) id s.counts q d)
    ])
      where
        rights_same : (q : ℕ) → q ≢ id → (o : Option ℕ) → map.get n q ≡ o → option_map (λ k. rights_in (new k)) o ≡ option_map (λ k. rights_in (at k)) o
        rights_same q d None h = refl
        rights_same q d (Some k) h = let no : k ≢ key = only_key q d k h in ap (λ a. Some (rights_in a)) (turns.others k no)

    pub indexed-changed : IsIndexed new n made
    indexed-changed = grind (arith, equal_or_not, same_some)

  -- ---- a record comes

  module _ (at new : ℕ → Option (Record M)) (sets then : SharedView) (n : Keyed) (made : ℕ) (x : IsIndexed at n made) (key : ℕ) (keep : (k : ℕ) → k ≢ key → more_of then k ≡ more_of sets k) (s : Record M) (vacant : at key ≡ None)
      (turns : Turns at new key (Some s)) (is_next : s.id ≡ made) where
    absent : map.get n made ≡ None
    absent = grind arith

    alive : (k : ℕ) (a : Record M) → at k ≡ Some a → k ≢ key
    alive k a h e = some_or_none a (at k) h (ap at e ∙ vacant)

    pub ports-came : ports_of new then (map.insert n made key) ≡ map.insert (ports_of at sets n) made (port_of s (more_of then key))
    ports-came = same_gets _ _ (λ q. elim (equal_or_not q made) [
      | inl e ↦ ap (map.get (ports_of new then (map.insert n made key))) e ∙ port_at new then (map.insert n made key) made key s (put_here n made key) turns.changed
          ∙ sym (put_here (ports_of at sets n) made (port_of s (more_of then key))) ∙ ap (map.get (map.insert (ports_of at sets n) made (port_of s (more_of then key)))) (sym e)
      | inr d ↦ get-ports new then (map.insert n made key) q ∙ ap (option_map (λ k. port_in (new k) (more_of then k))) (put_other n made key q d) ∙ same_at q (map.get n q) refl
          ∙ sym (get-ports at sets n q) ∙ sym (put_other (ports_of at sets n) made (port_of s (more_of then key)) q d)
    ])
      where
        same_at : (q : ℕ) (o : Option ℕ) → map.get n q ≡ o → option_map (λ k. port_in (new k) (more_of then k)) o ≡ option_map (λ k. port_in (at k) (more_of sets k)) o
        same_at q None h = refl
        same_at q (Some k) h = let there = x.found q k h in let no : k ≢ key = alive k there.0 there.1 in ap (λ a. Some (port_in a (more_of then k))) (turns.others k no) ∙ ap (λ ys. Some (port_in (at k) ys)) (keep k no)

    pub rights-came : rights_of new (map.insert n made key) ≡ map.insert (rights_of at n) made s.counts
    rights-came = same_gets _ _ (λ q. elim (equal_or_not q made) [
      | inl e ↦ ap (map.get (rights_of new (map.insert n made key))) e ∙ rights_at new (map.insert n made key) made key s (put_here n made key) turns.changed
          ∙ sym (put_here (rights_of at n) made s.counts) ∙ ap (map.get (map.insert (rights_of at n) made s.counts)) (sym e)
      | inr d ↦ get-rights new (map.insert n made key) q ∙ ap (option_map (λ k. rights_in (new k))) (put_other n made key q d) ∙ rights_same q (map.get n q) refl
          ∙ sym (get-rights at n q) ∙ sym (put_other (rights_of at n) made s.counts q d)
    ])
      where
        rights_same : (q : ℕ) (o : Option ℕ) → map.get n q ≡ o → option_map (λ k. rights_in (new k)) o ≡ option_map (λ k. rights_in (at k)) o
        rights_same q None h = refl
        rights_same q (Some k) h = let there = x.found q k h in let no : k ≢ key = alive k there.0 there.1 in ap (λ a. Some (rights_in a)) (turns.others k no)

    pub indexed-came : IsIndexed new (map.insert n made key) (made + 1)
    indexed-came = grind (arith, equal_or_not, same_some, put_here, put_other, alive, some_or_none, absent)

  -- ---- a record goes

  module _ (at new : ℕ → Option (Record M)) (sets then : SharedView) (n : Keyed) (made : ℕ) (x : IsIndexed at n made) (id key : ℕ) (keep : (k : ℕ) → k ≢ key → more_of then k ≡ more_of sets k) (found : map.get n id ≡ Some key) (turns : Turns at new key None) where
    other_key : (q : ℕ) → q ≢ id → (k : ℕ) → map.get n q ≡ Some k → k ≢ key
    other_key q d k h e = grind (arith, same_some)

    pub ports-went : ports_of new then (map.remove n id) ≡ map.remove (ports_of at sets n) id
    ports-went = same_gets _ _ (λ q. elim (equal_or_not q id) [
      | inl e ↦ no_port_at new then (map.remove n id) q (ap (map.get (map.remove n id)) e ∙ out_here n id) ∙ sym (ap (map.get (map.remove (ports_of at sets n) id)) e ∙ out_here (ports_of at sets n) id)
      | inr d ↦ get-ports new then (map.remove n id) q ∙ ap (option_map (λ k. port_in (new k) (more_of then k))) (out_other n id q d) ∙ same_at q d (map.get n q) refl
          ∙ sym (get-ports at sets n q) ∙ sym (out_other (ports_of at sets n) id q d)
    ])
      where
        same_at : (q : ℕ) → q ≢ id → (o : Option ℕ) → map.get n q ≡ o → option_map (λ k. port_in (new k) (more_of then k)) o ≡ option_map (λ k. port_in (at k) (more_of sets k)) o
        same_at q d None h = refl
        same_at q d (Some k) h = let no : k ≢ key = other_key q d k h in ap (λ a. Some (port_in a (more_of then k))) (turns.others k no) ∙ ap (λ ys. Some (port_in (at k) ys)) (keep k no)

    pub rights-went : rights_of new (map.remove n id) ≡ map.remove (rights_of at n) id
    rights-went = same_gets _ _ (λ q. elim (equal_or_not q id) [
      | inl e ↦ get-rights new (map.remove n id) q ∙ ap (option_map (λ k. rights_in (new k))) (ap (map.get (map.remove n id)) e ∙ out_here n id) ∙ sym (ap (map.get (map.remove (rights_of at n) id)) e ∙ out_here (rights_of at n) id)
      | inr d ↦ get-rights new (map.remove n id) q ∙ ap (option_map (λ k. rights_in (new k))) (out_other n id q d) ∙ rights_same q d (map.get n q) refl
          ∙ sym (get-rights at n q) ∙ sym (out_other (rights_of at n) id q d)
    ])
      where
        rights_same : (q : ℕ) → q ≢ id → (o : Option ℕ) → map.get n q ≡ o → option_map (λ k. rights_in (new k)) o ≡ option_map (λ k. rights_in (at k)) o
        rights_same q d None h = refl
        rights_same q d (Some k) h = let no : k ≢ key = other_key q d k h in ap (λ a. Some (rights_in a)) (turns.others k no)

    pub indexed-went : IsIndexed new (map.remove n id) made
    indexed-went = grind (arith, some_or_none, out_here, out_other, other_key, same_some)
