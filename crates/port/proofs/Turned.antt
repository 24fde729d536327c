-- The turns of the ready ports, from the lists of their keys.
use Rattle.std.proofs.Common.{◌≡◌, ◌≢◌, inl, inr, ℕ, ◌<◌, Bool, true, false, cond, not, eqb, Option, Some, None, List, [], ◌∷◌, ◌++◌, slice_get, refl, ap, sym, subst, ◌∙◌, arith, Contains}
use Rattle.std.specs.Prelude.{unwrap_or}
use Rattle.std.specs.Option.{option_map}
use Rattle.std.specs.FinMap as map
use Rattle.std.specs.Ordering.{nat_cmp}
use Rattle.member_lists.specs.Lists.{ListsView, list_of, with_list, without}
use Rattle.member_lists.specs.Chains.{times}
use Rattle.member_lists.proofs.Times.{times_here, times_more, Contains_from_times}
use Rattle.slab.specs.Slab.{Slab, get, with_value}
use Rattle.port_base.specs.declared.Record.{Record}
use Rattle.shared_lists.specs.Shared.{SharedView, more_of, joined as joined_in, parted as parted_in, joined_each, parted_each}
use Rattle.shared_lists.proofs.Standing.{parted_from}
use Rattle.port_base.specs.Turns.{ReadyLists, turns_of, with_turns, left, joined, sets_without}
use Rattle.port.specs.Ports.{PortView, PortsView, ready_in, turned}
use Rattle.port_base.specs.Records.{id_in, ids_at}
use Rattle.port.specs.Records.{turns_at, made_of, IsIndexed, IsListed}
use Rattle.port.proofs.Keys.{some_or_none, equal_or_not, put_here, put_other, out_here, out_other, same_gets}
use Rattle.member_lists.proofs.Values.{get-with_values, len-with_values}
use Rattle.port.proofs.Records.{Keyed, port_of}
use Rattle.port.proofs.Sound.{IsOpen, turns-set, live_port}

module _ {M : Type 0} (at : ℕ → Option (Record M)) where
  -- ---- a list of keys

  through : (b : Bool) (x : ℕ) (xs : List ℕ) → ids_at at (cond b (x ∷ xs) xs) ≡ cond b (id_in (at x) ∷ ids_at at xs) (ids_at at xs)
  through true x xs = refl
  through false x xs = refl

  pub ids-without : (key id : ℕ) (xs : List ℕ) → ((k : ℕ) → 0 < times k xs → eqb (id_in (at k)) id ≡ eqb k key) → ids_at at (without key xs) ≡ without id (ids_at at xs)
  ids-without key id [] own = refl
  ids-without key id (x ∷ xs) own =
      let here : eqb (id_in (at x)) id ≡ eqb x key = own x (let e = times_here x x xs refl in omega arith) in
      let rest : ids_at at (without key xs) ≡ without id (ids_at at xs) = ids-without key id xs (λ k more. own k (let e = times_more k x xs in omega arith)) in
      through (not (eqb x key)) x (without key xs)
      ∙ ap (λ l. cond (not (eqb x key)) (id_in (at x) ∷ l) l) rest
      ∙ ap (λ b. cond (not b) (id_in (at x) ∷ without id (ids_at at xs)) (without id (ids_at at xs))) (sym here)

  pub ids-pushed : (xs : List ℕ) (key : ℕ) → ids_at at (xs ++ key ∷ []) ≡ ids_at at xs ++ id_in (at key) ∷ []
  ids-pushed [] key = refl
  ids-pushed (x ∷ xs) key = ap (λ ys. id_in (at x) ∷ ys) (ids-pushed xs key)

  pub ids-first : (xs : List ℕ) → slice_get (ids_at at xs) 0 ≡ option_map (λ k. id_in (at k)) (slice_get xs 0)
  ids-first [] = refl
  ids-first (x ∷ xs) = refl

  pub ids-same : (new : ℕ → Option (Record M)) (xs : List ℕ) → ((k : ℕ) → 0 < times k xs → id_in (new k) ≡ id_in (at k)) → ids_at new xs ≡ ids_at at xs
  ids-same new [] same = refl
  ids-same new (x ∷ xs) same =
      ap (λ n. n ∷ ids_at new xs) (same x (let e = times_here x x xs refl in omega arith))
      ∙ ap (λ l. id_in (at x) ∷ l) (ids-same new xs (λ k more. same k (let e = times_more k x xs in omega arith)))

  -- ---- all lists

  get-turns : (lists : ReadyLists) (q : ℕ) → map.get (turns_at at lists) q ≡ option_map (ids_at at) (map.get lists q)
  get-turns lists q = get-with_values (ids_at at) lists q

  of_mapped : (o : Option (List ℕ)) → unwrap_or (option_map (ids_at at) o) [] ≡ ids_at at (unwrap_or o [])
  of_mapped None = refl
  of_mapped (Some xs) = refl

  turns-list : (v : ListsView) (q : ℕ) → turns_of (turns_at at v.lists) q ≡ ids_at at (list_of v q)
  turns-list v q = ap (λ o. unwrap_or o []) (get-turns v.lists q) ∙ of_mapped (map.get v.lists q)

  turns-with_list : (v : ListsView) (l : ℕ) (ys : List ℕ) → turns_at at (with_list v l ys).lists ≡ with_turns (turns_at at v.lists) l (ids_at at ys)
  turns-with_list v l [] = grind (arith, same_gets, equal_or_not, get-turns, out_here, out_other)
  turns-with_list v l (y ∷ ys) = grind (arith, same_gets, equal_or_not, get-turns, put_here, put_other)

  -- the same identities under the keys that stand in lists
  pub turns-same : (new : ℕ → Option (Record M)) (v : ListsView) → ((k l : ℕ) → Contains (list_of v l) k → id_in (new k) ≡ id_in (at k)) → turns_at new v.lists ≡ turns_at at v.lists
  turns-same new v same = same_gets _ _ (λ q. get-with_values (ids_at new) v.lists q ∙ same_at q (map.get v.lists q) refl ∙ sym (get-turns v.lists q))
    where
      same_at : (q : ℕ) (o : Option (List ℕ)) → map.get v.lists q ≡ o → option_map (ids_at new) o ≡ option_map (ids_at at) o
      same_at q None h = refl
      same_at q (Some xs) h = ap (λ l. Some l) (ids-same new xs (λ k more. same k q (subst (λ l. Contains l k) (sym (ap (λ o. unwrap_or o []) h)) (Contains_from_times k xs more))))

  -- ---- an item leaves lists, and joins lists

  turns-parted : (v : ListsView) (key id l : ℕ) → ((k : ℕ) → Contains (list_of v l) k → eqb (id_in (at k)) id ≡ eqb k key) → turns_at at (parted_in v l key).lists ≡ with_turns (turns_at at v.lists) l (without id (turns_of (turns_at at v.lists) l))
  turns-parted v key id l own =
      turns-with_list v l (without key (list_of v l))
      ∙ ap (with_turns (turns_at at v.lists) l) (ids-without key id (list_of v l) (λ k more. own k (Contains_from_times k (list_of v l) more)) ∙ ap (without id) (sym (turns-list v l)))

  turns-joined : (v : ListsView) (key id l : ℕ) → id_in (at key) ≡ id → turns_at at (joined_in v l key).lists ≡ with_turns (turns_at at v.lists) l (turns_of (turns_at at v.lists) l ++ id ∷ [])
  turns-joined v key id l is =
      turns-with_list v l (list_of v l ++ key ∷ [])
      ∙ ap (with_turns (turns_at at v.lists) l) (ids-pushed (list_of v l) key ∙ ap (λ n. ids_at at (list_of v l) ++ n ∷ []) is ∙ ap (λ ys. ys ++ id ∷ []) (sym (turns-list v l)))

  pub turns-parted_each : (v : ListsView) (key id : ℕ) (ls : List ℕ) → ((k l : ℕ) → Contains (list_of v l) k → eqb (id_in (at k)) id ≡ eqb k key) → turns_at at (parted_each v ls key).lists ≡ left (turns_at at v.lists) id ls
  turns-parted_each v key id [] own = refl
  turns-parted_each v key id (l ∷ ls) own =
      turns-parted_each (parted_in v l key) key id ls (λ k m c. own k m (parted_from v l key m k c).0)
      ∙ ap (λ t. left t id ls) (turns-parted v key id l (λ k c. own k l c))

  pub turns-joined_each : (v : ListsView) (key id : ℕ) (ls : List ℕ) → id_in (at key) ≡ id → turns_at at (joined_each v ls key).lists ≡ joined (turns_at at v.lists) id ls
  turns-joined_each v key id [] is = refl
  turns-joined_each v key id (l ∷ ls) is = turns-joined_each (joined_in v l key) key id ls is ∙ ap (λ t. joined t id ls) (turns-joined v key id l is)

  pub turns-none : (lists : ReadyLists) → lists ≡ map.empty → turns_at at lists ≡ map.empty
  turns-none lists e = map.empty_of_len _ (len-with_values (ids_at at) lists ∙ ap (λ (m : ReadyLists). map.len m) e ∙ map.len-empty nat_cmp (List ℕ))

  -- a port that comes or goes stands in no list
  pub turns-apart : (new : ℕ → Option (Record M)) (v : ListsView) (key : ℕ) → ((l : ℕ) → Contains (list_of v l) key → ⊥) → ((other : ℕ) → other ≢ key → new other ≡ at other) → turns_at new v.lists ≡ turns_at at v.lists
  turns-apart new v key apart others = turns-same new v (λ k l c. elim (equal_or_not k key) [
    | inl e ↦ absurd (apart l (subst (λ n. Contains (list_of v l) n) e c))
    | inr d ↦ ap id_in (others k d)
  ])

  pub apart-vacant : (home : Record M → Option ℕ) (v : ListsView) → IsListed home at v → (key : ℕ) → at key ≡ None → (l : ℕ) → Contains (list_of v l) key → ⊥
  apart-vacant home v readied key vacant l c = let was = readied.held key l c in some_or_none was.0 _ was.1 vacant

  -- no other port under a key has this identity
  pub own-record : (keys : Keyed) (made : ℕ) → IsIndexed at keys made → (id key : ℕ) → map.get keys id ≡ Some key → (k : ℕ) → (r : Record M) × (at k ≡ Some r) → eqb (id_in (at k)) id ≡ eqb k key
  own-record keys made x id key found k was = grind (arith, was, x.found id key found)

  pub own : (home : Record M → Option ℕ) (keys : Keyed) (made : ℕ) → IsIndexed at keys made → (v : ListsView) → IsListed home at v → (id key : ℕ) → map.get keys id ≡ Some key → (k l : ℕ) → Contains (list_of v l) k → eqb (id_in (at k)) id ≡ eqb k key
  own home keys made x v readied id key found k l c = own-record keys made x id key found k (readied.held k l c)

pub ids-set : {M : Type 0} (s : Slab (Record M)) (key : ℕ) (r a : Record M) → get s key ≡ Some r → a.id ≡ r.id → (k : ℕ) → id_in (get (with_value s key a) k) ≡ id_in (get s k)
ids-set s key r a here same k = elim (equal_or_not k key) [
  | inl e ↦ ap (λ n. id_in (get (with_value s key a) n)) e ∙ ap id_in (turns-set s key r a here).changed ∙ same ∙ sym (ap (λ n. id_in (get s n)) e ∙ ap id_in here)
  | inr d ↦ ap id_in ((turns-set s key r a here).others k d)
]

module _ {M : Type 0} {s : Slab (Record M)} {keys : Keyed} {next : Option ℕ} {spare destroyed : List M} {slots : ℕ} {sets : SharedView} {waiting noting : ListsView} {v : PortsView M} (o : IsOpen s keys next spare destroyed slots sets waiting noting v) where
  pub ready_is : turns_at (get s) sets.ready.lists ≡ v.ready
  ready_is = ap (λ (b : PortsView M). b.ready) o.view_is

  pub turns_are : (set : ℕ) → turns_of v.ready set ≡ ids_at (get s) (list_of sets.ready set)
  turns_are set = ap (λ t. turns_of t set) (sym ready_is) ∙ turns-list (get s) sets.ready set

  pub first_turn : (set : ℕ) → slice_get (turns_of v.ready set) 0 ≡ option_map (λ k. id_in (get s k)) (slice_get (list_of sets.ready set) 0)
  first_turn set = ap (λ t. slice_get (turns_of t set) 0) (sym ready_is) ∙ ap (λ l. slice_get l 0) (turns-list (get s) sets.ready set) ∙ ids-first (get s) (list_of sets.ready set)

  -- ---- a port leaves the ready ones of some sets, and joins those of others

  module _ (id key : ℕ) (found : map.get keys id ≡ Some key) where
    pub its_id : id_in (get s key) ≡ id
    its_id = let there = o.kept.sound.indexed.found id key found in ap id_in there.1 ∙ there.2

    pub turns-moved : (out in_ : List ℕ) → turns_at (get s) (joined_each (parted_each sets.ready out key) in_ key).lists ≡ joined (left v.ready id out) id in_
    turns-moved out in_ =
        turns-joined_each (get s) (parted_each sets.ready out key) key id in_ its_id
        ∙ ap (λ t. joined t id in_) (turns-parted_each (get s) sets.ready key id out (λ k l c. own-record (get s) keys (made_of next) o.kept.sound.indexed id key found k (o.kept.membered.held k l (o.kept.membered.readied k l c))))
        ∙ ap (λ t. joined (left t id out) id in_) ready_is

    pub turned-moved : (r a : Record M) → get s key ≡ Some r → a.id ≡ r.id → (then : SharedView) (now : PortView M) →
        then.ready.lists ≡ (joined_each (parted_each sets.ready (sets_without (ready_in (port_of r (more_of sets key))) (ready_in now)) key) (sets_without (ready_in now) (ready_in (port_of r (more_of sets key)))) key).lists →
        turns_at (get (with_value s key a)) then.ready.lists ≡ turned v.ready id (map.get v.ports id) now
    turned-moved r a here same then now is =
        let was : PortView M = port_of r (more_of sets key) in
        turns-same (get s) (get (with_value s key a)) then.ready (λ k l c. ids-set s key r a here same k)
        ∙ ap (turns_at (get s)) is
        ∙ turns-moved (sets_without (ready_in was) (ready_in now)) (sets_without (ready_in now) (ready_in was))
        ∙ ap (λ p. turned v.ready id p now) (sym (live_port o id key r found here))
