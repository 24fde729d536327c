-- Ports as they are kept and as they are seen, and a port by its identity.
use Rattle.std.proofs.Common.{◌≡◌, ℕ, suc, zero, ◌+◌, ◌<◌, refl, ap, sym, subst, ◌∙◌, Option, Some, None, IsSome, IfSome, is_some, Bor, slice_get, true, false, List, [], ◌∷◌, length, get_or, arith}
use Rattle.std.specs.List.{sum_by}
use Rattle.std.specs.Option.{option_copied}
use Rattle.std.specs.FinMap as map
use Rattle.std.proofs.lemmas.List.{get_or-set_same, get_or-set_other}
use Rattle.std.proofs.lemmas.List.Sums.{sum_by-set, sum_by-cons}
use Rattle.slab.specs.Slab.{Slab, get, with_value}
use Rattle.port_base.specs.declared.Record.{Record}
use Rattle.member_lists.specs.Lists.{ListsView}
use Rattle.shared_lists.specs.Shared.{SharedView, more_of}
use Rattle.port_base.specs.Records.{lost_list, doomed_list, noted_list}
use Rattle.port.specs.Ports.{PortView, PortsView, CountedPorts}
use Rattle.port.specs.Records.{ports_of, turns_at, ids_in, queued_in, rights_of, IsKept, made_of}
use Rattle.port.proofs.Keys.{same_some, some_or_none}
use Rattle.port.proofs.Records.{Keyed, port_of, Turns, port_at, no_port_at, live_key, rights-kept}

pub no_true : false ≡ true → ⊥
no_true e = cc

-- the ports as they are seen
abbrev pub view_of : {M : Type 0} → Slab (Record M) → Keyed → Option ℕ → (spare destroyed : List M) → SharedView → (waiting noting : ListsView) → PortsView M
view_of s keys next spare destroyed sets waiting noting = record {
  ports = ports_of (get s) sets keys;
  ready = turns_at (get s) sets.ready.lists;
  made = made_of next;
  spare = length spare;
  destroyed = destroyed;
  lost = ids_in (get s) waiting lost_list;
  doomed = ids_in (get s) waiting doomed_list;
  noted = ids_in (get s) noting noted_list;
  several = sets.several;
}

-- the two parts of what is seen
pub bare_is : {M : Type 0} {v w : CountedPorts M} → v ≡ w → v.bare ≡ w.bare
bare_is {M} e = ap (λ (x : CountedPorts M). x.bare) e

pub counts_is : {M : Type 0} {v w : CountedPorts M} → v ≡ w → v.counts ≡ w.counts
counts_is {M} e = ap (λ (x : CountedPorts M). x.counts) e

pub places_are : {M : Type 0} {v w : CountedPorts M} → v ≡ w → v.places ≡ w.places
places_are {M} e = ap (λ (x : CountedPorts M). x.places) e

pub all_are : {M : Type 0} {v w : CountedPorts M} → v.bare ≡ w.bare → v.counts ≡ w.counts → v.places ≡ w.places → v ≡ w
all_are {M} {v} {w} e f g =
    ap (λ x. let u : CountedPorts M = record { bare = x; counts = v.counts; places = v.places } in u) e
    ∙ ap (λ y. let u : CountedPorts M = record { bare = w.bare; counts = y; places = v.places } in u) f
    ∙ ap (λ z. let u : CountedPorts M = record { bare = w.bare; counts = w.counts; places = z } in u) g

-- ports that are kept so, and seen so
pub record IsOpen {M : Type 0} (s : Slab (Record M)) (keys : Keyed) (next : Option ℕ) (spare destroyed : List M) (slots : ℕ) (sets : SharedView) (waiting noting : ListsView) (v : PortsView M) : Type 0 where
  pub kept : IsKept s keys next spare destroyed slots sets waiting noting
  pub view_is : view_of s keys next spare destroyed sets waiting noting ≡ v

pub opened : {M : Type 0} {s : Slab (Record M)} {keys : Keyed} {next : Option ℕ} {spare destroyed : List M} {slots : ℕ} {sets : SharedView} {waiting noting : ListsView} {v : PortsView M} → IsKept s keys next spare destroyed slots sets waiting noting → view_of s keys next spare destroyed sets waiting noting ≡ v →
    IsOpen s keys next spare destroyed slots sets waiting noting v
opened kept is = record { kept = kept; view_is = is }

-- the lost, the doomed and the noted ports are these
pub record AreSame (l d n lost doomed noted : List ℕ) : Type 0 where
  pub lost_is : l ≡ lost
  pub doomed_is : d ≡ doomed
  pub noted_is : n ≡ noted

pub relisted : {M : Type 0} (v : PortsView M) (l d n lost doomed noted : List ℕ) → AreSame l d n lost doomed noted →
    ◌≡◌ {A = PortsView M} (record v { lost = l; doomed = d; noted = n }) (record v { lost = lost; doomed = doomed; noted = noted })
relisted {M} v l d n lost doomed noted same = grind arith

module _ {M : Type 0} where
  pub within : (l : List (Option (Record M))) (k : ℕ) (r : Record M) → get_or l k None ≡ Some r → k < length l
  within [] k r h = absurd (some_or_none r None h refl)
  within (x ∷ l) zero r h = omega arith
  within (x ∷ l) (suc k) r h = let rest : k < length l = within l k r h in omega arith

  module _ (s : Slab (Record M)) (key : ℕ) (r a : Record M) (here : get s key ≡ Some r) where
    pub turns-set : Turns (get s) (get (with_value s key a)) key (Some a)
    turns-set = grind (arith, get_or-set_same, within, get_or-set_other)

    pub turns-put : {t : Slab (Record M)} → t ≡ with_value s key a → Turns (get s) (get t) key (Some a)
    turns-put e = subst (λ (u : Slab (Record M)). Turns (get s) (get u) key (Some a)) (sym e) turns-set

    pub sum-set : sum_by queued_in (with_value s key a).slots + length r.queue ≡ sum_by queued_in s.slots + length a.queue
    sum-set = grind (arith, sum_by-set, within)

  -- how many rights there are stays where a record changes but for its counts
  pub rights-set : (s : Slab (Record M)) (key : ℕ) (r a : Record M) {t : Slab (Record M)} → get s key ≡ Some r → t ≡ with_value s key a → a.counts ≡ r.counts → (keys : Keyed) → rights_of (get t) keys ≡ rights_of (get s) keys
  rights-set s key r a {t} here e same keys = rights-kept (get s) (get t) keys key r a here (turns-put s key r a here e) same

  -- ---- after a port has come

  pub sum_same : (l m : List (Option (Record M))) → ((k : ℕ) → queued_in (get_or l k None) ≡ queued_in (get_or m k None)) → sum_by queued_in l ≡ sum_by queued_in m
  sum_same [] [] h = refl
  sum_same [] (y ∷ m) h =
      let first : queued_in y ≡ 0 = sym (h 0) in
      let rest : sum_by (queued_in {M = M}) [] ≡ sum_by queued_in m = sum_same [] m (λ k. h (suc k)) in
      let all : sum_by queued_in (y ∷ m) ≡ queued_in y + sum_by queued_in m = sum_by-cons queued_in y m in
      let none : sum_by (queued_in {M = M}) [] ≡ 0 = refl in
      omega arith
  sum_same (x ∷ l) [] h =
      let first : queued_in x ≡ 0 = h 0 in
      let rest : sum_by queued_in l ≡ sum_by (queued_in {M = M}) [] = sum_same l [] (λ k. h (suc k)) in
      let all : sum_by queued_in (x ∷ l) ≡ queued_in x + sum_by queued_in l = sum_by-cons queued_in x l in
      let none : sum_by (queued_in {M = M}) [] ≡ 0 = refl in
      omega arith
  sum_same (x ∷ l) (y ∷ m) h =
      let first : queued_in x ≡ queued_in y = h 0 in
      let rest : sum_by queued_in l ≡ sum_by queued_in m = sum_same l m (λ k. h (suc k)) in
      let a : sum_by queued_in (x ∷ l) ≡ queued_in x + sum_by queued_in l = sum_by-cons queued_in x l in
      let b : sum_by queued_in (y ∷ m) ≡ queued_in y + sum_by queued_in m = sum_by-cons queued_in y m in
      omega arith

  -- ---- a port by its identity

  module _ {s : Slab (Record M)} {keys : Keyed} {next : Option ℕ} {spare destroyed : List M} {slots : ℕ} {sets : SharedView} {waiting noting : ListsView} {v : PortsView M} (o : IsOpen s keys next spare destroyed slots sets waiting noting v) (id : ℕ) where
    pub record_at : (k : ℕ) → map.get keys id ≡ Some k → (r : Record M) × (get s k ≡ Some r) × (r.id ≡ id)
    record_at k h = o.kept.sound.indexed.found id k h

    pub live_port : (k : ℕ) (r : Record M) → map.get keys id ≡ Some k → get s k ≡ Some r → map.get v.ports id ≡ Some (port_of r (more_of sets k))
    live_port k r h g = sym (ap (λ (b : PortsView M). map.get b.ports id) o.view_is) ∙ port_at (get s) sets keys id k r h g

    pub is_port : (k : ℕ) (r : Record M) → map.get keys id ≡ Some k → get s k ≡ Some r → (p : PortView M) → map.get v.ports id ≡ Some p → p ≡ port_of r (more_of sets k)
    is_port k r h g p is = same_some p (port_of r (more_of sets k)) (sym is ∙ live_port k r h g)

    pub gone_port : map.get keys id ≡ None → map.get v.ports id ≡ None
    gone_port h = sym (ap (λ (b : PortsView M). map.get b.ports id) o.view_is) ∙ no_port_at (get s) sets keys id h

    pub live_at : map.contains_key v.ports id ≡ true → (k : ℕ) × (map.get keys id ≡ Some k)
    live_at h = live_key (get s) sets keys id (ap (λ (b : PortsView M). map.contains_key b.ports id) o.view_is ∙ h)

    -- a port that is there, with its key and its record
    pub port_there : (p : PortView M) → map.get v.ports id ≡ Some p → (k : ℕ) × (map.get keys id ≡ Some k) × (r : Record M) × (get s k ≡ Some r) × (p ≡ port_of r (more_of sets k))
    port_there p is =
        let key = live_at (ap is_some is) in
        let there = record_at key.0 key.1 in
        (key.0, key.1, there.0, there.1, is_port key.0 there.0 key.1 there.1 p is)

  -- the front as a list has it
  pub front_got : (o : Option (Bor M)) (l : List M) → (IsSome o → 0 < length l) → (0 < length l → IsSome o) → IfSome o (λ x. x.now ≡ get_or l 0 x.now) → option_copied o ≡ slice_get l 0
  front_got None [] some has is = refl
  front_got None (y ∷ l) some has is = absurd (no_true (has (omega arith)))
  front_got (Some x) [] some has is = absurd (let h : 0 < length (let none : List M = [] in none) = some refl in omega arith)
  front_got (Some x) (y ∷ l) some has is = ap (λ a. Some a) is

  pub no_front : (l : List M) → length l ≡ 0 → slice_get l 0 ≡ None
  no_front [] e = refl
  no_front (x ∷ l) e = absurd (omega arith)
