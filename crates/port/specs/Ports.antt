-- What contracts see of ports: each live port's queue and attributes, the ready ports of each set in their turns, how many were made, how many slots are spare, the messages that were destroyed, and the ports that the end of a step looks at.
use Rattle.std.specs.Prelude.{◌≡◌, ◌≢◌, ℕ, ◌<◌, ◌++◌, ◌∷◌, Bool, List, [], Option, Some, None, true, length, slice_get, drop, refl}
use Rattle.std.specs.Coded.{Coded, code_by, coded×, coded_ℕ, coded_list, coded_bool}
use Rattle.std.specs.FinMap as map
use Rattle.std.specs.Ordering.{nat_cmp}
use Rattle.port_base.specs.declared.Attributes.{Attributes}
use Rattle.port_base.specs.Turns.{ReadyLists, turns_of, left, joined, passed, ready_if, sets_without}
use Rattle.std.specs.List.{Contains}
use Rattle.std.specs.Option.{option_to_list, unwrap_or}
use Rattle.rights.specs.declared.Counts.{Counts}
use Rattle.rights.specs.Counts.{no_rights}
pub use Rattle.port_base.specs.Attributes.{first_attributes}
pub use Rattle.member_lists.specs.Lists.{without}

pub record PortView (M : Type 0) : Type 0 where
  pub queue : List M
  pub attributes : Attributes
  -- the sets that the port is in but for the first, which its attributes have
  pub more : List ℕ

pub record PortsView (M : Type 0) : Type 0 where
  pub ports : map.FinMap nat_cmp (PortView M)
  pub ready : ReadyLists
  pub made : ℕ
  pub spare : ℕ
  pub destroyed : List M
  -- the ports whose receive right was lost, and that are yet to be judged, in that order
  pub lost : List ℕ
  -- the ports that are doomed and not yet removed, in the order in which they were doomed
  pub doomed : List ℕ
  -- the ports that were noted, in that order
  pub noted : List ℕ
  -- whether a port may be in several sets
  pub several : Bool

abbrev pub port_code : {M : Type 0} → Coded M → Coded Attributes → Coded (PortView M)
port_code {M} m a = code_by (List M × (Attributes × List ℕ)) (coded× (coded_list m) (coded× a (coded_list coded_ℕ))) (λ p. (p.queue, (p.attributes, p.more))) (λ p. record { queue = p.0; attributes = p.1.0; more = p.1.1 }) (λ _. refl)

abbrev pub ports_code : {M : Type 0} → Coded M → Coded Attributes → Coded (PortsView M)
ports_code {M} m a = code_by
    (map.FinMap nat_cmp (PortView M) × (ReadyLists × (ℕ × (ℕ × (List M × (List ℕ × (List ℕ × (List ℕ × Bool))))))))
    (coded× (map.code coded_ℕ (port_code m a)) (coded× (map.code coded_ℕ (coded_list coded_ℕ)) (coded× coded_ℕ (coded× coded_ℕ (coded× (coded_list m) (coded× (coded_list coded_ℕ) (coded× (coded_list coded_ℕ) (coded× (coded_list coded_ℕ) coded_bool))))))))
    (λ v. (v.ports, (v.ready, (v.made, (v.spare, (v.destroyed, (v.lost, (v.doomed, (v.noted, v.several)))))))))
    (λ p. record { ports = p.0; ready = p.1.0; made = p.1.1.0; spare = p.1.1.1.0; destroyed = p.1.1.1.1.0; lost = p.1.1.1.1.1.0; doomed = p.1.1.1.1.1.1.0; noted = p.1.1.1.1.1.1.1.0; several = p.1.1.1.1.1.1.1.1 })
    (λ _. refl)

-- the ports, and how many rights there are for each
pub record CountedPorts (M : Type 0) : Type 0 where
  pub bare : PortsView M
  -- of those ports alone
  pub counts : map.FinMap nat_cmp Counts
  -- where each port's record lies; of use only between a look-up that returns a place and a call that takes one
  pub places : map.FinMap nat_cmp ℕ

abbrev pub counted_code : {M : Type 0} → Coded (PortsView M) → Coded Counts → Coded (CountedPorts M)
counted_code {M} ports counts = code_by (PortsView M × (map.FinMap nat_cmp Counts × map.FinMap nat_cmp ℕ)) (coded× ports (coded× (map.code coded_ℕ counts) (map.code coded_ℕ coded_ℕ))) (λ v. (v.bare, (v.counts, v.places))) (λ p. record { bare = p.0; counts = p.1.0; places = p.1.1 }) (λ _. refl)

-- how many rights there are for a port; none where it is gone
abbrev pub rights_for : {M : Type 0} → CountedPorts M → ℕ → Counts
rights_for v port = unwrap_or (map.get v.counts port) no_rights

-- those for one port are so many, and all else is as it was
abbrev pub with_rights : {M : Type 0} → CountedPorts M → ℕ → Counts → CountedPorts M
with_rights v port counts = record v { counts = map.insert v.counts port counts }

-- The port is there, and so are its counts.
abbrev pub HasRights : {M : Type 0} → CountedPorts M → ℕ → Type 0
HasRights v port = map.contains_key v.counts port ≡ true

module _ {M : Type 0} where
  abbrev pub IsLive : PortsView M → ℕ → Type 0
  IsLive v port = map.contains_key v.ports port ≡ true

  -- the sets that a port is in
  abbrev pub sets_in : PortView M → List ℕ
  sets_in p = option_to_list p.attributes.set ++ p.more

  -- the port in these sets
  abbrev pub with_sets : PortView M → List ℕ → PortView M
  with_sets p sets = record p { attributes = record p.attributes { set = slice_get sets 0 }; more = drop 1 sets }

  -- the port in this set alone, or in none; its queue and all else of it stay
  abbrev pub in_set : PortView M → Option ℕ → PortView M
  in_set p set = with_sets p (option_to_list set)

  -- the port in no set, and its counts begin again
  abbrev pub restarted : PortView M → PortView M
  restarted p = record p { attributes = record p.attributes { make_send = 0; sequence = 0; set = None }; more = [] }

  -- the sets that a port is ready in
  abbrev pub ready_in : PortView M → List ℕ
  ready_in p = ready_if p.queue (sets_in p)

  -- The turns once a port is as given: it keeps its turn where it was ready and is, and joins at the end where it is ready now.
  abbrev pub turned : ReadyLists → (port : ℕ) → Option (PortView M) → PortView M → ReadyLists
  turned ready port None now = joined ready port (ready_in now)
  turned ready port (Some was) now = joined (left ready port (sets_without (ready_in was) (ready_in now))) port (sets_without (ready_in now) (ready_in was))

  -- one port as given, and each other as it was
  abbrev pub with_port : PortsView M → ℕ → PortView M → PortsView M
  with_port v port p = record v { ports = map.insert v.ports port p; ready = turned v.ready port (map.get v.ports port) p }

module _ {M : Type 0} where
  -- the port is there, in the set, and has a message
  pub record IsReadyIn (v : PortsView M) (set port : ℕ) : Type 0 where
    pub view : PortView M
    pub there : map.get v.ports port ≡ Some view
    pub member : Contains (sets_in view) set
    pub some : 0 < length view.queue

  -- no port in the set has a message
  pub record NoneReadyIn (v : PortsView M) (set : ℕ) : Type 0 where
    pub empty : (port : ℕ) (p : PortView M) → map.get v.ports port ≡ Some p → Contains (sets_in p) set → length p.queue ≡ 0

  -- the port was given its identity, is there, and is in the set
  pub record IsIn (v : PortsView M) (set port : ℕ) : Type 0 where
    pub given : port < v.made
    pub view : PortView M
    pub there : map.get v.ports port ≡ Some view
    pub member : Contains (sets_in view) set

  -- no port is in the set, and none has a turn in it
  pub record NoneIn (v : PortsView M) (set : ℕ) : Type 0 where
    pub apart : (port : ℕ) (p : PortView M) → map.get v.ports port ≡ Some p → ¬ (Contains (sets_in p) set)
    pub turns : turns_of v.ready set ≡ []

  -- where it was this port's turn in the set it is behind the others that are ready there; all else is as before
  pub record PassesTurn (old : PortsView M) (set port : ℕ) (new : PortsView M) : Type 0 where
    pub its : slice_get (turns_of old.ready set) 0 ≡ Some port → new ≡ record old { ready = passed old.ready port set }
    pub other : slice_get (turns_of old.ready set) 0 ≢ Some port → new ≡ old

  -- the port is gone, or has no message
  abbrev pub NoneQueued : PortsView M → ℕ → Type 0
  NoneQueued v port = (p : PortView M) → map.get v.ports port ≡ Some p → length p.queue ≡ 0

  -- the first message of the port's queue is now the last of the destroyed ones
  pub record DestroysFirst (old : PortsView M) (port : ℕ) (new : PortsView M) : Type 0 where
    pub view : PortView M
    pub there : map.get old.ports port ≡ Some view
    pub first : M
    pub behind : List M
    pub queue : view.queue ≡ first ∷ behind
    pub rest : new ≡ record (with_port old port (record view { queue = behind })) { destroyed = old.destroyed ++ first ∷ [] }

  -- this is the first message of the port's queue, and the sequence number that it is received with
  pub record IsNumberedFront (v : PortsView M) (port : ℕ) (message : M) (sequence : ℕ) : Type 0 where
    pub view : PortView M
    pub there : map.get v.ports port ≡ Some view
    pub first : slice_get view.queue 0 ≡ Some message
    pub number : view.attributes.sequence ≡ sequence
