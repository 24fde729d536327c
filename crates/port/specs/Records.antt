-- How ports are kept. No public clause cites this module.
use Rattle.std.specs.Prelude.{◌≡◌, ◌↔◌, ℕ, ◌+◌, ◌<◌, ◌^◌, ◌++◌, List, [], ◌∷◌, Option, Some, None, length}
use Rattle.std.specs.List.{sum_by, Contains}
use Rattle.std.specs.FinMap as map
use Rattle.std.specs.Ordering.{nat_cmp}
use Rattle.rights.specs.declared.Counts.{Counts}
use Rattle.rights.specs.Counts.{no_rights}
use Rattle.slab.specs.Slab.{Slab, get}
use Rattle.member_lists.specs.Lists.{ListsView, list_of, without}
use Rattle.member_lists.specs.Values.{with_values}
use Rattle.port_base.specs.declared.Holder.{Holder}
use Rattle.port_base.specs.declared.Holder.TheVariants.{Task, QueueOf, Nobody, Doomed}
use Rattle.port_base.specs.declared.Record.{Record}
use Rattle.port.specs.Holding.{held}
use Rattle.port_base.specs.Ready.{StandsIn}
use Rattle.port_base.specs.Turns.{ReadyLists, has_some}
use Rattle.port_base.specs.Memberships.{IsHome, first_of}
use Rattle.shared_lists.specs.Shared.{SharedView, more_of, IsReady}
use Rattle.port_base.specs.Attributes.{first_attributes}
use Rattle.port_base.specs.Records.{ids_at, waiting_list, noting_list}
use Rattle.port.specs.Ports.{PortView, PortsView, sets_in, with_port}

-- how many numbers were given out, where the next is this, or none is left
abbrev pub made_of : Option ℕ → ℕ
made_of None = 2 ^ 64
made_of (Some next) = next

-- the ports that were lost, once this one has the holder and is no longer among them
abbrev pub lost_with : Holder → (port : ℕ) → List ℕ → List ℕ
lost_with (Task task) port lost = lost
lost_with (QueueOf q) port lost = lost
lost_with Nobody port lost = lost ++ port ∷ []
lost_with Doomed port lost = lost

-- the doomed ports, likewise
abbrev pub doomed_with : Holder → (port : ℕ) → List ℕ → List ℕ
doomed_with (Task task) port doomed = doomed
doomed_with (QueueOf q) port doomed = doomed
doomed_with Nobody port doomed = doomed
doomed_with Doomed port doomed = doomed ++ port ∷ []

module _ {M : Type 0} where
  abbrev pub port_in : Option (Record M) → (more : List ℕ) → PortView M
  port_in None more = record { queue = []; attributes = first_attributes 0; more = more }
  port_in (Some r) more = record { queue = r.queue; attributes = r.kept.attributes; more = more }

  abbrev pub ports_of : (ℕ → Option (Record M)) → SharedView → map.FinMap nat_cmp ℕ → map.FinMap nat_cmp (PortView M)
  ports_of at sets keys = with_values (λ key. port_in (at key) (more_of sets key)) keys

  abbrev pub rights_in : Option (Record M) → Counts
  rights_in None = no_rights
  rights_in (Some r) = r.counts

  -- how many rights there are for each port
  abbrev pub rights_of : (ℕ → Option (Record M)) → map.FinMap nat_cmp ℕ → map.FinMap nat_cmp Counts
  rights_of at keys = with_values (λ key. rights_in (at key)) keys

  -- the identities of the ports in a list
  abbrev pub ids_in : (ℕ → Option (Record M)) → ListsView → (list : ℕ) → List ℕ
  ids_in at lists list = ids_at at (list_of lists list)

  abbrev pub turns_at : (ℕ → Option (Record M)) → map.FinMap nat_cmp (List ℕ) → ReadyLists
  turns_at at lists = with_values (ids_at at) lists

  -- how many messages lie in a slot of the slab
  abbrev pub queued_in : Option (Record M) → ℕ
  queued_in None = 0
  queued_in (Some r) = length r.queue

  -- Identities lead to keys of records, and each record is found by its identity; each identity was given.
  pub record IsIndexed (at : ℕ → Option (Record M)) (keys : map.FinMap nat_cmp ℕ) (made : ℕ) : Type 0 where
    pub found : (id key : ℕ) → map.get keys id ≡ Some key → (r : Record M) × (at key ≡ Some r) × (r.id ≡ id)
    pub held : (key : ℕ) (r : Record M) → at key ≡ Some r → map.get keys r.id ≡ Some key
    pub given : (id key : ℕ) → map.get keys id ≡ Some key → id < made

  pub record IsSound (s : Slab (Record M)) (keys : map.FinMap nat_cmp ℕ) (next : Option ℕ) (spare destroyed : List M) (slots : ℕ) : Type 0 where
    pub indexed : IsIndexed (get s) keys (made_of next)
    pub counted : sum_by queued_in s.slots + length spare + length destroyed ≡ slots
    pub few : slots < 2 ^ 63
    pub next_fits : (n : ℕ) → next ≡ Some n → n < 2 ^ 64

  -- The ports stand by their keys in the lists where they belong, and nothing else does.
  pub record IsListed (home : Record M → Option ℕ) (at : ℕ → Option (Record M)) (lists : ListsView) : Type 0 where
    pub stands : (key : ℕ) (r : Record M) → at key ≡ Some r → StandsIn lists key (home r)
    pub held : (key l : ℕ) → Contains (list_of lists l) key → (r : Record M) × (at key ≡ Some r)
    pub room : (key : ℕ) (r : Record M) → at key ≡ Some r → key < lists.items

  -- the sets that the port under the key is in
  abbrev pub sets_at : SharedView → (key : ℕ) → Record M → List ℕ
  sets_at sets key r = sets_in (port_in (Some r) (more_of sets key))

  -- each port stands in the lists of its sets, and among the ready ones of each where it has a message; nothing else does
  pub record IsMembered (at : ℕ → Option (Record M)) (sets : SharedView) : Type 0 where
    pub first : (key : ℕ) (r : Record M) → at key ≡ Some r → r.kept.attributes.set ≡ first_of r.kept.membership
    pub stands : (key l : ℕ) (r : Record M) → at key ≡ Some r → Contains (list_of sets.all l) key ↔ Contains (sets_at sets key r) l
    pub home : (key : ℕ) (r : Record M) → at key ≡ Some r → IsHome sets key r.kept.membership
    pub ready : (key : ℕ) (r : Record M) → at key ≡ Some r → IsReady sets key (has_some r.queue)
    pub held : (key l : ℕ) → Contains (list_of sets.all l) key → (r : Record M) × (at key ≡ Some r)
    pub readied : (key l : ℕ) → Contains (list_of sets.ready l) key → Contains (list_of sets.all l) key
    pub more : (key : ℕ) → at key ≡ None → more_of sets key ≡ []
    pub room : (key : ℕ) (r : Record M) → at key ≡ Some r → key < sets.all.items

  -- the ports that nobody holds stand in the lists of the lost and of the doomed
  abbrev pub IsAwaited : (ℕ → Option (Record M)) → ListsView → Type 0
  IsAwaited at waiting = IsListed waiting_list at waiting

  -- the noted ports stand in their list
  abbrev pub IsNoted : (ℕ → Option (Record M)) → ListsView → Type 0
  IsNoted at noted = IsListed noting_list at noted

  pub record IsKept (s : Slab (Record M)) (keys : map.FinMap nat_cmp ℕ) (next : Option ℕ) (spare destroyed : List M) (slots : ℕ) (sets : SharedView) (waiting noted : ListsView) : Type 0 where
    pub sound : IsSound s keys next spare destroyed slots
    pub membered : IsMembered (get s) sets
    pub awaited : IsAwaited (get s) waiting
    pub are_noted : IsNoted (get s) noted

  -- the port has another holder: it left the ports that nobody holds, and is the last of those where it belongs
  abbrev pub with_holder : PortsView M → (port : ℕ) → PortView M → Holder → PortsView M
  with_holder v port p holder = record (with_port v port (held p holder)) { lost = lost_with holder port (without port v.lost); doomed = doomed_with holder port (without port v.doomed) }
