-- What a record says of the lists that a port stands in. No clause above the crate `port` cites this module.
use Rattle.std.specs.Prelude.{ℕ, cond, List, [], ◌∷◌, Option, Some, None}
use Rattle.std.specs.Prelude as std
use Rattle.port_base.specs.declared.Holder.{Holder}
use Rattle.port_base.specs.declared.Holder.TheVariants.{Task, QueueOf, Nobody, Doomed}
use Rattle.port_base.specs.declared.Membership.{Membership}
use Rattle.port_base.specs.declared.Membership.TheVariants.{Nowhere}
use Rattle.port_base.specs.declared.Record.{Record}

-- the numbers of the lists that ports without a holder, and those noted, stand in
abbrev pub lost_list : ℕ
lost_list = 0

abbrev pub doomed_list : ℕ
doomed_list = 1

abbrev pub noted_list : ℕ
noted_list = 0

-- the list that a port with this holder waits in, if nobody holds it
abbrev pub waits_in : Holder → Option ℕ
waits_in (Task task) = None
waits_in (QueueOf port) = None
waits_in Nobody = Some lost_list
waits_in Doomed = Some doomed_list

-- the sets that a port gets ready in by a message: all those that it is in, if it has none
abbrev pub readied_if : {M : Type 0} → List M → Membership → Membership
readied_if [] sets = sets
readied_if (m ∷ ms) sets = Nowhere

-- the sets that a port is no more ready in without its first message: all those that it is in, if it has no more
abbrev pub left_if : {M : Type 0} → List M → Membership → Membership
left_if [] sets = sets
left_if (m ∷ []) sets = sets
left_if (m ∷ n ∷ ms) sets = Nowhere

module _ {M : Type 0} where
  abbrev pub id_in : Option (Record M) → ℕ
  id_in None = 0
  id_in (Some r) = r.id

  -- the identities of the ports under the keys
  abbrev pub ids_at : (ℕ → Option (Record M)) → List ℕ → List ℕ
  ids_at at keys = std.map (λ key. id_in (at key)) keys

  -- the sets that a port gets ready in by a message
  abbrev pub readied_sets : Record M → Membership
  readied_sets r = readied_if r.queue r.kept.membership

  -- the sets that a port is no more ready in without its first message
  abbrev pub left_sets : Record M → Membership
  left_sets r = left_if r.queue r.kept.membership

  -- the list that a port waits in, if nobody holds it
  abbrev pub waiting_list : Record M → Option ℕ
  waiting_list r = waits_in r.kept.attributes.holder

  -- the list of the noted ports, if a port is noted
  abbrev pub noting_list : Record M → Option ℕ
  noting_list r = cond r.kept.is_noted (Some noted_list) None
