-- What is true after a step's own part, before ports die and notices are sent (this project's own). It is what IsLawful says, but:
-- a live port may have lost its receive right, and such an orphan may still be in a set; a request that ended with its name may
-- still keep its right, which is owed a notice; and the rights that the step has taken, but will give again in notices, have room.
use Rattle.std.specs.Prelude.{◌≡◌, ℕ, ◌+◌, ◌≤◌, ◌⊎◌, Bool, true, false, List, [], length, Some, All, Contains}
use Rattle.mach_types.specs.Numbers.{most_rights}
use Rattle.mach_types.specs.Tokens.{Kind, receive, send_once, Request, dead_name, Place, in_request, Token, count, is_of}
use Rattle.mach_model.specs.State.{State, held, Holds}
use Rattle.mach_model.specs.Death.{IsOrphan}
use Rattle.mach_model.specs.Carried.{lying_among}
use Rattle.mach_model.specs.Notices.{Notice, carried_by, Owed}
use Rattle.mach_model.specs.Lawful.{LawfulTasks, LawfulNames, LawfulPorts, LawfulNumbers, LawfulSets, LawfulMembership, LawfulLogs, LawfulMessages, LawfulRequests, LawfulGround}

abbrev pub IsOnName : Request → Type 0
IsOnName (dead_name task name) = Unit {0}
IsOnName request = ⊥

-- A right that is owed a notice: a send-once right for a live port; its notice carries no right.
pub record IsOwed (lives : ℕ → Bool) (x : Token × Notice) : Type 0 where
  pub once : x.0.kind ≡ send_once
  pub live : lives x.0.port ≡ true
  pub carries : (place : Place) → carried_by x.1 place ≡ []

-- The orphans, and room for the rights that notices give.
pub record MidRoom (s : State) (owed : Owed) : Type 0 where
  pub orphans : List ℕ
  pub each_orphan : (p : ℕ) → IsOrphan s p → Contains orphans p
  pub few_rights : length s.ledger + length owed + length orphans ≤ most_rights
  pub are_owed : All (IsOwed s.live_port) owed

-- A port has one receive right at most; that of a member is with the task that has the set, or is lost.
pub record MidReceivers (s : State) : Type 0 where
  pub most_receive : (p : ℕ) → count (is_of receive p) s.ledger ≤ 1
  pub members : (p set : ℕ) → Contains (s.sets_of p) set → (task : ℕ) × (s.set_owner set ≡ Some task) × (Holds s task receive p ⊎ IsOrphan s p)

-- A request that isn't on a name keeps a right only while it stands.
pub record MidStanding (stands : Request → Bool) (ledger : List Token) : Type 0 where
  pub ended : (r : Request) → stands r ≡ false → ¬ (IsOnName r) → (kind : Kind) (q : ℕ) → lying_among ledger kind q (in_request r) ≡ 0

pub record MidLawful (s : State) (owed : Owed) : Type 0 where
  pub tasks : LawfulTasks s.live_task s.tasks_made s.naming
  pub open tasks use *
  pub naming : (task : ℕ) → LawfulNames (s.naming task) (held s task)
  pub ports : LawfulPorts s.live_port s.ports_made s.ledger
  pub open ports use *
  pub numbers : LawfulNumbers s.limit s.make_send s.sequence
  pub open numbers use *
  pub receivers : MidReceivers s
  pub open receivers use *
  pub room : MidRoom s owed
  pub open room use *
  pub sets : LawfulSets s.naming s.set_owner s.sets_made
  pub open sets use *
  pub membership : LawfulMembership s.profile s.live_port s.sets_of
  pub open membership use *
  pub logs : LawfulLogs s.ports_made s.log s.taken
  pub open logs use *
  pub messages : LawfulMessages s.live_port s.log s.taken s.ledger
  pub open messages use *
  pub requests : LawfulRequests s.ledger
  pub open requests use *
  pub standing : MidStanding s.stands s.ledger
  pub open standing use *
  pub ground : LawfulGround s.live_port s.naming s.stands
  pub open ground use *
