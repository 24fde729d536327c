-- What every step ends with: ports die, rights are lost, and notices are sent (this project's own rules).
use Rattle.std.specs.Prelude.{◌≡◌, ◌≢◌, ℕ, ◌+◌, ◌<◌, ◌≤◌, ◌⊎◌, Bool, true, false, List, [], ◌++◌, map, filter, length, slice_get, Option, Some, option_map, if◌then◌else◌, ◌==◌, min, All, Any}
use Rattle.mach_types.specs.Numbers.{most_references}
use Rattle.mach_types.specs.Tokens.{send, send_once, Request, no_senders, port_destroyed, dead_name, Place, in_task, in_message, in_request, Token, weigh}
use Rattle.mach_types.specs.Messages.{Entry}
use Rattle.mach_model.specs.State.{State, Target, lookup, held, senders}
use Rattle.mach_model.specs.Death.{Dies, IsSentAway}
use Rattle.mach_model.specs.Notices.{Notice, port_deleted, port_sent, no_more_senders, right_unused, name_died, Owed, notice_message, Posted, all_posted_tokens}

-- ---- what becomes of each right, from the state after the step's own part to the one after the step

abbrev pub PlaceStays : State → Place → Type 0
PlaceStays new (in_task task) = Unit {0}
PlaceStays new (in_message q k) = new.live_port q ≡ true
PlaceStays new (in_request request) = new.stands request ≡ true

abbrev pub StaysWith : State → Token → Type 0
StaysWith new x = (new.live_port x.port ≡ true) × PlaceStays new x.place

-- What is told by the right that a request kept. A request on a name that doesn't stand any more has ended in the step's own part: its
-- name went.
abbrev pub told_by : (mid new : State) → Request → Notice
told_by mid new (no_senders p) = if new.live_port p then no_more_senders (new.make_send p) else right_unused
told_by mid new (port_destroyed p) = if new.live_port p then port_sent p else right_unused
told_by mid new (dead_name task name) = if mid.stands (dead_name task name) then name_died name else port_deleted name

abbrev pub TellsAt : (mid new : State) → Place → Notice → Type 0
TellsAt mid new (in_task task) notice = ⊥
TellsAt mid new (in_message q k) notice = notice ≡ right_unused
TellsAt mid new (in_request request) notice = notice ≡ told_by mid new request

-- A send-once right that goes unused pays for this notice.
abbrev pub PaysFor : (mid new : State) → Token → Notice → Type 0
PaysFor mid new x notice = (x.kind ≡ send_once) × (new.live_port x.port ≡ true) × ¬ (PlaceStays new x.place) × TellsAt mid new x.place notice

-- Other rights that don't stay leave with no notice.
abbrev pub GoesFrom : State → Token → Type 0
GoesFrom new x = (new.live_port x.port ≡ false) ⊎ (x.kind ≢ send_once) × ¬ (PlaceStays new x.place)

-- ---- names and requests

-- the references of a name that becomes dead: one more where a request stood on it
abbrev pub dead_references : Bool → ℕ → ℕ
dead_references requested n = if requested then min (n + 1) most_references else n

abbrev pub settled_target : (mid new : State) → (task name : ℕ) → Target → Target
settled_target mid new task name (Target.port p) =
    if new.live_port p then Target.port p else Target.dead (dead_references (mid.stands (dead_name task name)) (held mid task send p))
settled_target mid new task name (Target.once p) =
    if new.live_port p then Target.once p else Target.dead (dead_references (mid.stands (dead_name task name)) 1)
settled_target mid new task name (Target.dead n) = Target.dead n
settled_target mid new task name (Target.set s) = Target.set s

-- the name's port died in this step
abbrev pub BecameDead : (mid new : State) → Option Target → Type 0
BecameDead mid new (Some (Target.port p)) = new.live_port p ≡ false
BecameDead mid new (Some (Target.once p)) = new.live_port p ≡ false
BecameDead mid new target = ⊥

-- why a request that stood after the step's own part ends with the step
abbrev pub Ends : (old mid new : State) → Request → Type 0
Ends old mid new (no_senders p) = (new.live_port p ≡ false) ⊎ (0 < senders old p) × (senders new p ≡ 0)
Ends old mid new (port_destroyed p) = (new.live_port p ≡ false) ⊎ IsSentAway mid p
Ends old mid new (dead_name task name) = BecameDead mid new (lookup mid task name)

-- ---- the end of a step

abbrev pub due_notices : Owed → List (ℕ × Notice)
due_notices xs = map (λ x. (x.0.port, x.1)) xs

abbrev pub tokens_of : Owed → List Token
tokens_of xs = map (λ x. x.0) xs

-- The ports of the least set die, and no other; none lives again.
pub record DeathsSettle (mid new : State) : Type 0 where
  pub dies : (p : ℕ) → Dies mid p → new.live_port p ≡ false
  pub only : (p : ℕ) → mid.live_port p ≡ true → new.live_port p ≡ false → Dies mid p
  pub gone_before : (p : ℕ) → mid.live_port p ≡ false → new.live_port p ≡ false

-- Each right stays, pays for a notice or goes.
pub record RightsSettle (mid new : State) : Type 0 where
  pub staying : List Token
  pub paying : Owed
  pub going : List Token
  pub parts : (h : Token → ℕ) → weigh h mid.ledger ≡ weigh h staying + weigh h (tokens_of paying) + weigh h going
  pub stay : All (StaysWith new) staying
  pub pay : All (λ x. PaysFor mid new x.0 x.1) paying
  pub go : All (GoesFrom new) going

-- The notices are those paid for here, and those owed to a port that lives; they are appended, each once, in any order.
pub record NoticesSettle (now : ℕ) (mid : State) (owed : Owed) (new : State) (staying : List Token) (paying : Owed) : Type 0 where
  pub posted : List Posted
  pub due : map (λ x. (x.port, x.notice)) posted ≡ due_notices (paying ++ filter (λ x. new.live_port x.0.port) owed)
  pub ledger : (h : Token → ℕ) → weigh h new.ledger ≡ weigh h staying + weigh h (all_posted_tokens posted)
  pub logs : (p : ℕ) → (added : List Entry) × (new.log p ≡ mid.log p ++ added) × (length added ≡ length (filter (λ (x : Posted). x.port == p) posted))
  pub stand : All (λ (x : Posted). (length (mid.log x.port) ≤ x.entry)
      × (slice_get (new.log x.port) x.entry ≡ Some record { origin = now; message = notice_message x.port x.notice })) posted
  pub cover : (p k : ℕ) → length (mid.log p) ≤ k → k < length (new.log p) → Any (λ (x : Posted). (x.port ≡ p) × (x.entry ≡ k)) posted

-- A name stands for what it stood for, or is dead.
abbrev pub NamesSettle : (mid new : State) → Type 0
NamesSettle mid new = (task name : ℕ) → lookup new task name ≡ option_map (settled_target mid new task name) (lookup mid task name)

-- Exactly the requests end whose time has come, and none is made.
pub record RequestsSettle (old mid new : State) : Type 0 where
  pub ended : (r : Request) → mid.stands r ≡ true → Ends old mid new r → new.stands r ≡ false
  pub only : (r : Request) → mid.stands r ≡ true → new.stands r ≡ false → Ends old mid new r
  pub unmade : (r : Request) → mid.stands r ≡ false → new.stands r ≡ false

-- A port that is sent away leaves its sets, and its counts are 0; a dead one leaves its sets too.
pub record PortsSettle (mid new : State) : Type 0 where
  pub is_sent : ℕ → Bool
  pub sent : (p : ℕ) → IsSentAway mid p → is_sent p ≡ true
  pub sent_only : (p : ℕ) → is_sent p ≡ true → IsSentAway mid p
  pub sets_of : (p : ℕ) → new.sets_of p ≡ (if is_sent p then [] else if new.live_port p then mid.sets_of p else [])
  pub make_send : (p : ℕ) → new.make_send p ≡ (if is_sent p then 0 else mid.make_send p)
  pub sequence : (p : ℕ) → new.sequence p ≡ (if is_sent p then 0 else mid.sequence p)

-- From the state before the step, the state after its own part, and the unused rights that this part owes a notice, the step goes on to
-- the new state; all else stays.
pub record Settles (now : ℕ) (old mid : State) (owed : Owed) (new : State) : Type 0 where
  pub deaths : DeathsSettle mid new
  pub rights : RightsSettle mid new
  pub notices : NoticesSettle now mid owed new rights.staying rights.paying
  pub names : NamesSettle mid new
  pub requests : RequestsSettle old mid new
  pub ports : PortsSettle mid new
  pub rest : new ≡ record mid {
    live_port = new.live_port;
    naming = new.naming;
    log = new.log;
    ledger = new.ledger;
    stands = new.stands;
    sets_of = new.sets_of;
    make_send = new.make_send;
    sequence = new.sequence;
  }
