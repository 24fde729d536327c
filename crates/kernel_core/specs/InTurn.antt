-- From which member of a set a receipt takes, and what becomes of the turns.
use Rattle.std.specs.Prelude.{◌≡◌, ℕ, Bool, true, false, List, [], ◌∷◌, ◌++◌, Option, Some, None, Result, Ok, Err, All, slice_get, ◌⊎◌}
use Rattle.std.specs.Option.{option_and_then, option_map}
use Rattle.mach_types.specs.declared.calls.Event.{Event}
use Rattle.mach_types.specs.declared.calls.Reply.{Reply}
use Rattle.mach_types.specs.declared.calls.Waited.{Waited}
use Rattle.mach_model.specs.State.{State}
use Rattle.mach_laws.specs.Counts.{takes_from}
use Rattle.port.specs.Ports.{PassesTurn, PortView}
use Rattle.port.specs.Turns.{ReadyLists, turns_of, left, passed}
use Rattle.mach_types.specs.declared.codes.Code.{Code}
use Rattle.mach_types.specs.Codes.{code_number}
use Rattle.copyin_base.specs.Serving.{Completes, IsDone}
use Rattle.copyin_base.specs.Kept.{Kept}
use Rattle.copyin_base.specs.Shows.{Shows}
use Rattle.copyin_base.specs.Worlds.{WorldView, entry_at, port_at, sets_at}
use Rattle.destroy.specs.Stages.{SettlesIn}
use Rattle.kernel_core.specs.Receive.{waited_at, TakesOne}

-- the members of the set that have messages, in their turns
abbrev pub in_turn : WorldView → (set : ℕ) → List ℕ
in_turn w set = turns_of w.ports.ready set

-- The port is the one whose turn it is, where this is a set.
abbrev pub IsFirst : WorldView → Waited → (port : Option ℕ) → Type 0
IsFirst w (Waited.Set set) port = port ≡ slice_get (in_turn w set) 0
IsFirst w (Waited.Port p) port = Unit {0}

-- the messages of a port, if it is there
abbrev pub queue_at : WorldView → (port : ℕ) → Option (List Kept)
queue_at w port = option_map (λ (v : PortView Kept). v.queue) (port_at w port)

-- the turns once the member's message is taken by this set, and these are left: it goes to the end there, and keeps its turns in its other sets; or
-- it has none in any
abbrev pub turns_behind : WorldView → (set member : ℕ) → List Kept → ReadyLists
turns_behind w set member [] = left w.ports.ready member (sets_at w member)
turns_behind w set member (m ∷ ms) = passed w.ports.ready member set

-- The front message of the member whose turn it is leaves its queue. The member goes to the end of the turns in this set, and keeps them in its other
-- sets; where it has no more messages it has none in any. The others keep their order.
pub record TakesFirst (old : WorldView) (set : ℕ) (new : WorldView) : Type 0 where
  pub member : ℕ
  pub first : slice_get (in_turn old set) 0 ≡ Some member
  pub front : Kept
  pub behind : List Kept
  pub queue : queue_at old member ≡ Some (front ∷ behind)
  pub taken : queue_at new member ≡ Some behind
  pub turns : new.ports.ready ≡ turns_behind old set member behind

-- A message is taken of this port by a set: the port has its turn there after all others that are ready.
abbrev pub PassesIn : (old : WorldView) → Waited → (port : ℕ) → (new : WorldView) → Type 0
PassesIn old (Waited.Set set) port new = PassesTurn old.ports set port new.ports × (new ≡ record old { ports = new.ports })
PassesIn old (Waited.Port p) port new = new ≡ old

-- Messages come to the ends of queues: the turns in this set stay, and behind them come members that had none.
pub record JoinsTurns (old : WorldView) (set : ℕ) (new : WorldView) : Type 0 where
  pub queues : (port : ℕ) → (more : List Kept) × (queue_at new port ≡ option_map (λ (ms : List Kept). ms ++ more) (queue_at old port))
  pub joined : List ℕ
  pub empty : All (λ port. queue_at old port ≡ Some []) joined
  pub turns : in_turn new set ≡ in_turn old set ++ joined

-- A receipt by a set takes from the member whose turn it is. A message that is too long stays, and its member keeps its turn; or it is destroyed, and
-- notices of its rights come to queues, whose ports join the turns of their sets. Where there is none, no member has a turn. A refusal changes nothing.
abbrev pub TakesInTurn : (old : WorldView) → Waited → (large : Bool) → Reply → (new : WorldView) → Type 0
TakesInTurn old (Waited.Set set) large (Reply.Message bytes) new = TakesFirst old set new
TakesInTurn old (Waited.Set set) true (Reply.TooLarge n) new = new ≡ old
TakesInTurn old (Waited.Set set) false (Reply.TooLarge n) new = (mid : WorldView) × TakesFirst old set mid × ((each : ℕ) → JoinsTurns mid each new)
TakesInTurn old (Waited.Set set) large (Reply.Empty told) new = (in_turn old set ≡ []) × (new ≡ old)
TakesInTurn old waited large (Reply.Code code) new = new ≡ old
TakesInTurn old waited large reply new = Unit {0}

-- So does an event that receives by a set.
abbrev pub KeepsTurns : (old : WorldView) → Event → Reply → (new : WorldView) → Type 0
KeepsTurns old (Event.Receive task name room large) (Reply.Code code) new = new ≡ old
KeepsTurns old (Event.Receive task name room large) reply new =
    (waited : Waited) → option_and_then waited_at (entry_at old task name) ≡ Some waited → TakesInTurn old waited large reply new
KeepsTurns old (Event.ReceiveAgain task waited room large) (Reply.Code code) new = new ≡ old
KeepsTurns old (Event.ReceiveAgain task waited room large) reply new = TakesInTurn old waited large reply new
KeepsTurns old event reply new = Unit {0}

-- ---- the state that goes with it

-- the port that a receipt takes from: of a set, the member whose turn it is
abbrev pub source_of : WorldView → Waited → Option ℕ
source_of w (Waited.Port p) = Some p
source_of w (Waited.Set set) = slice_get (in_turn w set) 0

abbrev pub source : WorldView → Event → Option ℕ
source w (Event.Receive task name room large) = option_and_then (source_of w) (option_and_then waited_at (entry_at w task name))
source w (Event.ReceiveAgain task waited room large) = source_of w waited
source w event = None

-- An event that takes a message, gives it or destroys it as too long, takes the one in front of its source.
abbrev pub TakesByTurn : (old : WorldView) → Event → Reply → (s t : State) → Type 0
TakesByTurn old event reply s t = takes_from event reply ≡ 1 → (port : ℕ) × (source old event ≡ Some port) × TakesOne s t port

-- The event is done in each state that the tables show before, and takes its message so.
pub record CompletesInTurn (old : WorldView) (event : Event) (reply : Reply) (new : WorldView) : Type 0 where
  pub acts : (now : ℕ) (s : State) → Shows old s → (done : IsDone now old s event reply new) × TakesByTurn old event reply s done.mid

-- ---- a step

-- what a call is answered by
abbrev pub told_by : Result Reply Code → Reply
told_by (Ok reply) = reply
told_by (Err code) = Reply.Code (code_number code)

-- A step does so in its own part, and then ends.
pub record StepsInTurn (old : WorldView) (event : Event) (reply : Reply) (new : WorldView) : Type 0 where
  pub mid : WorldView
  pub turns : KeepsTurns old event reply mid
  pub ends : (new ≡ mid) ⊎ Completes old event reply mid × ((number : ℕ) × SettlesIn mid number new)
