-- Where the limit of rights refuses a message, by the code that tells of want of memory too.
use Rattle.std.specs.Prelude.{ℕ, ◌+◌, ◌-◌, ◌/◌, ◌<◌, List, length}
use Rattle.mach_types.specs.declared.calls.Event.{Event}
use Rattle.mach_types.specs.Grammar.{WireBody, Header, Spells}
use Rattle.mach_types.specs.Messages.{Message}
use Rattle.mach_types.specs.Numbers.{most_rights}
use Rattle.mach_model.specs.State.{State}
use Rattle.mach_model.specs.Send.{Copied}
use Rattle.copyin_base.specs.Shows.{Shows}
use Rattle.copyin_base.specs.Worlds.{WorldView}

-- All rights of the bytes' message can be copied in, and then there are more rights than there may be.
pub record ExceedsRights (s : State) (task : ℕ) (bytes : List ℕ) : Type 0 where
  pub header : Header
  pub written : WireBody
  pub spells : Spells bytes header written
  pub message : Message
  pub copied_state : State
  pub copied : Copied task header written s message copied_state
  pub many : most_rights < length copied_state.ledger

-- The event sends such a message.
abbrev pub PassesLimit : State → Event → Type 0
PassesLimit s (Event.Send task bytes) = ExceedsRights s task bytes
PassesLimit s event = ⊥

-- In no state that the tables show does it.
pub record HasRoomFor (w : WorldView) (event : Event) : Type 0 where
  pub room : (s : State) → Shows w s → ¬ (PassesLimit s event)

-- how many bytes of a message the event sends
abbrev pub sent_length : Event → ℕ
sent_length (Event.Send task bytes) = length bytes
sent_length event = 0

-- The bytes that it sends have room for words enough that it might: of the header's six words two are for ports.
abbrev pub IsNearLimit : WorldView → Event → Type 0
IsNearLimit w event = most_rights < w.ledger.total + (sent_length event - 16) / 4
