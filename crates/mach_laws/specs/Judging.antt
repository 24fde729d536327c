-- What a law on refusals leaves open: want of memory, and the member of a set (this project's own).
use Rattle.std.specs.Prelude.{◌≡◌, ℕ, ◌⊎◌}
use Rattle.mach_types.specs.declared.calls.Event.{Event}
use Rattle.mach_types.specs.declared.calls.Reply.{Reply}
use Rattle.mach_types.specs.declared.calls.Waited.{Waited}
use Rattle.mach_types.specs.declared.codes.KernReturn.TheVariants.{ResourceShortage}
use Rattle.mach_types.specs.declared.codes.MsgReturn.TheVariants.{SendNoBuffer, ReceiveBodyErrorMemory}
use Rattle.mach_types.specs.Codes.{kern_number, msg_number}
use Rattle.mach_model.specs.State.{State, lookup}
use Rattle.mach_model.specs.NameGuards.{IsSet}

-- The codes for want of memory. That of a send is also its code at the limit of rights.
abbrev pub IsMemoryCode : ℕ → Type 0
IsMemoryCode code = (code ≡ kern_number ResourceShortage) ⊎ (code ≡ msg_number SendNoBuffer) ⊎ (code ≡ msg_number ReceiveBodyErrorMemory)

abbrev pub LacksMemory : Reply → Type 0
LacksMemory (Reply.Code code) = IsMemoryCode code
LacksMemory reply = ⊥

-- The event is a receipt by a set. Which ready member it takes from is left open: one member's message may lack names where another's
-- is received.
abbrev pub IsBySet : State → Event → Type 0
IsBySet s (Event.Receive task name room large) = IsSet (lookup s task name)
IsBySet s (Event.ReceiveAgain task (Waited.Set set) room large) = Unit {0}
IsBySet s event = ⊥
