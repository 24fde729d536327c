-- Where want of memory may refuse an event, as the machine allows it, and by which code.
use Rattle.std.specs.Prelude.{◌≡◌, ℕ, Bool, List, Option, Some, None, MatchBool}
use Rattle.mach_types.specs.declared.calls.Event.{Event}
use Rattle.mach_types.specs.declared.calls.Waited.{Waited}
use Rattle.mach_types.specs.declared.codes.MsgReturn.TheVariants.{ReceiveBodyErrorMemory}
use Rattle.mach_types.specs.Grammar.{WireBody, Header, Spells}
use Rattle.mach_types.specs.Guards.{NoneHolds}
use Rattle.mach_types.specs.Codes.{msg_number}
use Rattle.mach_types.specs.TextGuards.{header_guards}
use Rattle.mach_model.specs.State.{State}
use Rattle.mach_model.specs.ReceiptRefusals.{ReceiptRefuses}
use Rattle.mach_model.specs.Refusals.{Refuses}
use Rattle.copyin_base.specs.Kept.{Kept}
use Rattle.copyin_base.specs.Shows.{Shows}
use Rattle.copyin_base.specs.Worlds.{WorldView}
use Rattle.copyout.specs.Ready.{HasFront, IsRefusedBy}
use Rattle.copyout.specs.declared.receipt.Refusal.TheVariants.{Memory}
use Rattle.kernel_core.specs.Wanted.{memory_code}

-- The machine may refuse the event with this code, in each state that the tables show.
pub record MayRefuse (w : WorldView) (event : Event) (code : ℕ) : Type 0 where
  pub refuses : (s : State) → Shows w s → Refuses s event code

-- It may in none.
pub record NeverRefuses (w : WorldView) (event : Event) (code : ℕ) : Type 0 where
  pub never : (s : State) → Shows w s → ¬ (Refuses s event code)

-- By this code want of memory may refuse the event; where there is none, it never may.
abbrev pub TellsMemoryCode : WorldView → Event → Option ℕ → Type 0
TellsMemoryCode w event (Some code) = (code ≡ memory_code event) × MayRefuse w event code
TellsMemoryCode w event None = NeverRefuses w event (memory_code event)

-- whether it may
abbrev pub TellsWant : WorldView → Event → Bool → Type 0
TellsWant w event may = MatchBool may (MayRefuse w event (memory_code event)) (NeverRefuses w event (memory_code event))

-- ---- a send

-- The bytes spell a message that the kernel takes.
pub record IsMessage (bytes : List ℕ) : Type 0 where
  pub good : NoneHolds (header_guards bytes)
  pub header : Header
  pub written : WireBody
  pub spells : Spells bytes header written

-- ---- a receipt

-- No message stays for want of memory alone.
pub record NeverStays (w : WorldView) (task : ℕ) (waited : Waited) (room : ℕ) : Type 0 where
  pub never : (s : State) → Shows w s → ¬ (ReceiptRefuses s task waited room (msg_number ReceiveBodyErrorMemory))

-- The port has a message that only want of memory could keep from the task.
pub record IsReceivable (w : WorldView) (task port room : ℕ) : Type 0 where
  pub front : Kept
  pub waits : HasFront w port front
  pub only : IsRefusedBy w task front room Memory
