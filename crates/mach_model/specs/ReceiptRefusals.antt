-- Which code refuses a receipt where a port that it may take from has a message that fits: names are judged before memory.
use Rattle.std.specs.Prelude.{◌≡◌, ℕ, ◌≤◌, ◌⊎◌, min}
use Rattle.mach_types.specs.declared.calls.Waited.{Waited}
use Rattle.mach_types.specs.declared.codes.MsgReturn.TheVariants.{ReceiveBodyErrorMemory, ReceiveBodyErrorNames}
use Rattle.mach_types.specs.Numbers.{most_bytes}
use Rattle.mach_types.specs.Codes.{msg_number}
use Rattle.mach_types.specs.Tokens.{in_message}
use Rattle.mach_types.specs.Messages.{Entry}
use Rattle.mach_model.specs.State.{State}
use Rattle.mach_model.specs.Room.{MessageLacks}
use Rattle.mach_model.specs.ReceivedMeans.{message_length}
use Rattle.mach_model.specs.Receive.{TakesFrom, IsFront}

pub record ReceiptRefuses (s : State) (task : ℕ) (waited : Waited) (room code : ℕ) : Type 0 where
  pub port : ℕ
  pub from : TakesFrom s task waited port
  pub e : Entry
  pub front : IsFront s port e
  pub fits : message_length e.message ≤ min room most_bytes
  pub refused : MessageLacks task (in_message port (s.taken port)) e.message s × (code ≡ msg_number ReceiveBodyErrorNames)
      ⊎ ¬ (MessageLacks task (in_message port (s.taken port)) e.message s) × (code ≡ msg_number ReceiveBodyErrorMemory)
