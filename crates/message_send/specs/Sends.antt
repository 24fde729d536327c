-- What a send promises.
use Rattle.std.specs.Prelude.{◌≡◌, ℕ, List, Result, IfOk, IfErr, OnOk, OnErr}
use Rattle.mach_types.specs.declared.calls.Event.{Event}
use Rattle.mach_types.specs.declared.codes.MsgReturn.{MsgReturn}
use Rattle.mach_types.specs.declared.codes.MsgReturn.TheVariants.{SendNoBuffer}
use Rattle.mach_types.specs.Codes.{msg_number}
use Rattle.copyin_base.specs.Serving.{Declines}
use Rattle.copyin_base.specs.Worlds.{WorldView}
use Rattle.copyin.specs.Wanted.{WantsToSend}
use Rattle.kernel_change.specs.declared.change.Change.{Change}
use Rattle.message_send.specs.Send.{SendsText}
use Rattle.message_send.specs.Telling.{TellsSend}

-- These bytes are sent, and what that changes is told. Or they are refused, for a reason, and all is as before.
-- Memory is wanted only where the message could be sent, or has many words or items.
pub record Sends (old : WorldView) (task : ℕ) (bytes : List ℕ) (result : Result (Unit {0}) MsgReturn) (new : WorldView) (told : Change) : Type 0 where
  pub ok : IfOk result (λ _. SendsText old task bytes new)
  pub tells : OnOk result (TellsSend old task bytes told)
  pub err : IfErr result (λ code. Declines old (Event.Send task bytes) (msg_number code) old)
  pub refused : OnErr result (new ≡ old)
  pub wanted : IfErr result (λ code. msg_number code ≡ msg_number SendNoBuffer → WantsToSend old task bytes)
