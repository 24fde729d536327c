-- What the result of a typed call stands for: the reply of the step that it made.
use Rattle.std.specs.Prelude.{◌≡◌, ◌≢◌, ℕ, Option, Some, None, Result, Ok, Err, IfErr}
use Rattle.mach_types.specs.declared.calls.Event.{Event}
use Rattle.mach_types.specs.declared.calls.Reply.{Reply}
use Rattle.mach_types.specs.declared.codes.KernReturn.{KernReturn}
use Rattle.mach_types.specs.declared.rights.Disposition.TheVariants.{MakeSendOnce}
use Rattle.mach_types.specs.Numbers.{null_word}
use Rattle.mach_types.specs.Rights.{disposition_number}
use Rattle.mach_types.specs.Codes.{kern_number, code_number}
use Rattle.message_codec.specs.declared.writer.PortRight.{PortRight}
use Rattle.mach_types.specs.declared.codes.MsgReturn.TheVariants.{SendNoBuffer}
use Rattle.message_codec.specs.declared.writer.WriteError.{WriteError}
use Rattle.message_codec.specs.declared.writer.WriteError.TheVariants.{Refused, OutOfMemory}
use Rattle.mach_types.specs.declared.codes.Code.{Code}
use Rattle.mach_types.specs.declared.codes.Code.TheVariants as code_of
use Rattle.kernel_core.specs.Kernels.{KernelView}
use Rattle.gelvonds.specs.Steps.{IsStep}
use Rattle.gelvonds.specs.declared.results.Receipt.{Receipt}
use Rattle.gelvonds.specs.declared.results.Receipt.TheVariants.{Message, Empty, TooLarge}
use Rattle.gelvonds.specs.declared.results.SendError.{SendError}
use Rattle.gelvonds.specs.declared.results.ExtractedRight.{ExtractedRight}
use Rattle.gelvonds.specs.declared.notification.Notification.{Notification}
use Rattle.gelvonds.specs.declared.notification.Notification.TheVariants.{PortDestroyed, NoSenders, DeadName}

-- ---- results

-- The reply of a call that answers a value: by the value, or by the code that refuses it.
abbrev pub reply_of : {T : Type 0} → (T → Reply) → Result T KernReturn → Reply
reply_of value (Ok x) = value x
reply_of value (Err code) = Reply.Code (kern_number code)

-- nothing but that it was done
abbrev pub done : {T : Type 0} → T → Reply
done x = Reply.Code 0

abbrev pub extracted : ExtractedRight → Reply
extracted right = Reply.Right right.name right.kind

abbrev pub sent_reply : {T : Type 0} → Result T SendError → Reply
sent_reply (Ok x) = Reply.Code 0
sent_reply (Err e) = Reply.Code (code_number e.code)

abbrev pub receipt_reply : Result Receipt Code → Reply
receipt_reply (Ok (Message bytes)) = Reply.Message bytes
receipt_reply (Ok (Empty waited)) = Reply.Empty waited
receipt_reply (Ok (TooLarge n)) = Reply.TooLarge n
receipt_reply (Err code) = Reply.Code (code_number code)

-- ---- typed calls: the step was made, with the reply that the result stands for; what refuses it isn't the code of success

abbrev pub Answered : {T : Type 0} → (old : KernelView) → Event → (T → Reply) → Result T KernReturn → (new : KernelView) → Type 0
Answered old event value result new = IsStep old event (reply_of value result) new × IfErr result (λ code. kern_number code ≢ 0)

abbrev pub Sent : {T : Type 0} → (old : KernelView) → Event → Result T SendError → (new : KernelView) → Type 0
Sent old event result new = IsStep old event (sent_reply result) new × IfErr result (λ e. code_number e.code ≢ 0)

abbrev pub Received : (old : KernelView) → Event → Result Receipt Code → (new : KernelView) → Type 0
Received old event result new = IsStep old event (receipt_reply result) new × IfErr result (λ code. code_number code ≢ 0)

-- why a message was not made, as a send would say it
abbrev pub unwritten : WriteError → Code
unwritten (Refused code) = code_of.Message code
unwritten OutOfMemory = code_of.Message SendNoBuffer

-- ---- arguments

abbrev pub notification_number : Notification → ℕ
notification_number PortDestroyed = 69  -- MACH_NOTIFY_PORT_DESTROYED
notification_number NoSenders = 70  -- MACH_NOTIFY_NO_SENDERS
notification_number DeadName = 72  -- MACH_NOTIFY_DEAD_NAME

-- the name and the disposition of a right that may be left out
abbrev pub notify_name : Option PortRight → ℕ
notify_name (Some right) = right.name
notify_name None = null_word

abbrev pub notify_number : Option PortRight → ℕ
notify_number (Some right) = disposition_number right.disposition
notify_number None = disposition_number MakeSendOnce
