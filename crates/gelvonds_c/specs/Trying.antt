-- Mach's mach_msg, one try a call: what begin and next do, by the struct that C holds. A whole call is begin, and then next until it is done.
-- MessageCall in mach_msg_threads/specs/Tries has the same tries. No law says so: one has to read both.
use Rattle.std.specs.Prelude.{◌≡◌, ℕ, ℤ, ◌⊎◌, not, List, Option, None, Some, is_some, length, min, ◌==◌, ◌&&◌, if◌then◌else◌, nat_lt}
use Rattle.mach_types.specs.Bits.{rcv_msg_option, send_timeout_option, rcv_timeout_option}
use Rattle.mach_types.specs.Codes.{kern_number, msg_number}
use Rattle.mach_types.specs.TextGuards.{word_at}
use Rattle.mach_types.specs.declared.codes.KernReturn.TheVariants.{InvalidArgument}
use Rattle.mach_types.specs.declared.codes.MsgReturn.TheVariants.{SendTimedOut, SendNoBuffer}
use Rattle.mach_types.specs.declared.calls.Event.{Event}
use Rattle.mach_types.specs.declared.calls.Event.TheVariants.{Send}
use Rattle.mach_types.specs.declared.calls.Reply.{Reply}
use Rattle.copyin_base.specs.Worlds.{space_at, entry_at}
use Rattle.gelvonds_c_base.specs.declared.message_call.MessageCall.{MessageCall}
use Rattle.gelvonds_c_base.specs.declared.waited.WaitedFor.{WaitedFor}
use Rattle.gelvonds_c_base.specs.Answers.{c_waited}
use Rattle.gelvonds_c_base.specs.Codes.{signed, no_answer, no_kernel, no_msg}
use Rattle.gelvonds_c_base.specs.MessageCalls.{AreOptions, IsNoCall, IsReceipt, ahead, done, has, nowhere, to_receive, to_receive_again, to_send}
use Rattle.gelvonds_c.specs.Held.{Kept}
use Rattle.gelvonds_c.specs.Identities.{identity_or}
use Rattle.gelvonds_c.specs.Calls.{Calls, bytes_in, code_for, length_or, received_into, unmade}

-- ---- a try to send

abbrev pub sent_code : Option Reply → ℕ
sent_code None = no_kernel
sent_code (Some (Reply.Code code)) = code
sent_code (Some reply) = no_answer

-- The event was made; or there was no memory for its copy of the bytes, and nothing was.
abbrev pub Sends : (old : Kept) → (task : ℕ) → (bytes : List ℕ) → (code : ℕ) → (new : Kept) → Type 0
Sends old task bytes code new =
    (code ≡ msg_number SendNoBuffer) × (new ≡ unmade old) ⊎ ((reply : Option Reply) × Calls old (Send task bytes) reply new × (code ≡ sent_code reply))

-- The port that the destination's name is, as gelvonds_port_identity tells it.
abbrev pub destination_at : Kept → (task : ℕ) → (bytes : List ℕ) → WaitedFor
destination_at None task bytes = nowhere
destination_at (Some kernel) task bytes =
    if nat_lt (length bytes) 12 then nowhere else
    identity_or (is_some (space_at kernel.kernel.tables task)) (entry_at kernel.kernel.tables task (word_at bytes 8)) nowhere

-- A full queue is tried again, unless there is to be one try. The receipt that is asked for comes where the message was sent.
abbrev pub after_send : MessageCall → (code : ℕ) → (destination : WaitedFor) → MessageCall
after_send call code destination =
    if (code == msg_number SendTimedOut) && not (has call.options send_timeout_option) then ahead call to_send destination 0 else
    if (code == 0) && has call.options rcv_msg_option then ahead call to_receive nowhere 0 else ahead call done nowhere 0

pub record TriesToSend (old : Kept) (call : MessageCall) (bytes : List ℕ) (code : ℤ) (new : Kept) (after : MessageCall) : Type 0 where
  pub number : ℕ
  pub sends : Sends old call.task bytes number new
  pub code_is : code ≡ signed number
  pub call_is : after ≡ after_send call number (destination_at new call.task bytes)

-- ---- a try to receive

-- Where no message is there it is tried again from what was named, unless there is to be one try.
abbrev pub after_receipt : MessageCall → Option Reply → MessageCall
after_receipt call (Some (Reply.Empty waited)) =
    if has call.options rcv_timeout_option then ahead call done nowhere 0 else ahead call to_receive_again (c_waited waited) 0
after_receipt call reply = ahead call done nowhere (length_or reply 0)

pub record TriesToReceive (old : Kept) (call : MessageCall) (event : Event) (code : ℤ) (new : Kept) (after : MessageCall)
    (bytes_before bytes_after : List ℕ) : Type 0 where
  pub reply : Option Reply
  pub calls : Calls old event reply new
  pub code_is : code ≡ signed (if nat_lt (length bytes_before) (bytes_in reply) then no_answer else code_for reply)
  pub bytes_are : bytes_after ≡ received_into reply bytes_before
  pub call_is : after ≡ after_receipt call reply

-- ---- the two functions

-- One try, of what the struct says.
abbrev pub Tries : (old : Kept) (call : MessageCall) (bytes : List ℕ) (code : ℤ) (new : Kept) (after : MessageCall) (buffer_before buffer_after : List ℕ) → Type 0
Tries old call bytes code new after buffer_before buffer_after =
    (call.state ≡ to_send) × TriesToSend old call bytes code new after × (buffer_after ≡ buffer_before)
    ⊎ ((event : Event) × IsReceipt call (min (length buffer_before) 4294967295) event × TriesToReceive old call event code new after buffer_before buffer_after)

-- No try: the call has ended, with this code.
pub record Ends (old : Kept) (call : MessageCall) (number : ℕ) (code : ℤ) (new : Kept) (after : MessageCall) (buffer_before buffer_after : List ℕ) : Type 0 where
  pub code_is : code ≡ signed number
  pub kernel_is : new ≡ unmade old
  pub call_is : after ≡ ahead call done nowhere 0
  pub buffer_is : buffer_after ≡ buffer_before

-- Options that are none are refused. Else the first try is made; none where neither a send nor a receipt is asked for.
abbrev pub Begins : (old : Kept) (call : MessageCall) (bytes : List ℕ) (code : ℤ) (new : Kept) (after : MessageCall) (buffer_before buffer_after : List ℕ) → Type 0
Begins old call bytes code new after buffer_before buffer_after =
    ¬ (AreOptions call.options) × Ends old call (kern_number InvalidArgument) code new after buffer_before buffer_after
    ⊎ AreOptions call.options × (call.state ≡ done) × Ends old call 0 code new after buffer_before buffer_after
    ⊎ AreOptions call.options × Tries old call bytes code new after buffer_before buffer_after

-- The next try is made. A struct without one, or with options that are none, is refused.
abbrev pub GoesOn : (old : Kept) (call : MessageCall) (bytes : List ℕ) (code : ℤ) (new : Kept) (after : MessageCall) (buffer_before buffer_after : List ℕ) → Type 0
GoesOn old call bytes code new after buffer_before buffer_after =
    AreOptions call.options × Tries old call bytes code new after buffer_before buffer_after
    ⊎ (¬ (AreOptions call.options) ⊎ IsNoCall call) × Ends old call no_msg code new after buffer_before buffer_after
