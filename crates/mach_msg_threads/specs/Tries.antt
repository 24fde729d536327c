-- What a message call adds to its caller's part of the history: tries, of which each but the last found a full queue, or no message.
use Rattle.std.specs.Prelude.{◌≡◌, ℕ, ◌⊎◌, Bool, true, false, List, ◌++◌, length, drop, Option, Some, None, is_some, min, ◌==◌, ◌&&◌, MatchBool}
use Rattle.std.specs.Int.RustNames.{bit_and}
use Rattle.mach_types.specs.Bits.{send_msg_option, rcv_msg_option, send_timeout_option, rcv_timeout_option, rcv_large_option}
use Rattle.mach_types.specs.Numbers.{most_bytes}
use Rattle.mach_types.specs.Codes.{kern_number, msg_number}
use Rattle.mach_types.specs.declared.codes.KernReturn.TheVariants.{InvalidArgument}
use Rattle.mach_types.specs.declared.codes.MsgReturn.TheVariants.{SendTimedOut, SendNoBuffer, ReceiveTimedOut, ReceiveTooLarge, ReceiveBodyErrorMemory}
use Rattle.mach_types.specs.declared.calls.Event.{Event}
use Rattle.mach_types.specs.declared.calls.Reply.{Reply}
use Rattle.mach_types.specs.declared.calls.Waited.{Waited}
use Rattle.kernel_lock.specs.History.{Known, Called}
use Rattle.mach_msg_threads.specs.declared.message.Asked.{Asked}

-- ---- tries

-- The same call, made any number of times, with such a reply each time.
pub data Retries (event : Event) (Again : Reply → Type 0) : Known → Known → Type 0 where
  none : (v : Known) → Retries event Again v v
  more : (v m w : Known) (reply : Reply) → Retries event Again v m → Again reply → Called m w event reply → Retries event Again v w

-- ---- sending

abbrev pub IsFull : Reply → Type 0
IsFull reply = reply ≡ Reply.Code (msg_number SendTimedOut)

-- the code that a try to send comes to; one that isn't recorded found no memory
abbrev pub sent_code : Reply → ℕ
sent_code (Reply.Code code) = code
sent_code reply = msg_number SendNoBuffer

-- The last try; none where there was no memory for its copy of the bytes.
abbrev pub EndsSending : (task : ℕ) (bytes : List ℕ) → Known → (code : ℕ) → Known → Type 0
EndsSending task bytes v code w =
    (w ≡ v) × (code ≡ msg_number SendNoBuffer) ⊎ ((reply : Reply) × Called v w (Event.Send task bytes) reply × (code ≡ sent_code reply))

-- Tries to send, of which each but the last found the queue full; where it is to be tried once, one.
pub record Sends (task : ℕ) (bytes : List ℕ) (once : Bool) (v : Known) (code : ℕ) (w : Known) : Type 0 where
  pub before : Known
  pub full : Retries (Event.Send task bytes) IsFull v before
  pub single : once ≡ true → before ≡ v
  pub last : EndsSending task bytes before code w

-- What is sent, if that is wanted.
abbrev pub SendPart : (task : ℕ) (wanted once : Bool) (bytes : List ℕ) → Known → (code : ℕ) → Known → Type 0
SendPart task wanted once bytes v code w = MatchBool wanted (Sends task bytes once v code w) ((w ≡ v) × (code ≡ 0))

-- ---- receiving

-- what a receive that found no message waited for
abbrev pub waited_in : Reply → Option Waited
waited_in (Reply.Empty waited) = Some waited
waited_in reply = None

abbrev pub IsEmpty : Reply → Type 0
IsEmpty reply = is_some (waited_in reply) ≡ true

-- Tries of what a first one named, of which each but the last found no message.
pub record TriesAgain (task : ℕ) (waited : Waited) (room : ℕ) (large : Bool) (v : Known) (reply : Reply) (w : Known) : Type 0 where
  pub before : Known
  pub empty : Retries (Event.ReceiveAgain task waited room large) IsEmpty v before
  pub last : Called before w (Event.ReceiveAgain task waited room large) reply

-- A first try found no message; what it named is tried again.
pub record ReceivesLater (task name room : ℕ) (large : Bool) (v : Known) (reply : Reply) (w : Known) : Type 0 where
  pub told : Reply
  pub waited : Waited
  pub named : waited_in told ≡ Some waited
  pub first : Known
  pub tried : Called v first (Event.Receive task name room large) told
  pub again : TriesAgain task waited room large first reply w

-- Tries to receive, of which each but the last found no message; where it is to be tried once, one.
abbrev pub Receives : (task name room : ℕ) (large once : Bool) → Known → Reply → Known → Type 0
Receives task name room large once v reply w =
    Called v w (Event.Receive task name room large) reply ⊎ ((once ≡ false) × ReceivesLater task name room large v reply w)

-- how many bytes a call may receive
abbrev pub most_received : Event → ℕ
most_received (Event.Receive task name room large) = min room most_bytes
most_received (Event.ReceiveAgain task waited room large) = min room most_bytes
most_received event = 0

-- what a receive's reply comes to; a try that isn't recorded found no memory
abbrev pub received_code : Reply → ℕ
received_code (Reply.Message bytes) = 0
received_code (Reply.Empty waited) = msg_number ReceiveTimedOut
received_code (Reply.TooLarge n) = msg_number ReceiveTooLarge
received_code (Reply.Code code) = code
received_code reply = msg_number ReceiveBodyErrorMemory

-- how many bytes were received, or are needed
abbrev pub received_length : Reply → ℕ
received_length (Reply.Message bytes) = length bytes
received_length (Reply.TooLarge n) = n
received_length reply = 0

-- the buffer with what was received at its front
abbrev pub received_into : Reply → List ℕ → List ℕ
received_into (Reply.Message bytes) buffer = bytes ++ drop (length bytes) buffer
received_into reply buffer = buffer

-- ---- the call

abbrev pub has : (options option : ℕ) → Bool
has options option = bit_and options option == option

-- no other option than the five
abbrev pub AreOptions : ℕ → Type 0
AreOptions options = bit_and options 0x913 ≡ options

-- what the options ask for
pub record AsksFor (options : ℕ) (asked : Asked) : Type 0 where
  pub lawful : AreOptions options
  pub send : asked.send ≡ has options send_msg_option
  pub receive : asked.receive ≡ has options rcv_msg_option
  pub send_once : asked.send_once ≡ has options send_timeout_option
  pub receive_once : asked.receive_once ≡ has options rcv_timeout_option
  pub large : asked.large ≡ has options rcv_large_option

-- What is received.
pub record Received (task options name : ℕ) (v w : Known) (old new : List ℕ) (code len : ℕ) : Type 0 where
  pub reply : Reply
  pub receives : Receives task name (min (length old) most_bytes) (has options rcv_large_option) (has options rcv_timeout_option) v reply w
  pub code_is : code ≡ received_code reply
  pub length_is : len ≡ received_length reply
  pub buffer_is : new ≡ received_into reply old

-- Nothing is received.
pub record NothingReceived (v w : Known) (old new : List ℕ) (code told len : ℕ) : Type 0 where
  pub same : w ≡ v
  pub kept : new ≡ old
  pub code_is : code ≡ told
  pub length_is : len ≡ 0

-- A call with lawful options: a send that is asked for, and a receipt that is asked for where no send refused.
pub record Lawfully (task options : ℕ) (bytes : List ℕ) (name : ℕ) (v w : Known) (old new : List ℕ) (code len : ℕ) : Type 0 where
  pub between : Known
  pub sent : ℕ
  pub sends : SendPart task (has options send_msg_option) (has options send_timeout_option) bytes v sent between
  pub receives : MatchBool ((sent == 0) && has options rcv_msg_option) (Received task options name between w old new code len) (NothingReceived between w old new code sent len)

-- The whole call; options that are none add nothing.
pub record MessageCall (task options : ℕ) (bytes : List ℕ) (name : ℕ) (v w : Known) (old new : List ℕ) (code len : ℕ) : Type 0 where
  pub lawful : AreOptions options → Lawfully task options bytes name v w old new code len
  pub unlawful : ¬ (AreOptions options) → NothingReceived v w old new code (kern_number InvalidArgument) len
