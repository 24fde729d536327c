-- What a message call's gate is told and asked, try by try. `passes` says how the gate goes from one state to the next.
use Rattle.std.specs.Prelude.{◌≡◌, ◌+◌, ◌-◌, ◌^◌, ℕ, ◌⊎◌, Bool, true, false, List, Option, Some, None, is_some, not, min, ◌==◌, ◌&&◌, MatchBool}
use Rattle.mach_types.specs.Bits.{send_msg_option, rcv_msg_option, send_timeout_option, rcv_timeout_option, rcv_large_option}
use Rattle.mach_types.specs.Codes.{msg_number}
use Rattle.mach_types.specs.declared.codes.MsgReturn.TheVariants.{SendNoBuffer}
use Rattle.mach_types.specs.declared.calls.Event.{Event}
use Rattle.mach_types.specs.declared.calls.Reply.{Reply}
use Rattle.mach_types.specs.declared.calls.Waited.{Waited}
use Rattle.mach_types.specs.Numbers.{most_bytes}
use Rattle.kernel_lock.specs.History.{Known, Called}
use Rattle.mach_msg_threads.specs.declared.block.Call.{Call}
use Rattle.mach_msg_threads.specs.declared.block.Answer.{Answer}
use Rattle.mach_msg_threads.specs.Gates.{Exchange, Asked, Told}
use Rattle.mach_msg_threads.specs.Tries.{IsFull, IsEmpty, AreOptions, has, received_code, sent_code, waited_in}

-- ---- tries

-- the number of the next pause
abbrev pub next : ℕ → ℕ
next turn = min (turn + 1) (2 ^ 32 - 1)

-- One try, of which the gate is told.
pub record ToldTry {G : Type 0} (passes : G → Exchange → G → Type 0) (event : Event) (v : Known) (old : G) (reply : Reply) (w : Known) (new : G) : Type 0 where
  pub call : Called v w event reply
  pub told : Told passes reply w.touched old new

-- The same call, made any number of times. Each time it has to wait for `on`, may be made more than once, and the gate says to try again.
pub data Pauses {G : Type 0} (passes : G → Exchange → G → Type 0) (event : Event) (Waits : Reply → Type 0) (on : Option Waited) (once : Bool) (from : ℕ) : (turn : ℕ) → Known → G → Known → G → Type 0 where
  none : (v : Known) (old : G) → Pauses passes event Waits on once from from v old v old
  more : (turn : ℕ) (v m w : Known) (old asked told new : G) (reply : Reply) → Pauses passes event Waits on once from turn v old m asked
      → ToldTry passes event m asked reply w told → Waits reply → once ≡ false → passes told (Asked (next turn) on true) new
      → Pauses passes event Waits on once from (next turn) v old w new

-- The last time: it need not wait, or may be made but once, or the gate says to give up.
pub record LastTry {G : Type 0} (passes : G → Exchange → G → Type 0) (event : Event) (Waits : Reply → Type 0) (on : Option Waited) (once : Bool) (turn : ℕ) (v : Known) (old : G) (reply : Reply) (w : Known) (new : G) : Type 0 where
  pub told : G
  pub tried : ToldTry passes event v old reply w told
  pub unasked : (Waits reply → once ≡ true) → new ≡ told
  pub refused : Waits reply → once ≡ false → passes told (Asked (next turn) on false) new

-- ---- sending

-- There is no last try where there was no memory for its copy of the bytes.
pub record SendsBy {G : Type 0} (passes : G → Exchange → G → Type 0) (task : ℕ) (bytes : List ℕ) (once : Bool) (v : Known) (old : G) (code : ℕ) (w : Known) (new : G) : Type 0 where
  pub turn : ℕ
  pub before : Known
  pub asked : G
  pub full : Pauses passes (Event.Send task bytes) IsFull None once 0 turn v old before asked
  pub last : (w ≡ before) × (new ≡ asked) × (code ≡ msg_number SendNoBuffer)
      ⊎ ((reply : Reply) × (code ≡ sent_code reply) × LastTry passes (Event.Send task bytes) IsFull None once turn before asked reply w new)

-- What is sent, if that is wanted.
abbrev pub SendPartBy : {G : Type 0} (passes : G → Exchange → G → Type 0) (task : ℕ) (wanted once : Bool) (bytes : List ℕ) → Known → (old : G) → (code : ℕ) → Known → (new : G) → Type 0
SendPartBy passes task wanted once bytes v old code w new =
    MatchBool wanted (SendsBy passes task bytes once v old code w new) ((w ≡ v) × (new ≡ old) × (code ≡ 0))

-- ---- receiving

-- Tries of what a first one named.
pub record TriesAgainBy {G : Type 0} (passes : G → Exchange → G → Type 0) (task : ℕ) (waited : Waited) (room : ℕ) (large : Bool) (v : Known) (old : G) (reply : Reply) (w : Known) (new : G) : Type 0 where
  pub turn : ℕ
  pub before : Known
  pub asked : G
  pub empty : Pauses passes (Event.ReceiveAgain task waited room large) IsEmpty (Some waited) false 1 turn v old before asked
  pub last : LastTry passes (Event.ReceiveAgain task waited room large) IsEmpty (Some waited) false turn before asked reply w new

-- After a first try that found no message the gate says to give up, or to try again.
abbrev pub PausesFirst : {G : Type 0} (passes : G → Exchange → G → Type 0) (task : ℕ) (waited : Waited) (room : ℕ) (large : Bool) (told : Reply) → Known → (old : G) → Reply → Known → (new : G) → Type 0
PausesFirst {G} passes task waited room large told v old reply w new =
    passes old (Asked 1 (Some waited) false) new × (reply ≡ told) × (w ≡ v)
    ⊎ ((asked : G) × passes old (Asked 1 (Some waited) true) asked × TriesAgainBy passes task waited room large v asked reply w new)

-- A first try, and where it found no message and more than one is allowed, what the gate says.
pub record ReceivesBy {G : Type 0} (passes : G → Exchange → G → Type 0) (task name room : ℕ) (large once : Bool) (v : Known) (old : G) (reply : Reply) (w : Known) (new : G) : Type 0 where
  pub told : Reply
  pub first : Known
  pub heard : G
  pub tried : ToldTry passes (Event.Receive task name room large) v old told first heard
  pub ended : is_some (waited_in told) && not once ≡ false → (reply ≡ told) × (w ≡ first) × (new ≡ heard)
  pub paused : (waited : Waited) → waited_in told ≡ Some waited → once ≡ false → PausesFirst passes task waited room large told first heard reply w new

-- ---- the call

-- A call with lawful options.
pub record LawfullyBy {G : Type 0} (passes : G → Exchange → G → Type 0) (task options : ℕ) (bytes : List ℕ) (name room : ℕ) (v : Known) (old : G) (code : ℕ) (w : Known) (new : G) : Type 0 where
  pub between : Known
  pub midway : G
  pub sent : ℕ
  pub sends : SendPartBy passes task (has options send_msg_option) (has options send_timeout_option) bytes v old sent between midway
  pub receives : MatchBool ((sent == 0) && has options rcv_msg_option)
      ((reply : Reply) × (code ≡ received_code reply) × ReceivesBy passes task name room (has options rcv_large_option) (has options rcv_timeout_option) between midway reply w new)
      ((w ≡ between) × (new ≡ midway) × (code ≡ sent))

-- The whole call, with a buffer of so many bytes; options that are none tell the gate nothing.
pub record MessageCallBy {G : Type 0} (passes : G → Exchange → G → Type 0) (task options : ℕ) (bytes : List ℕ) (name room : ℕ) (v : Known) (old : G) (code : ℕ) (w : Known) (new : G) : Type 0 where
  pub lawful : AreOptions options → LawfullyBy passes task options bytes name room v old code w new
  pub unlawful : ¬ (AreOptions options) → new ≡ old

-- ---- one call of a block

abbrev pub AnsweredBy : {G : Type 0} (passes : G → Exchange → G → Type 0) → Call → Known → (old : G) → Answer → Known → (new : G) → Type 0
AnsweredBy passes (Call.Event event) v old (Answer.Reply reply) w new = ToldTry passes event v old reply w new
AnsweredBy passes (Call.Msg task options name room send) v old (Answer.Msg outcome bytes) w new =
    MessageCallBy passes task options send name (min room most_bytes) v old outcome.code w new
AnsweredBy passes call v old answer w new = ⊥
