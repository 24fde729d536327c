-- What a block of calls adds to its caller's part of the history, and how its calls are answered.
use Rattle.std.specs.Prelude.{◌≡◌, ℕ, List, [], ◌∷◌, length, take, min, ◌==◌, if◌then◌else◌}
use Rattle.mach_types.specs.Numbers.{most_bytes}
use Rattle.kernel_lock.specs.History.{Known, Called}
use Rattle.mach_msg_threads.specs.declared.block.Call.{Call}
use Rattle.mach_msg_threads.specs.declared.block.Answer.{Answer}
use Rattle.mach_msg_threads.specs.declared.message.Outcome.{Outcome}
use Rattle.mach_msg_threads.specs.Tries.{MessageCall}

-- how many bytes of its buffer a message call received: none but where all was done
abbrev pub count_received : Outcome → ℕ
count_received outcome = if outcome.code == 0 then outcome.len else 0

-- A message call with a buffer of its own, of which those bytes are given back that it received.
pub record MessageAnswered (task options name room : ℕ) (send : List ℕ) (v : Known) (outcome : Outcome) (bytes : List ℕ) (w : Known) : Type 0 where
  pub old : List ℕ
  pub new : List ℕ
  pub room_is : length old ≡ min room most_bytes
  pub call : MessageCall task options send name v w old new outcome.code outcome.len
  pub bytes_are : bytes ≡ take (count_received outcome) new

-- One call, with its answer.
abbrev pub Answered : Call → Known → Answer → Known → Type 0
Answered (Call.Event event) v (Answer.Reply reply) w = Called v w event reply
Answered (Call.Msg task options name room send) v (Answer.Msg outcome bytes) w = MessageAnswered task options name room send v outcome bytes w
Answered call v answer w = ⊥

-- The calls were made one after another, each with its answer.
abbrev pub Ran : Known → List Call → List Answer → Known → Type 0
Ran v [] [] w = w ≡ v
Ran v (call ∷ calls) (answer ∷ answers) w = (m : Known) × Answered call v answer m × Ran m calls answers w
Ran v calls answers w = ⊥
