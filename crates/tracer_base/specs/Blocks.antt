-- The lines of scripts: calls, message calls, and beginnings of blocks; and how message calls are answered.
use Rattle.std.specs.Prelude.{ℕ, ◌<◌, ◌≤◌, ◌^◌, List, [], ◌∷◌, ◌++◌, codes, decimal, All}
use Rattle.mach_types.specs.Numbers.{most_bytes}
use Rattle.tracer_base.specs.declared.blocks.MessageCall.{MessageCall}
use Rattle.tracer_base.specs.declared.blocks.ScriptLine.{ScriptLine}
use Rattle.tracer_base.specs.Calls.{Fits, call_word, call_arguments}
use Rattle.tracer_base.specs.Text.{code_text, bytes_text}
use Rattle.tracer_base.specs.Words.{line}

-- a message call's arguments, in their order
abbrev pub message_arguments : MessageCall → List (List ℕ)
message_arguments call = decimal call.task ∷ decimal call.options ∷ decimal call.name ∷ decimal call.room ∷ bytes_text call.bytes ∷ []

-- the words of a line
abbrev pub said_words : ScriptLine → List (List ℕ)
said_words (ScriptLine.Call event) = call_word event ∷ call_arguments event
said_words (ScriptLine.Message call) = codes "msg" ∷ message_arguments call
said_words (ScriptLine.Thread number) = codes "thread" ∷ decimal number ∷ []

abbrev pub said_text : ScriptLine → List ℕ
said_text said = line (said_words said)

-- a line of a script, with its line feed
abbrev pub said_line : ScriptLine → List ℕ
said_line said = said_text said ++ 10 ∷ []

-- its numbers fit 32 bits, its room isn't above 65,536, and its bytes are bytes
pub record FitsMessage (call : MessageCall) : Type 0 where
  pub task : call.task < 2 ^ 32
  pub options : call.options < 2 ^ 32
  pub name : call.name < 2 ^ 32
  pub room : call.room ≤ most_bytes
  pub bytes : All (λ byte. byte < 256) call.bytes

-- from 1 to 64
abbrev pub FitsThread : ℕ → Type 0
FitsThread number = (1 ≤ number) × (number ≤ 64)

abbrev pub FitsSaid : ScriptLine → Type 0
FitsSaid (ScriptLine.Call event) = Fits event
FitsSaid (ScriptLine.Message call) = FitsMessage call
FitsSaid (ScriptLine.Thread number) = FitsThread number

-- ---- what is written

-- the line at which a block's answers begin
abbrev pub thread_line : ℕ → List ℕ
thread_line number = said_line (ScriptLine.Thread number)

-- the bytes received, behind a space
abbrev pub received_text : List ℕ → List ℕ
received_text [] = []
received_text (byte ∷ bytes) = 32 ∷ bytes_text (byte ∷ bytes)

-- how a message call was answered
abbrev pub outcome_line : (code len : ℕ) (received : List ℕ) → List ℕ
outcome_line code len received = line (codes "msg" ∷ code_text code ∷ decimal len ∷ []) ++ received_text received ++ 10 ∷ []
