-- Scripts: which lines make one, and who makes which call.
use Rattle.std.specs.Prelude.{◌≡◌, ℕ, ◌+◌, ◌<◌, ◌==◌, List, [], ◌∷◌, ◌++◌, All, length, flat_map, map, Bool, false, ◌||◌}
use Rattle.std.specs.List.{IsDistinct}
use Rattle.mach_msg_threads.specs.declared.block.Call.{Call}
use Rattle.tracer_base.specs.declared.blocks.ScriptLine.{ScriptLine}
use Rattle.tracer_base.specs.Blocks.{FitsSaid, said_line}
use Rattle.mach_run_base.specs.declared.script.Script.{Script}
use Rattle.mach_run_base.specs.declared.script.ThreadCalls.{ThreadCalls}

-- the number of the block that the line begins
abbrev pub begun : ScriptLine → List ℕ
begun (ScriptLine.Call event) = []
begun (ScriptLine.Message call) = []
begun (ScriptLine.Thread number) = number ∷ []

-- Each line fits, and no two blocks have one number.
pub record IsScript (lines : List ScriptLine) : Type 0 where
  pub fit : All FitsSaid lines
  pub apart : IsDistinct ◌==◌ (flat_map begun lines)

-- a call, as its line says it
abbrev pub said_call : Call → ScriptLine
said_call (Call.Event event) = ScriptLine.Call event
said_call (Call.Msg task options name room send) = ScriptLine.Message (record { task = task; options = options; name = name; room = room; bytes = send })

-- a block, as its lines say it
abbrev pub said_block : ThreadCalls → List ScriptLine
said_block block = ScriptLine.Thread block.number ∷ map said_call block.calls.items

-- whether a block has this number
abbrev pub has_number : List ThreadCalls → ℕ → Bool
has_number [] number = false
has_number (block ∷ blocks) number = (block.number == number) || has_number blocks number

-- the lines of a script
abbrev pub said_script : Script → List ScriptLine
said_script script = map ScriptLine.Call script.opening.items ++ map said_call script.main.items ++ flat_map said_block script.blocks.items

-- Line n, from 1, is the first bad one: the lines before it are a script's, there is more behind them, and that begins with no line which may follow them.
pub record IsFirstBadLine (text : List ℕ) (n : ℕ) : Type 0 where
  pub lines : List ScriptLine
  pub good : IsScript lines
  pub number : length lines + 1 ≡ n
  pub rest : List ℕ
  pub parts : flat_map said_line lines ++ rest ≡ text
  pub some : 0 < length rest
  pub bad : (said : ScriptLine) (behind : List ℕ) → IsScript (lines ++ said ∷ []) → said_line said ++ behind ≡ rest → ⊥
