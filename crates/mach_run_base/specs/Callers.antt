-- A script's callers: the main thread, which is caller 0, and the blocks, which are callers 1, 2 and so on, in the order of the script.
use Rattle.std.specs.Prelude.{◌≡◌, ◌≢◌, ℕ, ◌+◌, ◌≤◌, List, [], ◌∷◌, ◌++◌, All, map}
use Rattle.mach_types.specs.declared.calls.Reply.{Reply}
use Rattle.kernel_lock.specs.declared.entry.Entry.{Entry}
use Rattle.kernel_lock.specs.History.{Known, StartsWith, calls_by}
use Rattle.mach_msg_threads.specs.declared.block.Answer.{Answer}
use Rattle.mach_msg_threads.specs.declared.block.Call.{Call}
use Rattle.mach_msg_threads.specs.Blocks.{Ran}
use Rattle.mach_run_base.specs.declared.script.Script.{Script}
use Rattle.mach_run_base.specs.declared.script.ThreadCalls.{ThreadCalls}

-- The call was recorded. Of a message call that is what its code says: a try that isn't recorded ends it.
abbrev pub IsRecorded : Answer → Type 0
IsRecorded (Answer.Reply reply) = reply ≢ Reply.NoRecord
IsRecorded (Answer.Msg outcome received) = Unit {0}

-- The history has of the pass's caller just the calls that the pass has seen there.
pub record SeesAll (w : Known) (log : List Entry) : Type 0 where
  pub begins : StartsWith log w.seen
  pub own : calls_by w.caller log ≡ calls_by w.caller w.seen

-- The history has of this caller just what these calls add, each of which was recorded. They stand behind `start`, in which the caller made none.
pub record IsMadeBy (log start : List Entry) (caller : ℕ) (calls : List Call) (last : Known) : Type 0 where
  pub first : Known
  pub number : first.caller ≡ caller
  pub begins : first.seen ≡ start
  pub none : calls_by caller start ≡ []
  pub answers : List Answer
  pub ran : Ran first calls answers last
  pub recorded : All IsRecorded answers
  pub all : SeesAll last log

-- So it has of the callers from this number on, one after another; of all others it has none.
abbrev pub AreMadeBy : (log start : List Entry) → (caller : ℕ) → List (List Call) → Type 0
AreMadeBy log start c [] = (d : ℕ) → c ≤ d → calls_by d log ≡ []
AreMadeBy log start c (calls ∷ more) = ((last : Known) × IsMadeBy log start c calls last) × AreMadeBy log start (c + 1) more

-- the main thread's calls
abbrev pub main_calls : Script → List Call
main_calls script = map Call.Event script.opening.items ++ script.main.items

abbrev pub block_calls : ThreadCalls → List Call
block_calls block = block.calls.items

-- The history is that of the script's calls: those of its callers, and nothing else. All that blocks add stands behind all that the main thread adds.
pub record IsOfScript (log : List Entry) (script : Script) : Type 0 where
  pub main : Known
  pub first : IsMadeBy log [] 0 (main_calls script) main
  pub start : List Entry
  pub behind : StartsWith start main.seen
  pub blocks : AreMadeBy log start 1 (map block_calls script.blocks.items)
