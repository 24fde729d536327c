-- What the program writes of a script, and the history that stands behind it.
use Rattle.std.specs.Prelude.{◌≡◌, ◌≢◌, ℕ, ◌+◌, List, [], ◌∷◌, ◌++◌, All, length, flat_map, map}
use Rattle.mach_types.specs.declared.profiles.Profile.{Profile}
use Rattle.mach_types.specs.declared.calls.Event.{Event}
use Rattle.mach_types.specs.declared.calls.Reply.{Reply}
use Rattle.kernel_lock.specs.declared.entry.Entry.{Entry}
use Rattle.kernel_lock.specs.History.{Known, Legal, calls_by, entry}
use Rattle.mach_msg_threads.specs.declared.block.Answer.{Answer}
use Rattle.mach_msg_threads.specs.declared.block.Call.{Call}
use Rattle.mach_msg_threads.specs.Blocks.{Ran}
use Rattle.tracer_base.specs.Blocks.{outcome_line, thread_line}
use Rattle.tracer_base.specs.Replies.{reply_line}
use Rattle.mach_run_base.specs.Callers.{IsRecorded, SeesAll}
use Rattle.mach_run_base.specs.declared.script.Script.{Script}
use Rattle.mach_run_base.specs.declared.script.ThreadCalls.{ThreadCalls}

-- the entries of calls that were answered so, one after another
abbrev pub entries_made : ℕ → List Event → List Reply → List Entry
entries_made caller (event ∷ events) (reply ∷ replies) = entry caller event reply ∷ entries_made caller events replies
entries_made caller events replies = []

-- The text is the replies to these calls, one a line, each of which was recorded. The pass v made them, and is w; it had seen nothing before, and
-- its calls are all that the history has, which is legal by its profile, and which it has seen.
pub record AreReplies (v : Known) (calls : List Event) (text : List ℕ) (w : Known) : Type 0 where
  pub replies : List Reply
  pub count : length replies ≡ length calls
  pub ran : Ran v (map Call.Event calls) (map Answer.Reply replies) w
  pub recorded : All (λ reply. reply ≢ Reply.NoRecord) replies
  pub history : w.seen ≡ entries_made w.caller calls replies
  pub legal : Legal v.profile w.seen
  pub lines : flat_map reply_line replies ≡ text

-- an answer, as its line says it
abbrev pub answer_line : Answer → List ℕ
answer_line (Answer.Reply reply) = reply_line reply
answer_line (Answer.Msg outcome received) = outcome_line outcome.code outcome.len received

-- The text is the answers to calls that the pass v made, and is w. Each call was recorded.
pub record AreAnswers (v : Known) (calls : List Call) (text : List ℕ) (w : Known) : Type 0 where
  pub answers : List Answer
  pub ran : Ran v calls answers w
  pub recorded : All IsRecorded answers
  pub lines : flat_map answer_line answers ≡ text

-- The text is the block's number and the answers to its calls, which a pass of its own made, and is w: that of caller c, which had seen `start` of a
-- history of this profile, in which it made none.
pub record IsBlock (profile : Profile) (start : List Entry) (c : ℕ) (block : ThreadCalls) (text : List ℕ) (w : Known) : Type 0 where
  pub pass : Known
  pub of : pass.profile ≡ profile
  pub number : pass.caller ≡ c
  pub begins : pass.seen ≡ start
  pub none : calls_by c start ≡ []
  pub lines : List ℕ
  pub answers : AreAnswers pass block.calls.items lines w
  pub parts : thread_line block.number ++ lines ≡ text

-- The text is the blocks' texts, in their order; each block has its own pass of these, and they are the callers from c on.
abbrev pub AreBlocks : Profile → (start : List Entry) → (c : ℕ) → List ThreadCalls → (text : List ℕ) → List Known → Type 0
AreBlocks profile start c [] text [] = text ≡ []
AreBlocks profile start c (block ∷ blocks) text (w ∷ ws) =
    (first : List ℕ) × (rest : List ℕ) × (first ++ rest ≡ text) × IsBlock profile start c block first w × AreBlocks profile start (c + 1) blocks rest ws
AreBlocks profile start c blocks text ws = ⊥

-- the numbers of blocks, each with its answers, as they are printed
abbrev pub block_texts : {X : Type 0} → (X → List Answer) → List ℕ → List X → List ℕ
block_texts answers (number ∷ numbers) (x ∷ xs) = (thread_line number ++ flat_map answer_line (answers x)) ++ block_texts answers numbers xs
block_texts answers numbers xs = []

-- The text is the answers to a script's calls on a kernel of this profile: first those of the main thread, which is caller 0, then each block's. Blocks begin when the main thread
-- has ended, and their passes with the whole history; so has the main thread's by then.
pub record IsAnswered (profile : Profile) (script : Script) (text : List ℕ) (main : Known) (blocks : List Known) : Type 0 where
  pub opening : List ℕ
  pub further : List ℕ
  pub behind : List ℕ
  pub parts : opening ++ further ++ behind ≡ text
  pub pass : Known
  pub of : pass.profile ≡ profile
  pub number : pass.caller ≡ 0
  pub begins : pass.seen ≡ []
  pub opened : Known
  pub first : AreReplies pass script.opening.items opening opened
  pub ended : Known
  pub next : AreAnswers opened script.main.items further ended
  pub same : main.caller ≡ ended.caller
  pub whole : SeesAll ended main.seen
  pub last : AreBlocks profile main.seen 1 script.blocks.items behind blocks
