-- What a job that was done has written.
use Rattle.std.specs.Prelude.{◌≡◌, ℕ, List, [], ◌∷◌, ◌++◌, flat_map}
use Rattle.mach_types.specs.declared.profiles.Profile.{Profile}
use Rattle.kernel_lock.specs.declared.entry.Entry.{Entry}
use Rattle.kernel_lock.specs.History.{Legal}
use Rattle.tracer_base.specs.Calls.{call_text}
use Rattle.tracer.specs.Histories.{history_text}
use Rattle.mach_say_syntax.specs.declared.syntax.Said.{Said}
use Rattle.mach_say_play.specs.Played.{AreOf}
use Rattle.mach_say.specs.declared.job.Job.{Job}

-- a call as a line of a script
abbrev pub script_line : Entry → List ℕ
script_line e = call_text e.event ++ 10 ∷ []

-- The text is what the job prints of these entries. Of `check` and `labels` nothing more is said.
abbrev pub IsPrinted : Job → Profile → List Entry → (text : List ℕ) → Type 0
IsPrinted Job.Trace profile entries text = history_text profile entries ≡ text
IsPrinted Job.Script profile entries text = flat_map script_line entries ≡ text
IsPrinted job profile entries text = Unit {0}

-- The history is legal, and the text is what the job prints of it.
pub record Prints (job : Job) (profile : Profile) (entries : List Entry) (text : List ℕ) : Type 0 where
  pub legal : Legal profile entries
  pub printed : IsPrinted job profile entries text

-- A storyboard was run: its entries are those of the statements, with replies that are what the statements say.
pub record IsDone (job : Job) (text : List ℕ) : Type 0 where
  pub profile : Profile
  pub statements : List Said
  pub entries : List Entry
  pub of : AreOf statements entries
  pub prints : Prints job profile entries text
