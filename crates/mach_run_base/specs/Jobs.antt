-- What a job that was done has written.
use Rattle.std.specs.Prelude.{◌≡◌, ℕ, Bool, true, false, List, [], ◌++◌, Option, IfSome, flat_map, if◌then◌else◌}
use Rattle.log.specs.Level.{allows}
use Rattle.log.specs.declared.level.LevelFilter.{LevelFilter}
use Rattle.mach_types.specs.declared.profiles.Profile.{Profile}
use Rattle.kernel_lock.specs.declared.entry.Entry.{Entry}
use Rattle.kernel_lock.specs.History.{Known, Legal}
use Rattle.tracer.specs.Histories.{heading, entry_line}
use Rattle.tracer.specs.Histories as of_history
use Rattle.tracer.specs.Levels.{level_of}
use Rattle.tracer_base.specs.Blocks.{said_line}
use Rattle.mach_run_base.specs.declared.checking.Verdict.{Verdict}
use Rattle.mach_run_base.specs.declared.job.Job.{Job}
use Rattle.mach_run_base.specs.declared.job.Shown.{Shown}
use Rattle.mach_run_base.specs.declared.script.Script.{Script}
use Rattle.mach_run_base.specs.Callers.{IsOfScript}
use Rattle.mach_run_base.specs.Output.{IsAnswered}
use Rattle.mach_run_base.specs.Scripts.{IsScript, IsFirstBadLine, said_script}
use Rattle.mach_run_base.specs.Verdicts.{IsLegalText, verdict_line}

abbrev pub profile_of : Shown → Profile
profile_of (Shown.Replies profile) = profile
profile_of (Shown.History profile warn) = profile

-- the levels that are shown: warnings alone, or all
abbrev pub least_shown : (warn : Bool) → LevelFilter
least_shown true = LevelFilter.Warn
least_shown false = LevelFilter.Info

-- a history's first line, which does not stand before warnings alone
abbrev pub head_shown : Profile → (warn : Bool) → List ℕ
head_shown profile true = []
head_shown profile false = heading profile

abbrev pub entry_shown : (warn : Bool) → Entry → List ℕ
entry_shown warn e = if allows (least_shown warn) (level_of e.reply) then entry_line e else []

abbrev pub history_shown : Profile → (warn : Bool) → List Entry → List ℕ
history_shown profile warn entries = head_shown profile warn ++ flat_map (entry_shown warn) entries

-- The text is the history of the script's calls, which is legal by the profile, or its warnings.
pub record IsHistory (profile : Profile) (warn : Bool) (script : Script) (text : List ℕ) : Type 0 where
  pub entries : List Entry
  pub legal : Legal profile entries
  pub made : IsOfScript entries script
  pub shown : history_shown profile warn entries ≡ text

-- The text is what is shown of the script.
abbrev pub IsMade : Shown → Script → (text : List ℕ) → Type 0
IsMade (Shown.Replies profile) script text = (main : Known) × (blocks : List Known) × IsAnswered profile script text main blocks
IsMade (Shown.History profile warn) script text = IsHistory profile warn script text

-- The text is what is shown of the script that these bytes spell, where they are known; of some script, where they aren't.
pub record IsMadeOf (shown : Shown) (bytes : Option (List ℕ)) (text : List ℕ) : Type 0 where
  pub script : Script
  pub good : IsScript (said_script script)
  pub spelled : IfSome bytes (λ whole. flat_map said_line (said_script script) ≡ whole)
  pub made : IsMade shown script text

-- The text tells that the history that the bytes spell is legal, and of how many entries it is.
pub record IsChecked (bytes : Option (List ℕ)) (text : List ℕ) : Type 0 where
  pub count : ℕ
  pub legal : IsLegalText bytes count
  pub line : verdict_line (Verdict.Legal count) ≡ text

-- The text is what the job makes of these bytes.
abbrev pub IsDone : Job → (bytes : Option (List ℕ)) → (text : List ℕ) → Type 0
IsDone (Job.Run profile) bytes text = IsMadeOf (Shown.Replies profile) bytes text
IsDone (Job.Trace profile warn) bytes text = IsMadeOf (Shown.History profile warn) bytes text
IsDone Job.Check bytes text = IsChecked bytes text

-- Line n, from 1, of the bytes is the first bad one of what the job reads.
abbrev pub IsBad : Job → (bytes : List ℕ) → (n : ℕ) → Type 0
IsBad (Job.Run profile) bytes n = IsFirstBadLine bytes n
IsBad (Job.Trace profile warn) bytes n = IsFirstBadLine bytes n
IsBad Job.Check bytes n = of_history.IsFirstBadLine bytes n
