-- What an entry makes of what is noted.
use Rattle.std.specs.Prelude.{◌≡◌, ◌≢◌, ◌⊎◌, ℕ, ◌+◌, ◌≤◌, List, ◌++◌, All, length, map, set, Option, Some, None}
use Rattle.mach_types.specs.declared.calls.Event.{Event}
use Rattle.mach_types.specs.declared.calls.Reply.{Reply}
use Rattle.mach_types.specs.declared.profiles.Profile.{Profile}
use Rattle.mach_model.specs.State.{State}
use Rattle.mach_laws.specs.Paths.{Stage}
use Rattle.mach_laws.specs.JudgedPaths.{JudgedPath}
use Rattle.copyin_base.specs.Worlds.{WorldView}
use Rattle.mach_fates.specs.declared.effects.Lost.{Lost}
use Rattle.mach_fates.specs.declared.ends.End.{End}
use Rattle.mach_fates.specs.declared.ends.Ends.{Ends}
use Rattle.mach_fates.specs.declared.fates.Fates.{Fates}
use Rattle.mach_fates.specs.declared.origin.Sender.{Sender}
use Rattle.mach_fates.specs.Endings.{Known, noted_at, Tells}
use Rattle.mach_fates.specs.Keeping.{queued_at, Apart}
use Rattle.mach_fates.specs.Places.{Joins, Keeps}
use Rattle.mach_fates.specs.Stepping.{with_stage}

-- ---- a port

-- with a port that died
abbrev pub died : (number : ℕ) → End → End
died number End.Queued = End.Died number
died number end = end

-- So many messages are queued behind those of which something was noted.
pub record Grows (total : ℕ) (old new : List End) : Type 0 where
  pub added : List End
  pub more : new ≡ old ++ added
  pub same : All (λ x. x ≡ End.Queued) added
  pub count : length old ≤ total → length new ≡ total

-- By how many messages are queued at the port, if it lives.
abbrev pub EndsBy : (number : ℕ) → (queued : Option ℕ) → (taken : ℕ) → (old new : List End) → Type 0
EndsBy number (Some queued) taken old new = Grows (taken + queued) old new
EndsBy number None taken old new = new ≡ map (died number) old

pub record Settled (number : ℕ) (queued : Option ℕ) (old new : Known) : Type 0 where
  pub taken : new.taken ≡ old.taken
  pub ends : EndsBy number queued old.taken old.ends new.ends

-- The next message of the port ends so.
pub record Counts (end : End) (old new : Known) : Type 0 where
  pub taken : new.taken ≡ old.taken + 1
  pub ends : new.ends ≡ set old.ends old.taken end

-- ---- all ports

-- Nothing changes at other ports.
abbrev pub SameBut : (port : ℕ) → (old new : Ends) → Type 0
SameBut p old new = (q : ℕ) → q ≢ p → noted_at new q ≡ noted_at old q

pub record CountsAt (port : ℕ) (end : End) (old new : Ends) : Type 0 where
  pub counts : Counts end (noted_at old port) (noted_at new port)
  pub others : SameBut port old new

pub record SettledAt (number : ℕ) (port : ℕ) (queued : Option ℕ) (old new : Ends) : Type 0 where
  pub settled : Settled number queued (noted_at old port) (noted_at new port)
  pub others : SameBut port old new

-- what the message that was taken makes of it
abbrev pub CountsTaken : Option Lost → (end : End) → (old new : Ends) → Type 0
CountsTaken None end old new = new ≡ old
CountsTaken (Some x) end old new = CountsAt x.port end old new

-- Each of these ports is settled, and nothing changes at others.
abbrev pub SettlesAll : (number : ℕ) → Fates → List ℕ → (old new : Ends) → Type 0
SettlesAll number f ports old new = (p : ℕ) → Settled number (queued_at f p) (noted_at old p) (noted_at new p) ⊎ (noted_at new p ≡ noted_at old p) × Apart p ports

-- ---- an entry

-- how the message ends that the entry took
abbrev pub EndsAs : Reply → (number : ℕ) → End → Type 0
EndsAs (Reply.Message bytes) number end = (who : Sender) × (end ≡ End.Received number who)
EndsAs reply number end = end ≡ End.TooLong number

pub record Notes (reply : Reply) (number : ℕ) (f : Fates) (old new : Ends) : Type 0 where
  pub end : End
  pub ends_as : EndsAs reply number end
  pub mid : Ends
  pub counts : CountsTaken f.taken end old mid
  pub settles : SettlesAll number f f.visited.items mid new

-- Take any run that goes on by a stage as the fates say of it. If what was told was true of the run, what is told now is true of the run with the stage.
abbrev pub NotesRuns : (event : Event) → (reply : Reply) → (number : ℕ) → Fates → (old new : Ends) → Type 0
NotesRuns event reply number f old new =
    (profile : Profile) (path : List Stage) (s : State) (w : WorldView) (before : Fates) → JudgedPath profile path s → number ≡ length path + 1 → Keeps before path s → (j : Joins profile path s event reply w before f) → Tells old path s →
    Tells new (with_stage path s event reply j.t) j.t
