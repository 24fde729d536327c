-- Which entry put a message into its place, and which took it.
use Rattle.std.specs.Prelude.{◌≡◌, ◌≢◌, ℕ, ◌+◌, ◌<◌, ◌≤◌, List, [], ◌∷◌, length, slice_get, Option, Some, None, is_some, true}
use Rattle.mach_types.specs.declared.calls.Event.{Event}
use Rattle.mach_types.specs.declared.calls.Reply.{Reply}
use Rattle.mach_types.specs.declared.profiles.Profile.{Profile}
use Rattle.mach_model.specs.State.{State}
use Rattle.mach_model.specs.Machine.{Step}
use Rattle.mach_laws.specs.Paths.{Stage}
use Rattle.mach_laws.specs.JudgedPaths.{JudgedPath}
use Rattle.copyin_base.specs.Shows.{Shows}
use Rattle.copyin_base.specs.Worlds.{WorldView}
use Rattle.mach_fates.specs.declared.effects.Lost.{Lost}
use Rattle.mach_fates.specs.declared.fates.Fates.{Fates}
use Rattle.mach_fates.specs.Keeping.{kept_at, Apart, HasIdentities}
use Rattle.mach_fates.specs.Stepping.{with_stage}

-- ---- who put it there

-- The entry of this number, from 1, put message number `place` into the port's log, counted from 0 over all that ever came there.
pub record IsPut (path : List Stage) (port place entry : ℕ) : Type 0 where
  pub stage : ℕ
  pub number : entry ≡ stage + 1
  pub x : Stage
  pub at : slice_get path stage ≡ Some x
  pub behind : length (x.before.log port) ≤ place
  pub within : place < length (x.after.log port)

-- These entries put the messages there from this place on.
abbrev pub ArePut : (path : List Stage) → (port place : ℕ) → List ℕ → Type 0
ArePut path port place [] = Unit {0}
ArePut path port place (n ∷ ns) = IsPut path port place n × ArePut path port (place + 1) ns

-- These are the entries that put the messages there which are queued: all that came and weren't taken.
pub record KeepsPort (path : List Stage) (s : State) (p : ℕ) (entries : List ℕ) : Type 0 where
  pub put : ArePut path p (s.taken p) entries
  pub all : s.taken p + length entries ≡ length (s.log p)

-- So it is of each port that lives, and nothing is kept of others.
pub record Keeps (f : Fates) (path : List Stage) (s : State) : Type 0 where
  pub live : (p : ℕ) → is_some (kept_at f p) ≡ s.live_port p
  pub origins : (p : ℕ) (entries : List ℕ) → kept_at f p ≡ Some entries → KeepsPort path s p entries
  pub made : f.made ≡ s.ports_made

-- ---- who took it

-- The step from the one state to the other took the message in front of this port, and no other. The entry that is told put it there.
pub record IsTaken (path : List Stage) (s t : State) (x : Lost) : Type 0 where
  pub lives : s.live_port x.port ≡ true
  pub there : s.taken x.port < length (s.log x.port)
  pub goes : t.taken x.port ≡ s.taken x.port + 1
  pub put : IsPut path x.port (s.taken x.port) x.origin.entry
  pub others : (p : ℕ) → p ≢ x.port → t.taken p ≡ s.taken p

-- Where nothing is told, it took none.
abbrev pub TellsTaken : (path : List Stage) → (s t : State) → Option Lost → Type 0
TellsTaken path s t None = (p : ℕ) → t.taken p ≡ s.taken p
TellsTaken path s t (Some x) = IsTaken path s t x

-- ---- an entry that is followed

-- The run goes on by a stage with this event and reply, to a state that the tables show. What is kept, and what is told to be taken, is true of it.
-- Each port of which what is kept or taken changed was visited.
pub record Joins (profile : Profile) (path : List Stage) (s : State) (event : Event) (reply : Reply) (w : WorldView) (before f : Fates) : Type 0 where
  pub t : State
  pub step : Step (length path) s event reply t
  pub goes_on : JudgedPath profile (with_stage path s event reply t) t
  pub shown : Shows w t
  pub keeps : Keeps f (with_stage path s event reply t) t
  pub taken : TellsTaken path s t f.taken
  pub quiet : (p : ℕ) → Apart p f.visited.items → (kept_at f p ≡ kept_at before p) × (t.taken p ≡ s.taken p)

-- So it is after each run that leads to a state that the tables showed, of which what was kept is true.
abbrev pub FollowsRuns : (event : Event) → (reply : Reply) → (number : ℕ) → (old : WorldView) → (before : Fates) → (new : WorldView) → (after : Fates) → Type 0
FollowsRuns event reply number old before new after =
    HasIdentities new → (profile : Profile) (path : List Stage) (s : State) → JudgedPath profile path s → number ≡ length path + 1 → Shows old s → Keeps before path s →
    Joins profile path s event reply new before after
