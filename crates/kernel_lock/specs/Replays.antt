-- The kernel behind the lock, and the history that leads to it.
use Rattle.std.specs.Prelude.{◌≡◌, ℕ, Bool, true, false, List, [], None, refl}
use Rattle.std.specs.Coded.{Coded, code_by, coded×, coded_ℕ, coded_bool, coded_list}
use Rattle.atomic_table.specs.Seated.{TableId}
use Rattle.mach_types.specs.declared.profiles.Profile.{Profile}
use Rattle.mach_model.specs.State.{State}
use Rattle.copyin_base.specs.Shows.{Shows}
use Rattle.kernel_change.specs.Changing.{few}
use Rattle.kernel_core.specs.Kernels.{KernelView}
use Rattle.kernel_lock.specs.declared.entry.Entry.{Entry}
use Rattle.kernel_lock.specs.History.{Known, LeadsTo}

-- A kernel with its history, the board on which the history's length stands, by which profile it is, whether the history's entries are kept, and
-- how many passes were made.
pub record Stored : Type 0 where
  pub table : TableId
  pub profile : Profile
  pub log : List Entry
  pub keeps : Bool
  pub passes : ℕ
  pub kernel : KernelView

abbrev pub stored_code : Coded TableId → Coded Profile → Coded Entry → Coded KernelView → Coded Stored
stored_code table profile entry kernel =
    code_by
    (TableId × (Profile × (List Entry × (Bool × (ℕ × KernelView)))))
    (coded× table (coded× profile (coded× (coded_list entry) (coded× coded_bool (coded× coded_ℕ kernel)))))
    (λ k. (k.table, (k.profile, (k.log, (k.keeps, (k.passes, k.kernel))))))
    (λ x. record { table = x.0; profile = x.1.0; log = x.1.1.0; keeps = x.1.1.1.0; passes = x.1.1.1.1.0; kernel = x.1.1.1.1.1 })
    (λ _. refl)

-- the entries that are kept of a history
abbrev pub kept_of : (keeps : Bool) → List Entry → List Entry
kept_of true log = log
kept_of false log = []

-- A pass was made, or none could be: all else is as it was.
pub record IsSameButPasses (old new : Stored) : Type 0 where
  pub table : new.table ≡ old.table
  pub profile : new.profile ≡ old.profile
  pub log : new.log ≡ old.log
  pub keeps : new.keeps ≡ old.keeps
  pub kernel : new.kernel ≡ old.kernel

-- A new pass of the kernel, which has seen nothing. Its number is how many were made before.
pub record IsNewPass (old : Stored) (pass : Known) : Type 0 where
  pub table : pass.table ≡ old.table
  pub profile : pass.profile ≡ old.profile
  pub caller : pass.caller ≡ old.passes
  pub nothing : pass.seen ≡ []
  pub untouched : pass.touched ≡ few None None

-- A kernel behind its lock: its board, by which profile it is, and whether the history's entries are kept.
pub record SharedView : Type 0 where
  pub table : TableId
  pub profile : Profile
  pub keeps : Bool

-- The history is a run of the machine by the profile, to a state that the kernel shows.
pub record Replays (profile : Profile) (log : List Entry) (kernel : KernelView) : Type 0 where
  pub state : State
  pub leads : LeadsTo profile log state
  pub shown : Shows kernel.tables state
