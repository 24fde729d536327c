-- Which port or set is under a name, for C.
use Rattle.std.specs.Prelude.{◌≡◌, ℕ, ℤ, Bool, true, false, Option, None, Some, is_some}
use Rattle.mach_types.specs.declared.codes.KernReturn.TheVariants.{Success, InvalidTask, InvalidName}
use Rattle.mach_types.specs.Codes.{kern_number}
use Rattle.name_space.specs.declared.Entry.{Entry}
use Rattle.copyin_base.specs.Worlds.{space_at, entry_at}
use Rattle.gelvonds_c_base.specs.declared.waited.WaitedFor.{WaitedFor}
use Rattle.gelvonds_c_base.specs.Answers.{identity_of}
use Rattle.gelvonds_c_base.specs.Codes.{signed, no_kernel}
use Rattle.gelvonds_c.specs.Held.{Kept}

-- The code for a task that lives or not, with this under the name, if anything.
abbrev pub identity_code : (lives : Bool) → Option Entry → ℕ
identity_code false entry = kern_number InvalidTask
identity_code true None = kern_number InvalidName
identity_code true (Some entry) = kern_number Success

-- what is written then, or the other one
abbrev pub identity_or : (lives : Bool) → Option Entry → WaitedFor → WaitedFor
identity_or false entry other = other
identity_or true None other = other
identity_or true (Some entry) other = identity_of entry

-- What the kernel's tables have under the task's name is told, and the kernel stays. A handle without one has no names.
abbrev pub TellsIdentity : (old : Kept) → (task name : ℕ) → (code : ℤ) → (new : Kept) → (before after : WaitedFor) → Type 0
TellsIdentity None task name code new before after = (code ≡ signed no_kernel) × (new ≡ None) × (after ≡ before)
TellsIdentity (Some kernel) task name code new before after =
    (code ≡ signed (identity_code (is_some (space_at kernel.kernel.tables task)) (entry_at kernel.kernel.tables task name)))
    × (new ≡ Some kernel)
    × (after ≡ identity_or (is_some (space_at kernel.kernel.tables task)) (entry_at kernel.kernel.tables task name) before)
