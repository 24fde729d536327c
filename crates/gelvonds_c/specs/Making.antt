-- A kernel is made, by its profile, in a handle that holds none.
use Rattle.std.specs.Prelude.{◌≡◌, ℕ, ℤ, Option, None, Some}
use Rattle.mach_types.specs.declared.profiles.Profile.{Profile}
use Rattle.mach_types.specs.declared.codes.KernReturn.TheVariants.{Success, InvalidArgument, ResourceShortage}
use Rattle.mach_types.specs.Codes.{kern_number}
use Rattle.mach_model.specs.State.{State, opening_in}
use Rattle.copyin_base.specs.Shows.{Shows}
use Rattle.copyin_base.specs.Worlds.{WorldView}
use Rattle.kernel_record.specs.declared.recorded.LastCall.TheVariants.{NotKept}
use Rattle.gelvonds_c.specs.Held.{Kept}
use Rattle.gelvonds_c_base.specs.Codes.{signed, in_use, no_kernel}
use Rattle.gelvonds_c_base.specs.Profiles.{profile_numbered}

-- A kernel stays, whatever is asked for. A handle without one has after success a kernel of the profile in which nothing was
-- made yet, whose calls are not kept. Else it has still none, for want of a profile or of memory.
abbrev pub Makes : Option Profile → (old : Kept) → (code : ℤ) → (new : Kept) → Type 0
Makes profile (Some kernel) code new = (code ≡ signed in_use) × (new ≡ Some kernel)
Makes None None code new = (code ≡ signed (kern_number InvalidArgument)) × (new ≡ None)
Makes (Some profile) None code (Some kernel) = (code ≡ signed (kern_number Success)) × Shows kernel.kernel.tables (opening_in profile) × (kernel.last ≡ NotKept)
Makes (Some profile) None code None = code ≡ signed (kern_number ResourceShortage)

-- The number is that of the profile of the state that the kernel shows.
abbrev pub IsProfileOf : WorldView → (number : ℕ) → Type 0
IsProfileOf tables number = (s : State) → Shows tables s → profile_numbered number ≡ Some s.profile

-- It is, and the kernel stays. A handle without one has no profile, and no number is written.
abbrev pub TellsProfile : (old : Kept) → (code : ℤ) → (new : Kept) → (before after : ℕ) → Type 0
TellsProfile None code new before after = (code ≡ signed no_kernel) × (new ≡ None) × (after ≡ before)
TellsProfile (Some kernel) code new before after = (code ≡ signed (kern_number Success)) × (new ≡ Some kernel) × IsProfileOf kernel.kernel.tables after
