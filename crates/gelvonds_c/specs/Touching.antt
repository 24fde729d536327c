-- Which ports and sets the last call may have changed, for C.
use Rattle.std.specs.Prelude.{◌≡◌, ℤ, None, Some}
use Rattle.gelvonds_c_base.specs.declared.touched.TouchedPlaces.{TouchedPlaces}
use Rattle.gelvonds_c_base.specs.Answers.{c_touched}
use Rattle.gelvonds_c_base.specs.Codes.{signed, no_kernel}
use Rattle.gelvonds_c.specs.Held.{Kept}

-- What the kernel's last call touched is told, and the kernel stays. A handle without one tells nothing.
abbrev pub TellsTouched : (old : Kept) → (code : ℤ) → (new : Kept) → (before after : TouchedPlaces) → Type 0
TellsTouched None code new before after = (code ≡ signed no_kernel) × (new ≡ None) × (after ≡ before)
TellsTouched (Some kernel) code new before after = (code ≡ signed 0) × (new ≡ Some kernel) × (after ≡ c_touched kernel.kernel.touched)
