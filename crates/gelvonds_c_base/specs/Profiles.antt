-- Profiles by their numbers.
use Rattle.std.specs.Prelude.{◌==◌, ℕ, Option, None, Some, if◌then◌else◌}
use Rattle.mach_types.specs.declared.profiles.Profile.{Profile}
use Rattle.mach_types.specs.declared.profiles.Profile.TheVariants.{One, Two, Three}

-- the profile that a kernel can have of this number, if any
abbrev pub profile_numbered : ℕ → Option Profile
profile_numbered number = if number == 1 then Some One else if number == 2 then Some Two else if number == 3 then Some Three else None
