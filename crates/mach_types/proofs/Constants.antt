-- The constants of the code are the numbers of the definitions.
use Rattle.std.specs.Prelude.{◌≡◌, refl}
use Rattle.mach_types.specs.declared.bits.TheConstants.{COMPLEX}
use Rattle.mach_types.specs.declared.limits.TheConstants.{MOST_TASKS, MOST_NAMES, MOST_REFERENCES, MOST_RIGHTS, GREATEST_LIMIT, FIRST_LIMIT, MOST_BYTES}
use Rattle.mach_types.specs.Numbers.{most_tasks, most_names, most_references, most_rights, greatest_limit, first_limit, most_bytes}
use Rattle.mach_types.specs.Bits.{complex_flag}

tasks : MOST_TASKS ≡ most_tasks
tasks = refl

names : MOST_NAMES ≡ most_names
names = refl

references : MOST_REFERENCES ≡ most_references
references = refl

rights : MOST_RIGHTS ≡ most_rights
rights = refl

limits : (GREATEST_LIMIT ≡ greatest_limit) × (FIRST_LIMIT ≡ first_limit)
limits = (refl, refl)

bytes : MOST_BYTES ≡ most_bytes
bytes = refl

complex : COMPLEX ≡ complex_flag
complex = refl
