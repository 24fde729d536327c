-- What a step may have changed for those that wait (this project's own).
use Rattle.std.specs.Prelude.{Some, None, Contains}
use Rattle.mach_types.specs.declared.calls.Waited.{Waited}
use Rattle.mach_types.specs.declared.touched.Touched.{Touched}
use Rattle.mach_types.specs.declared.touched.Touched.TheVariants.{Few, All}

-- What is named is covered, or everything is.
abbrev pub Covers : Touched → Waited → Type 0
Covers (Few named) w = Contains named (Some w)
Covers All w = Unit {0}

-- There is room to name one more.
abbrev pub HasPlace : Touched → Type 0
HasPlace (Few named) = Contains named None
HasPlace All = ⊥
