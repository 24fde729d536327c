use Rattle.std.proofs.Common.{arith, refl}
use Rattle.mach_types.proofs.touched.with.Goals as goal

pub returns-in_default-default-None-default-clause-covers :
    goal.returns-in_default-default-None-default-clause-covers
returns-in_default-default-None-default-clause-covers c = (2, omega arith, refl)
