use Rattle.std.proofs.Common.{refl, sym}
use Rattle.mach_types.specs.declared.rights.Right.TheVariants as right
use Rattle.kernel_core_base.proofs.names.right_to_make.Goals as goal

pub returns-in_default-clause-err : goal.returns-in_default-clause-err
returns-in_default-clause-err c = let none = c.in_default.ensures in (refl, (λ e. none right.Receive (sym e), λ e. none right.PortSet (sym e), λ e. none right.DeadName (sym e)))
