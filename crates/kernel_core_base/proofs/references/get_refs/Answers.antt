use Rattle.mach_types.specs.Codes.{kern_number}
use Rattle.mach_types.specs.declared.calls.Event.{Event}
use Rattle.copyin_base.proofs.Exiting.{exits}
use Rattle.kernel_core_base.proofs.ReferencesTold.{refs_no_right, refs_no_name, refs_told}
use Rattle.kernel_core_base.proofs.references.get_refs.Goals as goal

pub returns-in_default : goal.returns-in_default
returns-in_default c = refs_no_right c.args.world.now c.args.task c.args.name c.args.right c.requires c.in_default.ensures

pub returns-in_err-entry : goal.returns-in_err-entry
returns-in_err-entry c =
    exits c.args.world.now (Event.GetRefs c.args.task c.args.name c.args.right) c.from_residual.result c.in_err-entry.field-0.0 c.from_residual.ensures.1 c.requires
    (refs_no_name c.args.world.now c.args.task c.args.name c.args.right c.requires c.in-Some.right c.in-Some.ensures (kern_number c.in_err-entry.field-0.0) c.in_err-entry.ensures.err)

pub returns : goal.returns
returns c = rw c.references.ensures.value
    (refs_told c.args.world.now c.args.task c.args.name c.args.right c.requires c.in-Some.right c.in_ok-entry.entry c.in-Some.ensures c.in_ok-entry.ensures.ok)
