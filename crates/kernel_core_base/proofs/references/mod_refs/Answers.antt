use Rattle.std.proofs.Common.{subst, ℕ, ℤ}
use Rattle.std.proofs.Math.Facts.{to_z-of_z}
use Rattle.mach_types.specs.declared.calls.Event.{Event}
use Rattle.copyin_base.proofs.Exiting.{exits}
use Rattle.kernel_core_base.specs.References.{IsChange, CanChange, CannotChange}
use Rattle.kernel_core_base.proofs.ReferencesJudged.{modify_refused, can_modify, modifies}
use Rattle.kernel_core_base.proofs.ReferencesSet.{carried_uses}
use Rattle.kernel_core_base.proofs.references.mod_refs.Goals as goal

pub returns-in_err-right-clause-serves : goal.returns-in_err-right-clause-serves
returns-in_err-right-clause-serves c =
    exits c.args.world.now (Event.ModRefs c.args.task c.args.name c.args.right c.args.delta) c.from_residual.result c.in_err-right.field-0.0 c.from_residual.ensures.1 c.requires.there
    (c.in_err-right.ensures.err c.args.delta)

pub returns-in_err-due-clause-serves : goal.returns-in_err-due-clause-serves
returns-in_err-due-clause-serves c =
    let by = subst (λ (z : ℤ). IsChange c.change_of.result z) (to_z-of_z c.ranges.delta) c.change_of.ensures in
    let cannot = subst (λ (total : ℕ). CannotChange total c.in_ok-right.right c.in_ok-right.entry c.change_of.result c.in_err-due.field-0.0) c.total_rights.ensures c.in_err-due.ensures.err in
    exits c.args.world.now (Event.ModRefs c.args.task c.args.name c.args.right c.args.delta) c.from_residual-in_err-due.result c.in_err-due.field-0.0 c.from_residual-in_err-due.ensures.1 c.requires.there
    (modify_refused c.args.world.now c.args.task c.args.name c.args.right c.args.delta c.in_ok-right.right c.in_ok-right.entry c.in_ok-right.ensures.ok c.change_of.result by c.in_err-due.field-0.0 cannot)

pub carry_out-requires-clause-can : goal.carry_out-requires-clause-can
carry_out-requires-clause-can c =
    let by = subst (λ (z : ℤ). IsChange c.change_of.result z) (to_z-of_z c.ranges.delta) c.change_of.ensures in
    let can = subst (λ (total : ℕ). CanChange total c.in_ok-right.right c.in_ok-right.entry c.change_of.result c.in_ok-due.due) c.total_rights.ensures c.in_ok-due.ensures.ok in
    can_modify c.args.world.now c.requires.stands c.args.task c.args.name c.args.right c.args.delta c.in_ok-right.right c.in_ok-right.entry c.change_of.result c.in_ok-due.due c.in_ok-right.ensures.ok by can

pub returns-clause-serves : goal.returns-clause-serves
returns-clause-serves c =
    let by = subst (λ (z : ℤ). IsChange c.change_of.result z) (to_z-of_z c.ranges.delta) c.change_of.ensures in
    let can = subst (λ (total : ℕ). CanChange total c.in_ok-right.right c.in_ok-right.entry c.change_of.result c.in_ok-due.due) c.total_rights.ensures c.in_ok-due.ensures.ok in
    modifies c.args.world.now c.requires.stands c.args.task c.args.name c.args.right c.args.delta c.in_ok-right.right c.in_ok-right.entry c.change_of.result c.in_ok-due.due c.carry_out.new.world
    c.requires.there c.in_ok-right.ensures.ok by can c.carry_out.ensures

pub returns-clause-spares : goal.returns-clause-spares
returns-clause-spares c = carried_uses c.args.world.now c.carry_out.new.world c.args.task c.args.name c.in_ok-due.due c.requires.stands.shown.slots c.carry_out.ensures
