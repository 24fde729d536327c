use Rattle.std.proofs.Common.{sym, subst}
use Rattle.kernel_core_base.specs.declared.references.Due.{Due}
use Rattle.kernel_core_base.specs.References.{CanCarry, Carries}
use Rattle.kernel_core_base.proofs.ReferencesSet.{destroys, carried_uses}
use Rattle.kernel_core_base.proofs.ReferencesJudged.{can_destroy}
use Rattle.kernel_core_base.proofs.references.destroy.Goals as goal

pub carry_out-requires-clause-can : goal.carry_out-requires-clause-can
carry_out-requires-clause-can c = subst (λ (d : Due). CanCarry c.args.world.now c.args.task c.args.name d) (sym c.destroy_entry.ensures)
    (can_destroy c.args.world.now c.requires.stands c.args.task c.args.name c.args.entry.now c.requires.found)

pub returns-clause-serves : goal.returns-clause-serves
returns-clause-serves c = destroys c.args.world.now c.args.task c.args.name c.requires.there c.carry_out.new.world c.args.entry.now c.requires.found
    (subst (λ (d : Due). Carries c.args.world.now c.args.task c.args.name d c.carry_out.new.world) c.destroy_entry.ensures c.carry_out.ensures)

pub returns-clause-spares : goal.returns-clause-spares
returns-clause-spares c = carried_uses c.args.world.now c.carry_out.new.world c.args.task c.args.name c.destroy_entry.result c.requires.stands.shown.slots c.carry_out.ensures
