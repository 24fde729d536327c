use Rattle.std.proofs.Common.{sym, ◌∙◌}
use Rattle.kernel_core_base.proofs.ReferencesSet.{deallocates, carried_uses}
use Rattle.kernel_core_base.proofs.ReferencesJudged.{can_deallocate}
use Rattle.kernel_core_base.proofs.references.deallocate.Goals as goal

pub carry_out-requires-clause-can : goal.carry_out-requires-clause-can
carry_out-requires-clause-can c = can_deallocate c.args.world.now c.requires.stands c.args.task c.args.name c.args.entry.now c.in-Some.due c.requires.found (sym c.deallocate_entry.ensures ∙ c.in-Some.is)

pub returns-clause-serves : goal.returns-clause-serves
returns-clause-serves c = deallocates c.args.world.now c.args.task c.args.name c.requires.there c.carry_out.new.world c.args.entry.now c.in-Some.due c.requires.found (sym c.deallocate_entry.ensures ∙ c.in-Some.is) c.carry_out.ensures

pub returns-clause-spares : goal.returns-clause-spares
returns-clause-spares c = carried_uses c.args.world.now c.carry_out.new.world c.args.task c.args.name c.in-Some.due c.requires.stands.shown.slots c.carry_out.ensures
