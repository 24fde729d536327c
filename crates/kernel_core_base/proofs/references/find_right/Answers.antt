use Rattle.kernel_core_base.proofs.ReferencesJudged.{not_a_right}
use Rattle.kernel_core_base.proofs.references.find_right.Goals as goal

pub returns-in_default-clause-err : goal.returns-in_default-clause-err
returns-in_default-clause-err c = λ delta. not_a_right c.args.world.now c.args.task c.args.name c.args.number delta c.in_default.ensures
