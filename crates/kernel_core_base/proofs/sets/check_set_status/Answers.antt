use Rattle.kernel_core_base.proofs.Members.{set_allowed}
use Rattle.kernel_core_base.proofs.sets.check_set_status.Goals as goal

pub returns-clause-ok : goal.returns-clause-ok
returns-clause-ok c = record { allowed = λ s sh. (set_allowed c.args.world.now c.args.task c.args.name _ c.in_ok-find_set.ensures.ok).allowed s sh }
