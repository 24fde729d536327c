use Rattle.kernel_core_base.proofs.Refused.{task_ended}
use Rattle.kernel_core_base.proofs.tasks.terminate_task.Goals as goal

pub returns-clause-serves : goal.returns-clause-serves
returns-clause-serves c = task_ended c.args.world.now c.args.task c.end_task.new.world c.requires.there c.end_task.ensures.ends
