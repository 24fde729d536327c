use Rattle.std.proofs.Common.{◌<◌, arith, length}
use Rattle.mach_types.specs.Numbers.{most_tasks}
use Rattle.kernel_core_base.proofs.TaskCreated.{task_created}
use Rattle.kernel_core_base.proofs.tasks.create_task.Goals as goal

pub create_task-requires : goal.create_task-requires
create_task-requires c =
    let number = c.tasks_made-number.ensures in
    let below = c.if-number-ge-MOST_TASKS.false in
    omega (arith, number, below)

pub returns-in-Ok-clause-serves : goal.returns-in-Ok-clause-serves
returns-in-Ok-clause-serves c =
    let number = c.tasks_made-number.ensures in
    let below = c.if-number-ge-MOST_TASKS.false in
    let few : length c.args.world.now.spaces < most_tasks = omega (arith, number, below) in
    task_created c.args.world.now c.in-Ok.task c.create_task.new.self few c.in-Ok.ensures.ok.0 c.in-Ok.ensures.ok.1
