use Rattle.std.proofs.Common.{rules}
use Rattle.kernel_core.proofs.Receiving.{port_of_another, port_in_set}
use Rattle.kernel_core.proofs.receive.judge_port.Goals as goal
use Rattle.kernel_core.proofs.receive.judge_port.Goals.{then-not-has_receive-via-then-not-has_receive, then-not-has_receive-via-else-not-has_receive+then-is_member}

pub returns-then-not-has_receive-clause-err : goal.returns-then-not-has_receive-clause-err
returns-then-not-has_receive-clause-err c = elim c.then-not-has_receive.branch [
  | then-not-has_receive-via-then-not-has_receive w ↦ port_of_another c.args.world.now c.args.task c.args.port (search rules) (search rules)
  | then-not-has_receive-via-else-not-has_receive+then-is_member w ↦ port_in_set c.args.world.now c.args.task c.args.port (search rules) (search rules)
]
