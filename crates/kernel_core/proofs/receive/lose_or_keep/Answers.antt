use Rattle.kernel_core.proofs.Passing.{destroyable_passed}
use Rattle.kernel_core.proofs.receive.lose_or_keep.Goals as goal

pub lose_message-requires : goal.lose_message-requires
lose_message-requires c = destroyable_passed c.args.world.now c.pass_turn.new.world c.args.waited c.args.port c.pass_turn.ensures c.requires

pub returns-then-not-large-clause-ends : goal.returns-then-not-large-clause-ends
returns-then-not-large-clause-ends c = rw c.if-not-large.true (c.pass_turn.new.world, c.pass_turn.ensures, c.lose_message.ensures)
