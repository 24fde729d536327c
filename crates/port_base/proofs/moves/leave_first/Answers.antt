use Rattle.port_base.proofs.Moved.{moved_out}
use Rattle.port_base.proofs.moves.leave_first.Goals as goal

pub returns-clause-moved : goal.returns-clause-moved
returns-clause-moved c = moved_out c.args.lists.now c.remove_first.new.self c.args.key c.args.was c.requires.was c.remove_first.ensures
