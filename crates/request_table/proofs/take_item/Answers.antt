use Rattle.request_table.proofs.Moved.{taken-free}
use Rattle.request_table.proofs.take_item.Goals as goal

pub returns-in-Some-clause-taken : goal.returns-in-Some-clause-taken
returns-in-Some-clause-taken c = taken-free c.args.free.now.items c.pop.new.self.items c.args.fresh.now c.in-Some.item c.in-Some.ensures.items c.requires.once c.requires.below
