use Rattle.member_lists.proofs.Held.{total_set, total_out}
use Rattle.member_lists.proofs.leave_ends.Goals as goal

pub returns-in-Some-clause-total : goal.returns-in-Some-clause-total
returns-in-Some-clause-total c = total_set c.args.ends.now c.set.new.self c.args.list c.args.now c.requires c.set.ensures

pub returns-in-None-clause-total : goal.returns-in-None-clause-total
returns-in-None-clause-total c = total_out c.args.ends.now c.release.new.self c.args.list c.args.now c.requires c.release.ensures
