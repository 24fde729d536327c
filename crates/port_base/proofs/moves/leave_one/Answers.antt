use Rattle.port_base.proofs.Parted.{parted_nowhere, parted_alone, parted_several}
use Rattle.port_base.proofs.moves.leave_one.Goals as goal

pub returns-in-Nowhere : goal.returns-in-Nowhere
returns-in-Nowhere c = absurd (parted_nowhere c.args.sets.now c.args.sets.now c.args.key c.args.set c.args.is_ready c.args.membership c.requires.home c.requires.there c.in-Nowhere.is)

pub returns-in-Alone : goal.returns-in-Alone
returns-in-Alone c = parted_alone c.args.sets.now c.leave_alone.new.self c.args.key c.args.set c.args.is_ready c.args.membership c.requires.home c.requires.there c.in-Alone.only c.in-Alone.is c.leave_alone.ensures.after c.leave_alone.ensures.apart

pub returns-in-Several : goal.returns-in-Several
returns-in-Several c =
    parted_several c.args.sets.now c.leave-now.new.self c.args.key c.args.set c.args.is_ready c.args.membership c.requires.home c.requires.there c.in-Several.first c.in-Several.is c.requires.stands c.leave-now.ensures.after c.leave-now.ensures.others c.leave-now.result c.sets_from.result
    c.leave-now.ensures.lists c.leave-now.ensures.first c.leave-now.ensures.apart c.sets_from.ensures.some c.sets_from.ensures.none
