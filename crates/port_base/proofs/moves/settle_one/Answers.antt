use Rattle.std.proofs.Common.{◌∷◌}
use Rattle.shared_lists.specs.Shared.{more_of}
use Rattle.port_base.specs.declared.Membership.TheVariants.{Several}
use Rattle.port_base.proofs.Settled.{room_out, settled_new, settled_there}
use Rattle.port_base.proofs.moves.settle_one.Goals as goal

pub lead-requires-clause-first : goal.lead-requires-clause-first
lead-requires-clause-first c = c.requires.home.0

pub lead-requires-clause-there : goal.lead-requires-clause-there
lead-requires-clause-there c = c.is_one_of.ensures.yes c.if-is_one_of.true

pub leave_further-requires : goal.leave_further-requires
leave_further-requires c = record { ready = c.lead.ensures.1.ready }

pub leave_all-requires-clause-first : goal.leave_all-requires-clause-first
leave_all-requires-clause-first c = c.requires.home.0

pub enter-requires-clause-room : goal.enter-requires-clause-room
enter-requires-clause-room c = room_out c.args.sets.now c.leave_all.new.self (c.args.first ∷ more_of c.args.sets.now c.args.key) c.args.key c.args.is_ready c.leave_all.ensures.after c.requires.room

pub enter-requires-clause-apart : goal.enter-requires-clause-apart
enter-requires-clause-apart c = c.leave_all.ensures.apart

pub returns-then-is_one_of : goal.returns-then-is_one_of
returns-then-is_one_of c = settled_there c.args.sets.now c.leave_further.new.sets c.args.key c.args.set c.args.is_ready c.args.first c.lead.ensures.0 c.lead.new.sets c.lead.ensures.1 c.lead.ensures.2 c.leave_further.ensures.lists c.leave_further.ensures.none (c.leave_further.ensures.first c.args.set c.lead.ensures.1.first) c.leave_further.ensures.others

pub returns-else-is_one_of : goal.returns-else-is_one_of
returns-else-is_one_of c = settled_new c.args.sets.now c.enter.new.self c.args.key c.args.set c.args.is_ready c.leave_all.new.self (Several c.args.first) c.leave_all.ensures.after c.leave_all.ensures.none c.leave_all.ensures.others (c.is_one_of.ensures.no c.if-is_one_of.false) c.enter.ensures
