use Rattle.std.proofs.Common.{◌∙◌}
use Rattle.member_lists.specs.Lists.{without}
use Rattle.destroy.proofs.BuryNames.{none_queued, is_entered, removed_buried, bury_continues, bury_rooms, bury_fewer}
use Rattle.destroy.proofs.BurySteps.{unasked_ended}
use Rattle.destroy.proofs.burials.bury_silently.Goals as goal

pub remove_port-requires-clause-empty : goal.remove_port-requires-clause-empty
remove_port-requires-clause-empty c = none_queued c.args.port c.args.world.now c.requires.next

pub remove_port-requires-clause-entered : goal.remove_port-requires-clause-entered
remove_port-requires-clause-entered c = is_entered c.args.port c.args.world.now c.requires.next

pub returns-clause-turns : goal.returns-clause-turns
returns-clause-turns c = bury_continues c.args.port c.args.world.now c.args.world.now 0 (unasked_ended c.args.port c.args.world.now c.requires.next c.requires.unasked) _ (without c.args.port c.args.world.now.ports.doomed)
    (c.remove_port.ensures ∙ removed_buried c.args.world.now c.args.port c.requires.next)

pub returns-clause-fewer : goal.returns-clause-fewer
returns-clause-fewer c = bury_fewer c.args.port c.args.world.now c.args.world.now 0 (unasked_ended c.args.port c.args.world.now c.requires.next c.requires.unasked) _ (without c.args.port c.args.world.now.ports.doomed)
    (c.remove_port.ensures ∙ removed_buried c.args.world.now c.args.port c.requires.next)

pub returns-clause-rooms : goal.returns-clause-rooms
returns-clause-rooms c = bury_rooms c.args.port c.args.world.now c.args.world.now 0 (unasked_ended c.args.port c.args.world.now c.requires.next c.requires.unasked) _ (without c.args.port c.args.world.now.ports.doomed)
    (c.remove_port.ensures ∙ removed_buried c.args.world.now c.args.port c.requires.next)
