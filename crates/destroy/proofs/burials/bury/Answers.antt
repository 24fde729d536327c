use Rattle.std.proofs.Common.{◌∙◌}
use Rattle.member_lists.specs.Lists.{without}
use Rattle.destroy.specs.Burying.{IsAny}
use Rattle.destroy.proofs.BuryNames.{still_next, none_queued, is_entered, removed_buried, bury_continues, bury_rooms, bury_fewer}
use Rattle.destroy.proofs.burials.bury.Goals as goal

pub remove_port-requires-clause-empty : goal.remove_port-requires-clause-empty
remove_port-requires-clause-empty c = none_queued c.args.port c.end_requests-turns.new.world (still_next c.args.port IsAny c.args.world.now c.end_requests-turns.result c.end_requests-turns.new.world c.requires c.end_requests-turns.ensures)

pub remove_port-requires-clause-entered : goal.remove_port-requires-clause-entered
remove_port-requires-clause-entered c = is_entered c.args.port c.end_requests-turns.new.world (still_next c.args.port IsAny c.args.world.now c.end_requests-turns.result c.end_requests-turns.new.world c.requires c.end_requests-turns.ensures)

pub returns-clause-turns : goal.returns-clause-turns
returns-clause-turns c = bury_continues c.args.port c.args.world.now c.end_requests-turns.new.world c.end_requests-turns.result c.end_requests-turns.ensures _ (without c.args.port c.end_requests-turns.new.world.ports.doomed)
    (c.remove_port.ensures ∙ removed_buried c.end_requests-turns.new.world c.args.port (still_next c.args.port IsAny c.args.world.now c.end_requests-turns.result c.end_requests-turns.new.world c.requires c.end_requests-turns.ensures))

pub returns-clause-fewer : goal.returns-clause-fewer
returns-clause-fewer c = bury_fewer c.args.port c.args.world.now c.end_requests-turns.new.world c.end_requests-turns.result c.end_requests-turns.ensures _ (without c.args.port c.end_requests-turns.new.world.ports.doomed)
    (c.remove_port.ensures ∙ removed_buried c.end_requests-turns.new.world c.args.port (still_next c.args.port IsAny c.args.world.now c.end_requests-turns.result c.end_requests-turns.new.world c.requires c.end_requests-turns.ensures))

pub returns-clause-rooms : goal.returns-clause-rooms
returns-clause-rooms c = bury_rooms c.args.port c.args.world.now c.end_requests-turns.new.world c.end_requests-turns.result c.end_requests-turns.ensures _ (without c.args.port c.end_requests-turns.new.world.ports.doomed)
    (c.remove_port.ensures ∙ removed_buried c.end_requests-turns.new.world c.args.port (still_next c.args.port IsAny c.args.world.now c.end_requests-turns.result c.end_requests-turns.new.world c.requires c.end_requests-turns.ensures))
