use Rattle.destroy.proofs.BuryNames.{continues_more, rooms_more, still_at, all_buried}
use Rattle.destroy.proofs.burials.bury_asked.Goals as goal

pub bury-requires : goal.bury-requires
bury-requires c = record {
  at = still_at c.args.world.now c.loop-port.turns c.loop-port.world c.requires c.loop-port.invariant.0;
  doomed = c.in-Some.ensures.some;
}

pub loop-port-preserved : goal.loop-port-preserved
loop-port-preserved c = (
  continues_more c.args.world.now c.loop-port.turns c.loop-port.world c.bury.result c.bury.new.world c.loop-port.invariant.0 c.bury.ensures.turns _ c.saturating_add-turns.ensures,
  rooms_more c.args.world.now c.loop-port.world c.bury.new.world c.loop-port.invariant.1 c.bury.ensures.rooms,
)

pub returns-clause-continues : goal.returns-clause-continues
returns-clause-continues c = all_buried c.args.world.now c.loop-port.turns c.loop-port.world c.loop-port.invariant.0 c.in_default.ensures.none c.in_default.ensures.all

pub returns-clause-rooms : goal.returns-clause-rooms
returns-clause-rooms c = c.loop-port.invariant.1

pub returns-clause-doomed : goal.returns-clause-doomed
returns-clause-doomed c = c.in_default.ensures.all
