use Rattle.std.proofs.Common.{arith}
use Rattle.destroy.proofs.BuryNames.{continues_more, rooms_more, still_at, all_buried}
use Rattle.destroy.proofs.burials.bury_unasked.Goals as goal

pub bury_silently-requires-clause-next : goal.bury_silently-requires-clause-next
bury_silently-requires-clause-next c = record {
  at = still_at c.args.world.now 0 c.loop-port.world c.requires.at c.loop-port.invariant.0;
  doomed = c.in-Some.ensures.some;
}

pub loop-port-preserved : goal.loop-port-preserved
loop-port-preserved c = (
  continues_more c.args.world.now 0 c.loop-port.world 0 c.bury_silently.new.world c.loop-port.invariant.0 c.bury_silently.ensures.turns 0 (omega arith),
  rooms_more c.args.world.now c.loop-port.world c.bury_silently.new.world c.loop-port.invariant.1 c.bury_silently.ensures.rooms,
  c.bury_silently.ensures.unasked,
)

pub returns-clause-continues : goal.returns-clause-continues
returns-clause-continues c = all_buried c.args.world.now 0 c.loop-port.world c.loop-port.invariant.0 c.in_default.ensures.none c.in_default.ensures.all

pub returns-clause-rooms : goal.returns-clause-rooms
returns-clause-rooms c = c.loop-port.invariant.1

pub returns-clause-doomed : goal.returns-clause-doomed
returns-clause-doomed c = c.in_default.ensures.all
