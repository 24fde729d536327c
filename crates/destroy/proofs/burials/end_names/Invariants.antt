use Rattle.std.specs.FinMap as map
use Rattle.destroy.specs.Burying.{IsNone, EndsRequests}
use Rattle.destroy.proofs.burials.end_names.Given as goal

abbrev pub invariant-loop-request : goal.invariant-loop-request
invariant-loop-request l = EndsRequests l.fn.port IsNone l.fn.world l.turns l.world

abbrev pub decreases-loop-request : goal.decreases-loop-request
decreases-loop-request l = map.len l.world.requests.names.requests
