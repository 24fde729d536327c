use Rattle.std.proofs.Common.{refl}
use Rattle.copyout.proofs.Fronts.{no_front, has_first, has_number}
use Rattle.copyout.proofs.receipt.front.Goals as goal

pub unreachable-requires : goal.unreachable-requires
unreachable-requires c = let f = c.requires in no_front c.args.world.now c.args.world.now.ports refl c.args.found.port c.in-None.ensures.none f.0 f.1

pub returns-clause-front : goal.returns-clause-front
returns-clause-front c =
    has_first c.args.world.now c.args.world.now.ports refl c.args.found.port c.in-Some.front.0.now c.in-Some.front.1 c.in-Some.ensures.some

pub returns-clause-numbered : goal.returns-clause-numbered
returns-clause-numbered c =
    has_number c.args.world.now c.args.world.now.ports refl c.args.found.port c.in-Some.front.0.now c.in-Some.front.1 c.in-Some.ensures.some
