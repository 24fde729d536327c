use Rattle.copyin_base.proofs.Written.{placed_is_live}
use Rattle.copyin_base.proofs.Recounted.{ledger_of}
use Rattle.copyin_base.proofs.world.World.find_placed.Goals as goal

pub returns-clause-lives : goal.returns-clause-lives
returns-clause-lives c =
    let i = c.self.inside in
    placed_is_live c.args.self.now i.spaces.items i.ports.bare (ledger_of i.ports.counts i.ledger) i.sets i.requests c.self.view_is _ c.of.result c.args.name c.find.result c.of.ensures c.find.ensures.some
