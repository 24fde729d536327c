use Rattle.std.proofs.Common.{refl, arith}
use Rattle.rights.specs.Counts.{with_more}
use Rattle.rights.specs.Ledger.{LedgerView, made}
use Rattle.rights.proofs.Changing.{counted-more, more_fits}
use Rattle.rights.proofs.Found.{unused-within}
use Rattle.port.specs.Ports.{rights_for}
use Rattle.copyin_base.proofs.Recounted.{is_entered, total_is, given_recounted, sums_are, counts_put, recounted_written}
use Rattle.copyin_base.proofs.world.World.make_rights.Goals as goal

pub make-requires : goal.make-requires
make-requires c = let i = c.self.inside in unused-within i.ports.counts i.ledger.total i.ledger.unused c.self.invariant.1

pub add_rights-requires-clause-there : goal.add_rights-requires-clause-there
add_rights-requires-clause-there c = let i = c.self.inside in is_entered c.args.self.now i.spaces.items i.ports i.ledger i.sets i.requests c.self.view_is c.args.found.port c.requires

pub add_rights-requires-clause-fits : goal.add_rights-requires-clause-fits
add_rights-requires-clause-fits c =
    let i = c.self.inside in
    more_fits i.ports.counts i.ledger.total i.ledger.unused c.self.invariant.1 c.args.found.port (is_entered c.args.self.now i.spaces.items i.ports i.ledger i.sets i.requests c.self.view_is c.args.found.port c.requires) c.args.number c.in_ok-make.ensures.refused

pub invariant_of-self-2 : goal.invariant_of-self-2
invariant_of-self-2 c =
    let i = c.self.inside in
    let more = counted-more i.ports.counts i.ledger.total i.ledger.unused c.self.invariant.1 c.args.found.port (is_entered c.args.self.now i.spaces.items i.ports i.ledger i.sets i.requests c.self.view_is c.args.found.port c.requires) c.args.kind c.args.number in
    (given_recounted i.spaces.items i.ports c.args.found.port (with_more c.args.kind c.args.number (rights_for i.ports c.args.found.port)) c.add_rights.ensures c.self.invariant.0, sums_are (counts_put i.ports c.args.found.port (with_more c.args.kind c.args.number (rights_for i.ports c.args.found.port)) c.add_rights.ensures) c.in_ok-make.ensures.ok more)

pub returns-clause-ok : goal.returns-clause-ok
returns-clause-ok c =
    let i = c.self.inside in
    recounted_written c.args.self.now i.spaces.items i.ports i.ledger i.sets i.requests c.self.view_is c.args.found.port (with_more c.args.kind c.args.number (rights_for i.ports c.args.found.port)) c.add_rights.ensures c.in_ok-make.ensures.ok (λ (l : LedgerView). made l c.args.found.port c.args.kind c.args.number) refl

pub returns-clause-refused : goal.returns-clause-refused
returns-clause-refused c =
    let i = c.self.inside in
    let total = total_is c.args.self.now i.spaces.items i.ports i.ledger i.sets i.requests c.self.view_is c.args.found.port in
    let few = c.in_ok-make.ensures.refused in
    omega (arith, total, few)
