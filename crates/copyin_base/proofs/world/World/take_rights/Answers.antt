use Rattle.std.proofs.Common.{◌≤◌, refl, sym, subst}
use Rattle.rights.specs.declared.Counts.{Counts}
use Rattle.rights.specs.Counts.{number_of, with_fewer}
use Rattle.rights.specs.Ledger.{LedgerView, taken}
use Rattle.rights.proofs.Changing.{counted-fewer, fewer_within}
use Rattle.port.specs.Ports.{rights_for}
use Rattle.copyin_base.proofs.Recounted.{is_entered, own_is, given_recounted, sums_are, counts_put, recounted_written}
use Rattle.copyin_base.proofs.world.World.take_rights.Goals as goal

pub take-requires-clause-all : goal.take-requires-clause-all
take-requires-clause-all c =
    let i = c.self.inside in
    let some = subst (λ (k : Counts). c.args.number ≤ number_of c.args.kind k) (sym (own_is c.args.self.now i.spaces.items i.ports i.ledger i.sets i.requests c.self.view_is c.args.port)) c.requires.there in
    (fewer_within i.ports.counts i.ledger.total i.ledger.unused c.self.invariant.1 c.args.port (is_entered c.args.self.now i.spaces.items i.ports i.ledger i.sets i.requests c.self.view_is c.args.port c.requires.entered) c.args.kind c.args.number some).0

pub take-requires-clause-once : goal.take-requires-clause-once
take-requires-clause-once c =
    let i = c.self.inside in
    let some = subst (λ (k : Counts). c.args.number ≤ number_of c.args.kind k) (sym (own_is c.args.self.now i.spaces.items i.ports i.ledger i.sets i.requests c.self.view_is c.args.port)) c.requires.there in
    (fewer_within i.ports.counts i.ledger.total i.ledger.unused c.self.invariant.1 c.args.port (is_entered c.args.self.now i.spaces.items i.ports i.ledger i.sets i.requests c.self.view_is c.args.port c.requires.entered) c.args.kind c.args.number some).1

pub take_rights-requires-clause-there : goal.take_rights-requires-clause-there
take_rights-requires-clause-there c = let i = c.self.inside in is_entered c.args.self.now i.spaces.items i.ports i.ledger i.sets i.requests c.self.view_is c.args.port c.requires.entered

pub take_rights-requires-clause-some : goal.take_rights-requires-clause-some
take_rights-requires-clause-some c =
    let i = c.self.inside in
    subst (λ (k : Counts). c.args.number ≤ number_of c.args.kind k) (sym (own_is c.args.self.now i.spaces.items i.ports i.ledger i.sets i.requests c.self.view_is c.args.port)) c.requires.there

pub invariant_of-self : goal.invariant_of-self
invariant_of-self c =
    let i = c.self.inside in
    let some = subst (λ (k : Counts). c.args.number ≤ number_of c.args.kind k) (sym (own_is c.args.self.now i.spaces.items i.ports i.ledger i.sets i.requests c.self.view_is c.args.port)) c.requires.there in
    let fewer = counted-fewer i.ports.counts i.ledger.total i.ledger.unused c.self.invariant.1 c.args.port (is_entered c.args.self.now i.spaces.items i.ports i.ledger i.sets i.requests c.self.view_is c.args.port c.requires.entered) c.args.kind c.args.number some in
    (given_recounted i.spaces.items i.ports c.args.port (with_fewer c.args.kind c.args.number (rights_for i.ports c.args.port)) c.take_rights.ensures c.self.invariant.0, sums_are (counts_put i.ports c.args.port (with_fewer c.args.kind c.args.number (rights_for i.ports c.args.port)) c.take_rights.ensures) c.take.ensures fewer)

pub returns : goal.returns
returns c =
    let i = c.self.inside in
    recounted_written c.args.self.now i.spaces.items i.ports i.ledger i.sets i.requests c.self.view_is c.args.port (with_fewer c.args.kind c.args.number (rights_for i.ports c.args.port)) c.take_rights.ensures c.take.ensures (λ (l : LedgerView). taken l c.args.port c.args.kind c.args.number) refl
