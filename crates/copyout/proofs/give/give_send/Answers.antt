use Rattle.std.proofs.Common.{◌≤◌, sym, ap, subst}
use Rattle.mach_types.specs.Numbers.{kind_sent}
use Rattle.rights.specs.Ledger.{LedgerView, IsEntered, counts_of}
use Rattle.copyin_base.specs.Worlds.{WorldView}
use Rattle.copyout.specs.Giving.{GivesPort}
use Rattle.copyout.specs.Ready.{CanTakeName}
use Rattle.copyout.proofs.PortsGiven.{can_take}
use Rattle.copyout.proofs.Gives.{gives-added}
use Rattle.copyout.proofs.give.give_send.Goals as goal

pub drop_pegged-requires-clause-entered : goal.drop_pegged-requires-clause-entered
drop_pegged-requires-clause-entered c =
    subst (λ (m : LedgerView). IsEntered m c.args.port) (sym (ap (λ (x : WorldView). x.ledger) c.in-Some.ensures.found.rest)) c.requires.can.entered

pub drop_pegged-requires-clause-counted : goal.drop_pegged-requires-clause-counted
drop_pegged-requires-clause-counted c =
    λ sent. subst (λ (m : LedgerView). 1 ≤ (counts_of m c.args.port).send) (sym (ap (λ (x : WorldView). x.ledger) c.in-Some.ensures.found.rest)) (c.requires.can.counted sent)

pub take_name-requires : goal.take_name-requires
take_name-requires c =
    let r = c.requires.can in
    subst (λ (x : WorldView). CanTakeName x c.args.task (kind_sent c.args.given) c.args.port) (sym c.in-None.ensures.same)
    (can_take c.args.world.now c.args.task (kind_sent c.args.given) c.args.port r (λ not_once. c.in-None.ensures.none r.space r.there))

pub returns-in-Some : goal.returns-in-Some
returns-in-Some c = gives-added c.args.world.now c.add_send.new.self c.drop_pegged.new.world c.args.task (kind_sent c.args.given) c.args.port c.in-Some.named.name c.in-Some.named.entry
    c.requires.sent c.in-Some.ensures.found c.drop_pegged.ensures

pub returns-in-None : goal.returns-in-None
returns-in-None c = subst (λ (x : WorldView). GivesPort x c.args.task (kind_sent c.args.given) c.args.port c.take_name.result c.take_name.new.world) c.in-None.ensures.same c.take_name.ensures
