use Rattle.std.proofs.Common.{◌≡◌, ◌≤◌, ◌∙◌, ap, sym, subst, Some}
use Rattle.std.specs.Prelude.{is_some}
use Rattle.mach_types.specs.Numbers.{kind_sent}
use Rattle.rights.specs.Ledger.{LedgerView, IsEntered, counts_of}
use Rattle.copyin_base.specs.Worlds.{WorldView, space_at, port_at}
use Rattle.copyout.specs.Giving.{ledger_joined, ports_given}
use Rattle.copyout.proofs.Gives.{found_in, named_in, can_replace, gives-joined}
use Rattle.copyout.proofs.PortsGiven.{given_live}
use Rattle.copyout.proofs.give.join.Goals as goal

pub drop_pegged-requires-clause-entered : goal.drop_pegged-requires-clause-entered
drop_pegged-requires-clause-entered c = subst (λ (m : LedgerView). IsEntered m c.args.port) (sym (ap (λ (x : WorldView). x.ledger) c.hold.ensures)) c.requires.can.entered

pub drop_pegged-requires-clause-counted : goal.drop_pegged-requires-clause-counted
drop_pegged-requires-clause-counted c =
    λ sent. subst (λ (m : LedgerView). 1 ≤ (counts_of m c.args.port).send) (sym (ap (λ (x : WorldView). x.ledger) c.hold.ensures)) (c.requires.can.counted sent)

pub put_left-requires : goal.put_left-requires
put_left-requires c =
    let r = c.requires.can in
    let there : space_at c.drop_pegged.new.world c.args.task ≡ Some r.space =
    ap (λ (x : WorldView). space_at x c.args.task) c.drop_pegged.ensures ∙ ap (λ (x : WorldView). space_at x c.args.task) c.hold.ensures ∙ r.there in
    let found = found_in c.args.world.now c.args.task c.args.named.now.name r.space c.args.named.now.entry r.there c.requires.found in
    can_replace c.drop_pegged.new.world c.args.task (kind_sent c.args.given) c.args.port c.args.named.now.name c.args.named.now.entry c.joined.result r.space there c.joined.ensures found
    (named_in r.space.names c.args.named.now.name c.args.port c.args.named.now.entry found r.named)
    (ap (λ (x : WorldView). is_some (port_at x c.args.port)) c.drop_pegged.ensures ∙ ap (λ (x : WorldView). is_some (port_at x c.args.port)) c.hold.ensures
    ∙ given_live c.args.task c.args.port c.args.world.now.ports (kind_sent c.args.given) c.args.port ∙ r.live)

pub returns : goal.returns
returns c =
    let r = c.requires.can in
    let found = found_in c.args.world.now c.args.task c.args.named.now.name r.space c.args.named.now.entry r.there c.requires.found in
    let named = named_in r.space.names c.args.named.now.name c.args.port c.args.named.now.entry found r.named in
    let dropped : c.drop_pegged.new.world ≡ record c.args.world.now {
      ports = ports_given (kind_sent c.args.given) c.args.task c.args.port c.args.world.now.ports;
      ledger = ledger_joined (kind_sent c.args.given) c.args.port c.args.named.now.entry c.args.world.now.ledger;
    } = c.drop_pegged.ensures ∙ ap (λ (x : WorldView). record x { ledger = ledger_joined (kind_sent c.args.given) c.args.port c.args.named.now.entry x.ledger }) c.hold.ensures in
    gives-joined c.args.world.now c.drop_pegged.new.world c.put_left.new.self c.args.task (kind_sent c.args.given) c.args.port c.args.named.now.name c.args.named.now.entry c.joined.result r.space
    r.there c.joined.ensures dropped c.put_left.ensures r.not_once found named
