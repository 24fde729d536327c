use Rattle.std.proofs.Common.{ap, sym, ◌∙◌}
use Rattle.mach_types.specs.declared.rights.Disposition.{Disposition}
use Rattle.mach_types.specs.declared.rights.Disposition.TheVariants.{MakeSend}
use Rattle.rights.specs.declared.RightKind.TheVariants as right
use Rattle.rights.specs.Ledger.{made}
use Rattle.copyin_base.specs.declared.Mark.{Mark}
use Rattle.copyin_base.specs.Worlds.{WorldView, port_at}
use Rattle.copyin_base.proofs.Told.{port_got}
use Rattle.copyin.specs.Copies.{port_copied, ports_copied, ledger_copied}
use Rattle.copyin.proofs.carry_out.count_copied.Goals as goal

pub returns-in-MakeSend : goal.returns-in-MakeSend
returns-in-MakeSend c =
    let w : WorldView = c.args.world.now in
    let found = port_got (port_at w c.in-Port.port) c.make_send.ensures.there in
    c.make_send.ensures.after found.0 found.1
    ∙ ap (λ o. record w { ports = port_copied MakeSend c.in-Port.port w.ports o; ledger = made w.ledger c.in-Port.port right.Send 1 }) (sym found.1)
    ∙ ap (λ (m : Mark). record w { ports = ports_copied MakeSend m w.ports; ledger = ledger_copied MakeSend m w.ledger }) (sym c.in-Port.is)
    ∙ ap (λ (d : Disposition). record w { ports = ports_copied d c.args.carried.mark w.ports; ledger = ledger_copied d c.args.carried.mark w.ledger }) (sym c.in-MakeSend.is)
