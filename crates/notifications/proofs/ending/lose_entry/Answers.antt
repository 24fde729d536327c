use Rattle.std.proofs.Common.{ℕ, sym, subst}
use Rattle.name_space.specs.declared.Entry.{Entry}
use Rattle.copyin_base.specs.Losing.{LosesSends}
use Rattle.notifications.specs.Ending.{CanLoseEntry, LosesEntry}
use Rattle.notifications.proofs.NameLost.{lose_then}
use Rattle.notifications.proofs.ending.lose_entry.Goals as goal

pub lose_receive-requires-in-ReceiveAndSend : goal.lose_receive-requires-in-ReceiveAndSend
lose_receive-requires-in-ReceiveAndSend c =
    let can = subst (CanLoseEntry c.args.world.now) c.in-ReceiveAndSend.is c.requires in
    lose_then c.args.world.now c.lose_sends-in-ReceiveAndSend.new.self c.in-ReceiveAndSend.port c.count-in-ReceiveAndSend.result c.lose_sends-in-ReceiveAndSend.ensures can.2

pub returns-in-ReceiveAndSend : goal.returns-in-ReceiveAndSend
returns-in-ReceiveAndSend c = subst (λ (e : Entry). LosesEntry c.args.world.now e c.lose_receive-in-ReceiveAndSend.new.self) (sym c.in-ReceiveAndSend.is)
    (c.lose_sends-in-ReceiveAndSend.new.self, subst (λ (n : ℕ). LosesSends c.args.world.now c.in-ReceiveAndSend.port n c.lose_sends-in-ReceiveAndSend.new.self) c.count-in-ReceiveAndSend.ensures.value c.lose_sends-in-ReceiveAndSend.ensures, c.lose_receive-in-ReceiveAndSend.ensures)
