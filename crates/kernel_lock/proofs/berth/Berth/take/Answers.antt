use Rattle.std.proofs.Common.{◌∷◌, Some, sym, ap, ◌∙◌, arith}
use Rattle.atomic_table.specs.Table.{rest}
use Rattle.kernel_lock.proofs.Berths.{arrives}
use Rattle.kernel_lock.proofs.berth.Berth.take.Goals as goal

pub swap_new_seat-found-requires : goal.swap_new_seat-found-requires
swap_new_seat-found-requires c = let b = c.args.self.now in (omega (arith, b.sizes.0), arrives b.table.shared.key _ _)

pub exchange-requires : goal.exchange-requires
exchange-requires c = let t = c.swap_new_seat-found.ensures in let m = t.1 c.if-found-eq0.false in (t.0, (Some m.0, m.1 ∙ sym (ap (λ l. (0, Some m.0) ∷ rest l) m.1)))
