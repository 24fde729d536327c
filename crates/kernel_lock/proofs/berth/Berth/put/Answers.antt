use Rattle.std.proofs.Common.{◌∷◌, Some, ◌∙◌, arith}
use Rattle.atomic_table.specs.Table.{rest}
use Rattle.kernel_lock.proofs.Berths.{puts}
use Rattle.kernel_lock.proofs.berth.Berth.put.Goals as goal

pub store-requires : goal.store-requires
store-requires c =
    let x = c.exchange.ensures in
    let b = c.args.self.now in
    (x.0 ∙ c.requires.hand.0, omega (arith, b.sizes.0), puts _ _ _ _ c.args.hand.me.0 c.args.kernel (x.3 ∙ (λ i. (c.args.hand.me.0, (0, Some c.args.kernel) ∷ rest (c.requires.hand.1 i)))) b.sizes.1 c.requires.kernel)
