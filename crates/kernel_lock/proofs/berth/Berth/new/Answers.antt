use Rattle.std.proofs.Common.{refl, sym, ap}
use Rattle.std.specs.Prelude.{map}
use mathlib.Core.Option.{some}
use Rattle.kernel_lock.proofs.berth.Berth.new.Goals as goal

pub new-requires : goal.new-requires
new-requires c =
    let first = sym c.of-key.ensures in
    (1, refl, (λ _. (c.args.kernel, ap (map some) c.in_ok-slots.ensures, record { table = ap (λ k. k.table) first; profile = ap (λ k. k.profile) first; keeps = ap (λ k. k.keeps) first })))
