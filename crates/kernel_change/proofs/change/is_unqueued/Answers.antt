use Rattle.std.proofs.Common.{◌≡◌, ℕ, ◌∙◌, Option, Some, None, length, refl, sym}
use Rattle.std.proofs.lemmas.Bool.{eqb-true, eq-eqb}
use Rattle.port.specs.Ports.{PortView}
use Rattle.copyin_base.specs.Kept.{Kept}
use Rattle.copyin_base.specs.Worlds.{port_at}
use Rattle.kernel_change.proofs.change.is_unqueued.Goals as goal

-- a port without messages, or one that is gone, has 0
counts_none : (n : ℕ) (o : Option (PortView Kept)) → ((p : PortView Kept) → o ≡ Some p → n ≡ length p.queue) → (o ≡ None → n ≡ 0) → ((p : PortView Kept) → o ≡ Some p → length p.queue ≡ 0) → n ≡ 0
counts_none n None live gone none = gone refl
counts_none n (Some p) live gone none = live p refl ∙ none p refl

pub returns : goal.returns
returns c =
    let n = c.queued.result in
    let counted = c.queued.ensures in (
      λ is p there. sym (counted.live p there) ∙ eqb-true n 0 is,
      λ none. eq-eqb n 0 (counts_none n (port_at c.args.world.now c.args.port) counted.live counted.gone none),
    )
