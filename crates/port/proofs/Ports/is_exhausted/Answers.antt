use Rattle.std.proofs.Common.{◌≡◌, ◌≤◌, ◌^◌, ap, subst, IsTrue}
use Rattle.port.specs.Ports.{PortsView}
use Rattle.port.specs.Records.{made_of}
use Rattle.port.proofs.Grown.{exhausted}
use Rattle.port.proofs.Sound.{bare_is}
use Rattle.port.proofs.Ports.is_exhausted.Goals as goal

pub returns : goal.returns
returns g c =
    let told = exhausted c.self.inside.next c.is_none.result c.is_none.ensures c.self.invariant.sound.next_fits in
    let made : made_of c.self.inside.next ≡ c.args.self.now.bare.made = ap (λ (b : PortsView g.row.M.Denot). b.made) (bare_is c.self.view_is) in
    subst (λ n. (IsTrue c.is_none.result → 2 ^ 64 ≤ n) × (2 ^ 64 ≤ n → IsTrue c.is_none.result)) made told
