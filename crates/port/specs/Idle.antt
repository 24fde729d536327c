-- When the end of a step has nothing to look at.
use Rattle.std.specs.Prelude.{◌≡◌, []}
use Rattle.port.specs.Ports.{PortsView}

-- no port was lost, doomed or noted, and no message destroyed, but for those that were taken out again
pub record IsIdle {M : Type 0} (v : PortsView M) : Type 0 where
  pub lost : v.lost ≡ []
  pub doomed : v.doomed ≡ []
  pub noted : v.noted ≡ []
  pub destroyed : v.destroyed ≡ []
