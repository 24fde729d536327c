use Rattle.std.proofs.Common.{ap, sym, ◌∙◌}
use Rattle.std.specs.FinMap as map
use Rattle.member_lists.proofs.Values.{len-with_values}
use Rattle.slab.specs.Slab.{get}
use Rattle.shared_lists.specs.Shared.{more_of}
use Rattle.port.specs.Ports.{PortsView}
use Rattle.port.specs.Records.{port_in}
use Rattle.port.proofs.Sound.{bare_is}
use Rattle.port.proofs.Ports.len.Goals as goal

pub returns : goal.returns
returns g c = c.len.ensures ∙ sym (len-with_values (λ k. port_in (get c.self.inside.records k) (more_of c.self.inside.sets k)) c.self.inside.by_id.map) ∙ ap (λ (b : PortsView g.row.M.Denot). map.len b.ports) (bare_is c.self.view_is)
