use Rattle.std.proofs.Common.{ap}
use Rattle.number_map.specs.Maps.{MapView}
use Rattle.port_set.specs.declared.SetRecord.{SetRecord}
use Rattle.port_set.proofs.Changed.{kept-empty}
use Rattle.port_set.proofs.Sets.new.Goals as goal

pub invariant_of-result : goal.invariant_of-result
invariant_of-result c = kept-empty c.new.result.map (ap (λ (w : MapView SetRecord). w.map) c.new.ensures)
