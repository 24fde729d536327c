use Rattle.std.proofs.Common.{ap, ◌∙◌}
use Rattle.std.specs.FinMap as map
use Rattle.number_map.specs.Maps.{MapView}
use Rattle.port_set.specs.declared.SetRecord.{SetRecord}
use Rattle.port_set.proofs.Changed.{kept-out}
use Rattle.port_set.proofs.Sets.remove.Goals as goal

pub invariant_of-self : goal.invariant_of-self
invariant_of-self c =
    kept-out c.self.inside.records.map c.self.inside.next c.self.invariant c.args.set c.remove.new.self.map
    (ap (λ (w : MapView SetRecord). w.map) c.remove.ensures.after ∙ ap (map.remove c.self.inside.records.map) c.number.ensures)
