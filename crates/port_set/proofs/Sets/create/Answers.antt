use Rattle.std.proofs.Common.{ap, ◌∙◌}
use Rattle.std.specs.FinMap as map
use Rattle.number_map.specs.Maps.{MapView}
use Rattle.port_set.specs.declared.SetRecord.{SetRecord}
use Rattle.port_set.proofs.Changed.{kept-came}
use Rattle.port_set.proofs.Sets.create.Goals as goal

pub invariant_of-self-2 : goal.invariant_of-self-2
invariant_of-self-2 c =
    let r : SetRecord = record { owner = c.args.owner; name = c.args.name } in
    kept-came c.self.inside.records.map c.self.inside.next c.self.invariant c.unwrap-number.result c.checked_add-self-inside.result c.unwrap-number.ensures c.checked_add-self-inside.ensures
    c.insert.new.self.map r
    (ap (λ (w : MapView SetRecord). w.map) c.insert.ensures ∙ ap (λ (w : MapView SetRecord). map.insert w.map c.unwrap-number.result r) c.in_ok-reserve.ensures.ok)
