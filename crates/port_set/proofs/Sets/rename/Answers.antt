use Rattle.std.proofs.Common.{◌≡◌, true, ap, ◌∙◌}
use Rattle.std.specs.FinMap as map
use Rattle.number_map.specs.Maps.{MapView}
use Rattle.port_set.specs.declared.SetRecord.{SetRecord}
use Rattle.port_set.specs.Sets.{SetsView}
use Rattle.port_set.proofs.Changed.{kept-put}
use Rattle.port_set.proofs.Sets.rename.Goals as goal

pub invariant_of-self : goal.invariant_of-self
invariant_of-self c =
    let r : SetRecord = record { owner = c.unwrap-kept.result.owner; name = c.args.name } in
    let there : map.contains_key c.self.inside.records.map c.args.set ≡ true = ap (λ (v : SetsView). map.contains_key v.sets c.args.set) c.self.view_is ∙ c.requires in
    kept-put c.self.inside.records.map c.self.inside.next c.self.invariant c.args.set there c.set.new.self.map r
    (ap (λ (w : MapView SetRecord). w.map) c.set.ensures ∙ ap (λ set. map.insert c.self.inside.records.map set r) c.number.ensures)
