use Rattle.std.proofs.Common.{ap, sym, ◌∙◌}
use Rattle.std.specs.FinMap as map
use Rattle.name_space.specs.Plain.{PlainView}
use Rattle.name_space.proofs.Gathered.{at_low}
use Rattle.name_space.proofs.plain.Plain.get_low.Goals as goal

pub returns : goal.returns
returns c =
    c.get.ensures ∙ sym (at_low c.self.inside.low.values c.self.inside.high.names c.self.invariant.low_names c.self.invariant.high_names c.args.name c.requires)
    ∙ ap (λ (v : PlainView). map.get v.names c.args.name) c.self.view_is
