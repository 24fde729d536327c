use Rattle.std.proofs.Common.{sym, subst, ◌≤◌}
use Rattle.std.specs.FinMap as map
use Rattle.mach_types.specs.Numbers.{most_names}
use Rattle.name_space.specs.Names.{IsFreshName}
use Rattle.name_space.specs.Plain.{PlainView}
use Rattle.name_space.proofs.Gathered.{fresh-joined}
use Rattle.name_space.proofs.plain.Plain.fresh.Goals as goal

pub returns-clause-fresh : goal.returns-clause-fresh
returns-clause-fresh c = λ few.
    subst (IsFreshName c.args.self.now.names) (sym c.new.ensures)
    (subst (λ (v : PlainView). map.len v.names ≤ most_names → IsFreshName v.names c.first_free.result) c.self.view_is
    (fresh-joined c.self.inside.low.values c.self.inside.high.names c.self.invariant.low_names c.self.invariant.high_names c.first_free.result c.first_free.ensures.first c.first_free.ensures.bound) few)
