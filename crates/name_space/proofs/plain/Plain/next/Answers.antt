use Rattle.std.proofs.Common.{ap, subst}
use Rattle.name_space_base.specs.Pages.{IsNextUsed}
use Rattle.name_space.specs.Plain.{PlainView}
use Rattle.name_space.proofs.Gathered.{next-low, next-highs, next-none}
use Rattle.name_space.proofs.plain.Plain.next.Goals as goal

pub returns-in-Some-clause-found : goal.returns-in-Some-clause-found
returns-in-Some-clause-found c =
    subst (λ (v : PlainView). IsNextUsed v.names c.args.from c.in-Some.name) c.self.view_is
    (next-low c.self.inside.low.values c.self.inside.high.names c.self.invariant.low_names c.self.invariant.high_names c.args.from c.in-Some.name c.in-Some.ensures.found)

pub returns-in-None-clause-found : goal.returns-in-None-clause-found
returns-in-None-clause-found c = next-highs c.self.inside.low.values c.self.inside.high.names c.args.self.now.names (ap (λ (v : PlainView). v.names) c.self.view_is) c.args.from c.next.result c.in-None.ensures.none c.next.ensures.found

pub returns-in-None-clause-none : goal.returns-in-None-clause-none
returns-in-None-clause-none c = next-none c.self.inside.low.values c.self.inside.high.names c.args.self.now.names (ap (λ (v : PlainView). v.names) c.self.view_is) c.args.from c.next.result c.in-None.ensures.none c.next.ensures.none
