use Rattle.std.proofs.Common.{◌≡◌, sym, subst, ◌∙◌, arith}
use Rattle.name_space_base.specs.Pages.{IsNextUsed}
use Rattle.name_space_base.proofs.Options.{same_some}
use Rattle.name_space_base.proofs.Apart.{least_next, others_next, no_next}
use Rattle.name_space_base.proofs.high.High.next.Goals as goal

pub returns-in-Some-clause-found : goal.returns-in-Some-clause-found
returns-in-Some-clause-found g c =
    subst (IsNextUsed c.args.self.now.names c.args.from) (sym c.least.ensures)
    (least_next c.self.inside.others.entries c.self.inside.kept c.self.inside.value c.args.self.now c.self.view_is c.args.from c.in-Some.kept c.next_in-other.result c.self.invariant c.in-Some.ensures.found.0 c.in-Some.ensures.found.1 c.if-from-kept.true c.next_in-other.ensures.found c.next_in-other.ensures.none)

pub returns-in_default-clause-found : goal.returns-in_default-clause-found
returns-in_default-clause-found g c =
    others_next c.self.inside.others.entries c.self.inside.kept c.self.inside.value c.args.self.now c.self.view_is c.args.from c.next_in-other.result c.self.invariant c.next_in-other.ensures.found
    (λ n a is. absurd (let same : n ≡ c.in-Some.kept = same_some n c.in-Some.kept (sym is ∙ c.in-Some.ensures.found.0) in let less = c.if-from-kept.false in omega arith))

pub returns-in_default-clause-none : goal.returns-in_default-clause-none
returns-in_default-clause-none g c =
    no_next c.self.inside.others.entries c.self.inside.kept c.self.inside.value c.args.self.now c.self.view_is c.args.from c.next_in-other.result c.next_in-other.ensures.none
    (λ n a is. absurd (let same : n ≡ c.in-Some.kept = same_some n c.in-Some.kept (sym is ∙ c.in-Some.ensures.found.0) in let less = c.if-from-kept.false in omega arith))

pub returns-in_default-2-clause-found : goal.returns-in_default-2-clause-found
returns-in_default-2-clause-found g c =
    others_next c.self.inside.others.entries c.self.inside.kept c.self.inside.value c.args.self.now c.self.view_is c.args.from c.next_in-other.result c.self.invariant c.next_in-other.ensures.found (λ n a is. c.in_default.ensures.none n is)

pub returns-in_default-2-clause-none : goal.returns-in_default-2-clause-none
returns-in_default-2-clause-none g c = no_next c.self.inside.others.entries c.self.inside.kept c.self.inside.value c.args.self.now c.self.view_is c.args.from c.next_in-other.result c.next_in-other.ensures.none (λ n a is. c.in_default.ensures.none n is)
