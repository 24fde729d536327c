use Rattle.std.proofs.Common.{ap, sym, ◌∙◌, is_some}
use Rattle.name_space_base.proofs.Apart.{kept_is, seen_kept}
use Rattle.name_space_base.proofs.high.High.kept_in_use.Goals as goal

pub returns-in-Some-clause-found : goal.returns-in-Some-clause-found
returns-in-Some-clause-found g c =
    let is = sym (kept_is c.self.inside.others.entries c.self.inside.kept c.self.inside.value c.args.self.now c.self.view_is) ∙ c.in_ok-kept.was in
    (is, ap is_some (sym (seen_kept c.self.inside.others.entries c.self.inside.kept c.self.inside.value c.args.self.now c.self.view_is c.in_ok-kept.kept is) ∙ c.in-Some.is))

pub returns-in-None-clause-none : goal.returns-in-None-clause-none
returns-in-None-clause-none g c = λ name is. sym (seen_kept c.self.inside.others.entries c.self.inside.kept c.self.inside.value c.args.self.now c.self.view_is name is) ∙ c.in-None.is
