use Rattle.std.proofs.Common.{Some, ap, sym, ◌∙◌}
use Rattle.name_space_base.specs.High.{with_kept}
use Rattle.name_space_base.proofs.Tree.{tree, put-tree}
use Rattle.name_space_base.proofs.Apart.{none_apart}
use Rattle.name_space_base.proofs.high.lay_back.Goals as goal

pub returns-in_default-value-clause-ok : goal.returns-in_default-value-clause-ok
returns-in_default-value-clause-ok g c =
    sym (ap (λ e. with_kept c.args.kept e (tree c.args.others.now.entries)) c.in_default-value.is ∙ none_apart c.args.kept (tree c.args.others.now.entries) c.requires)

pub returns-clause-ok : goal.returns-clause-ok
returns-clause-ok g c =
    put-tree c.args.others.now.entries c.insert.new.self.entries c.in-Some.kept c.in-Some-value.value c.in_ok-insert.ensures.updates.0
    ∙ sym (ap (λ k. with_kept k c.args.value (tree c.args.others.now.entries)) c.in-Some.is
    ∙ ap (λ e. with_kept (Some c.in-Some.kept) e (tree c.args.others.now.entries)) c.in-Some-value.is)
