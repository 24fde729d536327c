use Rattle.std.proofs.Common.{◌∙◌}
use Rattle.name_space_base.proofs.Options.{unless}
use Rattle.name_space_base.proofs.Tree.{out-tree}
use Rattle.name_space_base.proofs.Apart.{seen_kept, seen_other, view_out, view_out_kept, apart_out}
use Rattle.name_space_base.proofs.high.High.remove.Goals as goal

pub invariant_of-self-else-keeps : goal.invariant_of-self-else-keeps
invariant_of-self-else-keeps g c =
    apart_out c.self.inside.others.entries c.self.inside.kept c.self.inside.value c.args.self.now c.self.view_is c.remove.new.self.entries c.args.name c.self.invariant (unless c.keeps.result c.keeps.ensures.1 c.if-keeps.false)
    (out-tree c.self.inside.others.entries c.remove.new.self.entries c.args.name c.remove.ensures.updates.0)

pub returns-then-keeps-clause-value : goal.returns-then-keeps-clause-value
returns-then-keeps-clause-value g c = c.take.ensures.value ∙ seen_kept c.self.inside.others.entries c.self.inside.kept c.self.inside.value c.args.self.now c.self.view_is c.args.name (c.keeps.ensures.0 c.if-keeps.true)

pub returns-then-keeps-clause-after : goal.returns-then-keeps-clause-after
returns-then-keeps-clause-after g c = rw c.take.ensures.after (view_out_kept c.self.inside.others.entries c.self.inside.kept c.self.inside.value c.args.self.now c.self.view_is c.args.name (c.keeps.ensures.0 c.if-keeps.true))

pub returns-else-keeps-clause-value : goal.returns-else-keeps-clause-value
returns-else-keeps-clause-value g c = c.remove.ensures.value ∙ seen_other c.self.inside.others.entries c.self.inside.kept c.self.inside.value c.args.self.now c.self.view_is c.args.name (unless c.keeps.result c.keeps.ensures.1 c.if-keeps.false)

pub returns-else-keeps-clause-after : goal.returns-else-keeps-clause-after
returns-else-keeps-clause-after g c =
    view_out c.self.inside.others.entries c.self.inside.kept c.self.inside.value c.args.self.now c.self.view_is c.remove.new.self.entries c.args.name (unless c.keeps.result c.keeps.ensures.1 c.if-keeps.false)
    (out-tree c.self.inside.others.entries c.remove.new.self.entries c.args.name c.remove.ensures.updates.0)
