use Rattle.std.proofs.Common.{ap, ◌∙◌, inl, inr, is_some}
use Rattle.name_space_base.proofs.Options.{unless}
use Rattle.name_space_base.proofs.Tree.{put-tree}
use Rattle.name_space_base.proofs.Apart.{seen_other, view_put, view_put_kept, apart_put}
use Rattle.name_space_base.proofs.high.High.put.Goals as goal

pub replace-requires : goal.replace-requires
replace-requires g c = elim c.requires.place [
  | inl there ↦ ap is_some (seen_other c.self.inside.others.entries c.self.inside.kept c.self.inside.value c.args.self.now c.self.view_is c.args.name (unless c.keeps.result c.keeps.ensures.1 c.if-keeps.false)) ∙ there
  | inr is ↦ absurd (unless c.keeps.result c.keeps.ensures.1 c.if-keeps.false is)
]

pub invariant_of-self-else-keeps : goal.invariant_of-self-else-keeps
invariant_of-self-else-keeps g c =
    apart_put c.self.inside.others.entries c.self.inside.kept c.self.inside.value c.args.self.now c.self.view_is c.replace.new.others.entries c.args.name c.args.value c.self.invariant (unless c.keeps.result c.keeps.ensures.1 c.if-keeps.false)
    (put-tree c.self.inside.others.entries c.replace.new.others.entries c.args.name c.args.value c.replace.ensures.0)

pub returns-then-keeps : goal.returns-then-keeps
returns-then-keeps g c = view_put_kept c.self.inside.others.entries c.self.inside.kept c.self.inside.value c.args.self.now c.self.view_is c.args.name c.args.value (c.keeps.ensures.0 c.if-keeps.true)

pub returns-else-keeps : goal.returns-else-keeps
returns-else-keeps g c =
    view_put c.self.inside.others.entries c.self.inside.kept c.self.inside.value c.args.self.now c.self.view_is c.replace.new.others.entries c.args.name c.args.value (unless c.keeps.result c.keeps.ensures.1 c.if-keeps.false)
    (put-tree c.self.inside.others.entries c.replace.new.others.entries c.args.name c.args.value c.replace.ensures.0)
