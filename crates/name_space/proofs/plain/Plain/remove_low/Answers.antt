use Rattle.std.proofs.Common.{◌∙◌, ap, refl}
use Rattle.name_space_base.specs.Pages.{PagesView}
use Rattle.name_space.specs.declared.Entry.{Entry}
use Rattle.name_space.proofs.Tables.{laid-out_low, seen_low, view-out_low}
use Rattle.name_space.proofs.plain.Plain.remove_low.Goals as goal

pub invariant_of-self : goal.invariant_of-self
invariant_of-self c = laid-out_low c.self.inside.low c.self.inside.high c.self.inside.room c.self.inside.kept c.self.invariant c.remove.new.self c.args.name c.remove.ensures.after

pub returns-clause-value : goal.returns-clause-value
returns-clause-value c = c.remove.ensures.value ∙ seen_low c.self.inside.low c.self.inside.high c.self.inside.room c.self.inside.kept c.self.invariant c.args.self.now c.self.view_is c.args.name c.args.name refl c.requires

pub returns-clause-after : goal.returns-clause-after
returns-clause-after c = view-out_low c.self.inside.low c.self.inside.high c.self.inside.room c.self.inside.kept c.self.invariant c.args.self.now c.self.view_is c.args.name c.args.name refl c.remove.new.self.values (ap (λ (a : PagesView Entry). a.values) c.remove.ensures.after) c.requires
