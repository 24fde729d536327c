use Rattle.std.proofs.Common.{◌∙◌, ap, refl}
use Rattle.name_space.specs.declared.Entry.{Entry}
use Rattle.name_space_base.specs.High.{HighView}
use Rattle.name_space.proofs.Tables.{laid-out_high, seen_high, view-out_high}
use Rattle.name_space.proofs.plain.Plain.remove_high.Goals as goal

pub invariant_of-self : goal.invariant_of-self
invariant_of-self c = laid-out_high c.self.inside.low c.self.inside.high c.self.inside.room c.self.inside.kept c.self.invariant c.remove.new.self c.args.name c.remove.ensures.after

pub returns-clause-value : goal.returns-clause-value
returns-clause-value c = c.remove.ensures.value ∙ seen_high c.self.inside.low c.self.inside.high c.self.inside.room c.self.inside.kept c.self.invariant c.args.self.now c.self.view_is c.args.name c.args.name refl c.requires

pub returns-clause-after : goal.returns-clause-after
returns-clause-after c = view-out_high c.self.inside.low c.self.inside.high c.self.inside.room c.self.inside.kept c.self.invariant c.args.self.now c.self.view_is c.args.name c.args.name refl c.remove.new.self.names (ap (λ (a : HighView Entry). a.names) c.remove.ensures.after) c.requires
