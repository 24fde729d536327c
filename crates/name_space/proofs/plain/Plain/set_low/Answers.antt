use Rattle.std.proofs.Common.{◌∙◌, ap, is_some, refl}
use Rattle.name_space_base.specs.Pages.{PagesView}
use Rattle.name_space.specs.declared.Entry.{Entry}
use Rattle.name_space.proofs.Tables.{laid-set_low, seen_low, room_is, view-put_low}
use Rattle.name_space.proofs.plain.Plain.set_low.Goals as goal

pub set-requires : goal.set-requires
set-requires c = ap is_some (seen_low c.self.inside.low c.self.inside.high c.self.inside.room c.self.inside.kept c.self.invariant c.args.self.now c.self.view_is c.args.name c.args.name refl c.requires.small) ∙ c.requires.used

pub invariant_of-self : goal.invariant_of-self
invariant_of-self c = laid-set_low c.self.inside.low c.self.inside.high c.self.inside.room c.self.inside.kept c.self.invariant c.set.new.self c.args.name c.args.entry c.set.ensures c.requires.small

pub returns : goal.returns
returns c =
    view-put_low c.self.inside.low c.self.inside.high c.self.inside.room c.self.inside.kept c.self.invariant c.args.self.now c.self.view_is c.args.name c.args.name refl c.set.new.self.values c.self.inside.room c.args.self.now.room c.args.entry
    (ap (λ (a : PagesView Entry). a.values) c.set.ensures) (room_is c.self.inside.low c.self.inside.high c.self.inside.room c.self.inside.kept c.self.invariant c.args.self.now c.self.view_is c.args.name c.args.name refl) c.requires.small
