use Rattle.std.proofs.Common.{◌∙◌, ◌-◌, ap, refl}
use Rattle.name_space_base.specs.Pages.{PagesView}
use Rattle.name_space.specs.declared.Entry.{Entry}
use Rattle.name_space.proofs.Tables.{laid-put_low, seen_low, room_is, low_place_for, view-put_low}
use Rattle.name_space.proofs.plain.Plain.insert_low.Goals as goal

pub insert-requires-clause-free : goal.insert-requires-clause-free
insert-requires-clause-free c = seen_low c.self.inside.low c.self.inside.high c.self.inside.room c.self.inside.kept c.self.invariant c.args.self.now c.self.view_is c.args.name c.args.name refl c.requires.small ∙ c.requires.unused

pub insert-requires-clause-place : goal.insert-requires-clause-place
insert-requires-clause-place c = low_place_for c.self.inside.low c.self.inside.high c.self.inside.room c.self.inside.kept c.self.invariant c.args.self.now c.self.view_is c.args.name c.args.name refl c.requires.place c.requires.small

pub invariant_of-self : goal.invariant_of-self
invariant_of-self c = laid-put_low c.self.inside.low c.self.inside.high c.self.inside.room c.self.inside.kept c.self.invariant c.insert.new.self c.saturating_sub-self-inside.result c.args.name c.args.entry c.insert.ensures c.requires.small c.saturating_sub-self-inside.ensures

pub returns : goal.returns
returns c =
    view-put_low c.self.inside.low c.self.inside.high c.self.inside.room c.self.inside.kept c.self.invariant c.args.self.now c.self.view_is c.args.name c.args.name refl c.insert.new.self.values c.saturating_sub-self-inside.result (c.args.self.now.room - 1) c.args.entry
    (ap (λ (a : PagesView Entry). a.values) c.insert.ensures) (c.saturating_sub-self-inside.ensures ∙ ap (λ n. n - 1) (room_is c.self.inside.low c.self.inside.high c.self.inside.room c.self.inside.kept c.self.invariant c.args.self.now c.self.view_is c.args.name c.args.name refl)) c.requires.small
