use Rattle.std.proofs.Common.{◌∙◌, ◌-◌, inr, ap, arith, refl}
use Rattle.name_space.specs.declared.Entry.{Entry}
use Rattle.name_space_base.specs.High.{HighView}
use Rattle.name_space.proofs.Tables.{laid-put_high, room_is, high_place_for, view-put_high}
use Rattle.name_space.proofs.plain.Plain.insert_high.Goals as goal

pub put-requires : goal.put-requires
put-requires c = record { place = inr (high_place_for c.self.inside.low c.self.inside.high c.self.inside.room c.self.inside.kept c.self.invariant c.args.self.now c.self.view_is c.args.name c.args.name refl c.requires.place c.requires.not_full c.requires.great) }

pub invariant_of-self : goal.invariant_of-self
invariant_of-self c =
    laid-put_high c.self.inside.low c.self.inside.high c.self.inside.room c.self.inside.kept c.self.invariant c.put.new.self c.saturating_sub-self-inside.result c.args.name c.args.entry c.put.ensures c.requires.great (let less = c.saturating_sub-self-inside.ensures in omega arith)

pub returns : goal.returns
returns c =
    view-put_high c.self.inside.low c.self.inside.high c.self.inside.room c.self.inside.kept c.self.invariant c.args.self.now c.self.view_is c.args.name c.args.name refl c.put.new.self.names c.saturating_sub-self-inside.result (c.args.self.now.room - 1) c.args.entry
    (ap (λ (a : HighView Entry). a.names) c.put.ensures) (c.saturating_sub-self-inside.ensures ∙ ap (λ n. n - 1) (room_is c.self.inside.low c.self.inside.high c.self.inside.room c.self.inside.kept c.self.invariant c.args.self.now c.self.view_is c.args.name c.args.name refl))
