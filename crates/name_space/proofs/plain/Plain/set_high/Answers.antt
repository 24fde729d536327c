use Rattle.std.proofs.Common.{◌∙◌, inl, ap, is_some, arith, refl}
use Rattle.name_space.specs.declared.Entry.{Entry}
use Rattle.name_space_base.specs.High.{HighView}
use Rattle.name_space.proofs.Tables.{laid-put_high, seen_high, room_is, view-put_high}
use Rattle.name_space.proofs.plain.Plain.set_high.Goals as goal

pub put-requires : goal.put-requires
put-requires c = record { place = inl (ap is_some (seen_high c.self.inside.low c.self.inside.high c.self.inside.room c.self.inside.kept c.self.invariant c.args.self.now c.self.view_is c.args.name c.args.name refl c.requires.great) ∙ c.requires.used) }

pub invariant_of-self : goal.invariant_of-self
invariant_of-self c = laid-put_high c.self.inside.low c.self.inside.high c.self.inside.room c.self.inside.kept c.self.invariant c.put.new.self c.self.inside.room c.args.name c.args.entry c.put.ensures c.requires.great (omega arith)

pub returns : goal.returns
returns c =
    view-put_high c.self.inside.low c.self.inside.high c.self.inside.room c.self.inside.kept c.self.invariant c.args.self.now c.self.view_is c.args.name c.args.name refl c.put.new.self.names c.self.inside.room c.args.self.now.room c.args.entry
    (ap (λ (a : HighView Entry). a.names) c.put.ensures) (room_is c.self.inside.low c.self.inside.high c.self.inside.room c.self.inside.kept c.self.invariant c.args.self.now c.self.view_is c.args.name c.args.name refl)
