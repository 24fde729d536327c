use Rattle.std.proofs.Common.{◌∙◌, Some, ap, is_some, sym, refl}
use Rattle.std.specs.FinMap as map
use Rattle.name_space.specs.declared.Entry.{Entry}
use Rattle.name_space.specs.Entry.{with_send}
use Rattle.name_space.proofs.Tables.{laid-set_low, seen_low, room_is, view-put_low}
use Rattle.name_space.proofs.plain.Plain.add_send_low.Goals as goal

pub value_mut-requires : goal.value_mut-requires
value_mut-requires c = ap is_some (seen_low c.self.inside.low c.self.inside.high c.self.inside.room c.self.inside.kept c.self.invariant c.args.self.now c.self.view_is c.args.name c.args.name refl c.requires.small) ∙ c.requires.used

pub invariant_of-self : goal.invariant_of-self
invariant_of-self c = laid-set_low c.self.inside.low c.self.inside.high c.self.inside.room c.self.inside.kept c.self.invariant _ c.args.name c.join_send.new.held refl c.requires.small

pub returns-clause-value : goal.returns-clause-value
returns-clause-value c =
    sym (seen_low c.self.inside.low c.self.inside.high c.self.inside.room c.self.inside.kept c.self.invariant c.args.self.now c.self.view_is c.args.name c.args.name refl c.requires.small)
    ∙ c.value_mut.ensures.value ∙ ap (λ (e : Entry). Some e) (sym c.join_send.ensures.value)

pub returns-clause-after : goal.returns-clause-after
returns-clause-after c =
    view-put_low c.self.inside.low c.self.inside.high c.self.inside.room c.self.inside.kept c.self.invariant c.args.self.now c.self.view_is c.args.name c.args.name refl
    (map.insert c.self.inside.low.values c.args.name c.join_send.new.held) c.self.inside.room c.args.self.now.room (with_send c.join_send.result)
    (ap (λ (e : Entry). map.insert c.self.inside.low.values c.args.name e) (c.join_send.ensures.after ∙ ap with_send (sym c.join_send.ensures.value)))
    (room_is c.self.inside.low c.self.inside.high c.self.inside.room c.self.inside.kept c.self.invariant c.args.self.now c.self.view_is c.args.name c.args.name refl) c.requires.small
