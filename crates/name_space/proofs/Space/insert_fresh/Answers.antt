use Rattle.std.proofs.Common.{◌≡◌, ◌<◌, None, sym, ◌∙◌}
use Rattle.std.specs.FinMap as map
use Rattle.mach_types.specs.Numbers.{most_names}
use Rattle.name_space.specs.Names.{SpaceView, HasNoOther}
use Rattle.name_space.proofs.Spaces.{port_absent, sound-put, sound-put_none, inside}
use Rattle.name_space.proofs.Space.insert_fresh.Goals as goal

pub insert-requires-clause-absent : goal.insert-requires-clause-absent
insert-requires-clause-absent c = port_absent c.self.inside.table c.self.inside.ports c.self.inside.len c.self.invariant c.args.entry c.in-Some.port (inside (λ (v : SpaceView). HasNoOther v.names c.args.entry) c.self.inside.table c.args.self.now c.self.view_is c.requires.apart) (sym c.port.ensures ∙ c.in-Some.is)

pub invariant_of-self : goal.invariant_of-self
invariant_of-self c =
    sound-put c.self.inside.table c.self.inside.ports c.self.inside.len c.self.invariant c.insert_fresh.new.self c.args.name c.args.entry c.insert_fresh.ensures c.requires.usable
    (inside (λ (v : SpaceView). map.get v.names c.args.name ≡ None) c.self.inside.table c.args.self.now c.self.view_is c.requires.unused)
    (inside (λ (v : SpaceView). map.len v.names < most_names) c.self.inside.table c.args.self.now c.self.view_is c.requires.not_full)
    c.insert.new.self c.in-Some.port (sym c.port.ensures ∙ c.in-Some.is)
    (inside (λ (v : SpaceView). HasNoOther v.names c.args.entry) c.self.inside.table c.args.self.now c.self.view_is c.requires.apart)
    c.insert.ensures.names c.insert.ensures.kept c.insert.ensures.room

pub invariant_of-self-in_default : goal.invariant_of-self-in_default
invariant_of-self-in_default c =
    sound-put_none c.self.inside.table c.self.inside.ports c.self.inside.len c.self.invariant c.insert_fresh.new.self c.args.name c.args.entry c.insert_fresh.ensures c.requires.usable
    (inside (λ (v : SpaceView). map.get v.names c.args.name ≡ None) c.self.inside.table c.args.self.now c.self.view_is c.requires.unused)
    (inside (λ (v : SpaceView). map.len v.names < most_names) c.self.inside.table c.args.self.now c.self.view_is c.requires.not_full)
    (sym c.port.ensures ∙ c.in_default.is)
