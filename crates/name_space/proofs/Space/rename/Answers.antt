use Rattle.std.proofs.Common.{◌≡◌, None, ap, sym, ◌∙◌}
use Rattle.std.specs.Option.{option_and_then}
use Rattle.name_space.specs.Entry.{port_named}
use Rattle.std.specs.FinMap as map
use Rattle.name_space.specs.Names.{SpaceView}
use Rattle.name_space.proofs.Spaces.{inside, port_there, unused_after, not_full_after, absent_after, free_after, moved, moved_none}
use Rattle.name_space.proofs.Space.rename.Goals as goal

pub insert-requires-clause-unused : goal.insert-requires-clause-unused
insert-requires-clause-unused c =
    unused_after c.self.inside.table c.self.inside.ports c.self.inside.len c.self.invariant c.remove.new.self c.args.from c.args.to c.unwrap-entry.result c.remove.ensures.after (sym c.remove.ensures.value ∙ c.unwrap-entry.ensures)
    (inside (λ (v : SpaceView). map.get v.names c.args.to ≡ None) c.self.inside.table c.args.self.now c.self.view_is c.requires.unused)

pub insert-requires-clause-not_full : goal.insert-requires-clause-not_full
insert-requires-clause-not_full c =
    not_full_after c.self.inside.table c.self.inside.ports c.self.inside.len c.self.invariant c.remove.new.self c.args.from c.args.to c.unwrap-entry.result c.remove.ensures.after (sym c.remove.ensures.value ∙ c.unwrap-entry.ensures)
    (inside (λ (v : SpaceView). map.get v.names c.args.to ≡ None) c.self.inside.table c.args.self.now c.self.view_is c.requires.unused)

pub remove-requires-in-Some : goal.remove-requires-in-Some
remove-requires-in-Some c =
    port_there c.self.inside.table c.self.inside.ports c.self.inside.len c.self.invariant c.args.from c.in-Some.port
    (ap (option_and_then port_named) (sym c.remove.ensures.value ∙ c.unwrap-entry.ensures) ∙ (sym c.port.ensures ∙ c.in-Some.is))

pub insert-requires-in-Some-clause-absent : goal.insert-requires-in-Some-clause-absent
insert-requires-in-Some-clause-absent c =
    absent_after c.self.inside.table c.self.inside.ports c.self.inside.len c.self.invariant c.remove.new.self c.args.from c.args.to c.unwrap-entry.result c.remove.ensures.after (sym c.remove.ensures.value ∙ c.unwrap-entry.ensures)
    (inside (λ (v : SpaceView). map.get v.names c.args.to ≡ None) c.self.inside.table c.args.self.now c.self.view_is c.requires.unused)
    c.insert.new.self c.insert.ensures c.requires.usable
    c.remove-in-Some.new.self c.in-Some.port (sym c.port.ensures ∙ c.in-Some.is) c.remove-in-Some.ensures

pub insert-requires-in-Some-clause-free : goal.insert-requires-in-Some-clause-free
insert-requires-in-Some-clause-free c =
    free_after c.self.inside.table c.self.inside.ports c.self.inside.len c.self.invariant c.remove.new.self c.args.from c.args.to c.unwrap-entry.result c.remove.ensures.after (sym c.remove.ensures.value ∙ c.unwrap-entry.ensures)
    (inside (λ (v : SpaceView). map.get v.names c.args.to ≡ None) c.self.inside.table c.args.self.now c.self.view_is c.requires.unused)
    c.insert.new.self c.insert.ensures c.requires.usable
    c.remove-in-Some.new.self c.in-Some.port (sym c.port.ensures ∙ c.in-Some.is) c.remove-in-Some.ensures

pub invariant_of-self : goal.invariant_of-self
invariant_of-self c =
    moved c.self.inside.table c.self.inside.ports c.self.inside.len c.self.invariant c.remove.new.self c.args.from c.args.to c.unwrap-entry.result c.remove.ensures.after (sym c.remove.ensures.value ∙ c.unwrap-entry.ensures)
    (inside (λ (v : SpaceView). map.get v.names c.args.to ≡ None) c.self.inside.table c.args.self.now c.self.view_is c.requires.unused)
    c.insert.new.self c.insert.ensures c.requires.usable
    c.remove-in-Some.new.self c.in-Some.port (sym c.port.ensures ∙ c.in-Some.is) c.remove-in-Some.ensures
    c.insert-in-Some.new.self c.insert-in-Some.ensures.names c.insert-in-Some.ensures.kept c.insert-in-Some.ensures.room

pub invariant_of-self-in_default : goal.invariant_of-self-in_default
invariant_of-self-in_default c =
    moved_none c.self.inside.table c.self.inside.ports c.self.inside.len c.self.invariant c.remove.new.self c.args.from c.args.to c.unwrap-entry.result c.remove.ensures.after (sym c.remove.ensures.value ∙ c.unwrap-entry.ensures)
    (inside (λ (v : SpaceView). map.get v.names c.args.to ≡ None) c.self.inside.table c.args.self.now c.self.view_is c.requires.unused)
    c.insert.new.self c.insert.ensures c.requires.usable
    (sym c.port.ensures ∙ c.in_default.is)
