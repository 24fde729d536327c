use Rattle.std.proofs.Common.{◌≡◌, ℕ, Some, true, sym, ◌∙◌}
use Rattle.std.specs.FinMap as map
use Rattle.name_space.specs.Entry.{port_named}
use Rattle.name_space.specs.Names.{SpaceView, port_at}
use Rattle.name_space.proofs.Spaces.{sound-renewed, sound-lost, inside, lost_of, port_there}
use Rattle.name_space.proofs.Space.replace.Goals as goal

pub remove-requires : goal.remove-requires
remove-requires c =
    port_there c.self.inside.table c.self.inside.ports c.self.inside.len c.self.invariant c.args.name c.in-Some.port
    (lost_of _ _ c.in-Some.port (sym c.port_lost-lost.ensures ∙ c.in-Some.is)).1

pub invariant_of-self : goal.invariant_of-self
invariant_of-self c =
    sound-lost c.self.inside.table c.self.inside.ports c.self.inside.len c.self.invariant c.set.new.self c.args.name c.args.entry c.set.ensures
    (inside (λ (v : SpaceView). map.contains_key v.names c.args.name ≡ true) c.self.inside.table c.args.self.now c.self.view_is c.requires.used)
    c.remove.new.self c.in-Some.port
    (sym c.port_lost-lost.ensures ∙ c.in-Some.is) c.remove.ensures

pub invariant_of-self-in_default : goal.invariant_of-self-in_default
invariant_of-self-in_default c =
    sound-renewed c.self.inside.table c.self.inside.ports c.self.inside.len c.self.invariant c.set.new.self c.args.name c.args.entry c.set.ensures
    (inside (λ (v : SpaceView). map.contains_key v.names c.args.name ≡ true) c.self.inside.table c.args.self.now c.self.view_is c.requires.used)
    (sym c.port_lost-lost.ensures ∙ c.in_default.is)
    (inside (λ (v : SpaceView). (port : ℕ) → port_named c.args.entry ≡ Some port → port_at v.names c.args.name ≡ Some port) c.self.inside.table c.args.self.now c.self.view_is c.requires.same)
