use Rattle.std.proofs.Common.{ℕ, ap, ◌∙◌}
use Rattle.std.specs.FinMap as map
use Rattle.number_map.specs.Maps.{MapView}
use Rattle.name_space.proofs.Placed.{gone, place_put, names_put, place_beside, names_beside}
use Rattle.name_space.proofs.ports.Ports.insert.Goals as goal

pub invariant_of-self : goal.invariant_of-self
invariant_of-self c = place_put c.self.inside.port c.self.inside.kept c.self.inside.others.map c.self.inside.others.room c.self.invariant c.args.self.now c.self.view_is c.args.port c.args.name (c.keeps.ensures.0 c.if-keeps.true) c.requires.absent

pub insert-requires-clause-absent : goal.insert-requires-clause-absent
insert-requires-clause-absent c = ap (map.get c.self.inside.others.map) c.number.ensures ∙ gone c.self.inside.port c.self.inside.kept c.self.inside.others.map c.self.inside.others.room c.self.invariant c.args.self.now c.self.view_is c.args.port c.requires.absent

pub invariant_of-self-else-keeps : goal.invariant_of-self-else-keeps
invariant_of-self-else-keeps c =
    place_beside c.self.inside.port c.self.inside.kept c.self.inside.others.map c.self.inside.others.room c.self.invariant c.args.self.now c.self.view_is c.insert.new.self.map c.args.port c.args.name c.requires.absent
    (ap (λ (a : MapView ℕ). a.map) c.insert.ensures ∙ ap (λ n. map.insert c.self.inside.others.map n c.args.name) c.number.ensures)

pub returns-then-keeps-clause-names : goal.returns-then-keeps-clause-names
returns-then-keeps-clause-names c = names_put c.self.inside.port c.self.inside.kept c.self.inside.others.map c.self.inside.others.room c.self.invariant c.args.self.now c.self.view_is c.args.port c.args.name (c.keeps.ensures.0 c.if-keeps.true) c.requires.free

pub returns-else-keeps-clause-names : goal.returns-else-keeps-clause-names
returns-else-keeps-clause-names c =
    names_beside c.self.inside.port c.self.inside.kept c.self.inside.others.map c.self.inside.others.room c.self.invariant c.args.self.now c.self.view_is c.insert.new.self.map c.args.port c.args.name c.requires.absent
    (ap (λ (a : MapView ℕ). a.map) c.insert.ensures ∙ ap (λ n. map.insert c.self.inside.others.map n c.args.name) c.number.ensures)
