use Rattle.std.proofs.Common.{◌≡◌, inl, inr, ℕ, Some, ap, sym, subst, ◌∙◌, arith}
use Rattle.std.specs.FinMap as map
use Rattle.number_map.specs.Maps.{MapView}
use Rattle.name_space.specs.Ports.{PortNames, with_port, IsApart}
use Rattle.name_space.proofs.Placed.{ports_are, room_is, none_in_place, apart_kept, all_kept}
use Rattle.name_space.proofs.ports.Ports.keep.Goals as goal

pub invariant_of-self : goal.invariant_of-self
invariant_of-self c =
    subst (IsApart c.args.port (Some c.args.name)) (sym (ap (λ (a : MapView ℕ). a.map) c.take_out.ensures)) (apart_kept c.args.port c.lay_back.new.others.map c.args.name)

pub returns-clause-names : goal.returns-clause-names
returns-clause-names c =
    let same = c.lay_back.ensures.map ∙ ports_are c.self.inside.port c.self.inside.kept c.self.inside.others.map c.self.inside.others.room c.self.invariant c.args.self.now c.self.view_is in
    ap (λ (a : MapView ℕ). with_port c.args.port (Some c.args.name) a.map) c.take_out.ensures
    ∙ all_kept c.args.port c.lay_back.new.others.map c.args.name (λ p is. ap (λ (a : PortNames). map.get a p) same ∙ c.requires.named p is)
    ∙ same

pub lay_back-requires-clause-room : goal.lay_back-requires-clause-room
lay_back-requires-clause-room c = λ p is. elim c.requires.room [
  | inl some ↦ let r = room_is c.self.inside.port c.self.inside.kept c.self.inside.others.map c.self.inside.others.room c.self.invariant c.args.self.now c.self.view_is in omega arith
  | inr none ↦ absurd (none_in_place c.self.inside.port c.self.inside.kept c.self.inside.others.map c.self.inside.others.room c.self.invariant c.args.self.now c.self.view_is none p is)
]

pub returns-clause-none : goal.returns-clause-none
returns-clause-none c = λ none.
    let kept = c.lay_back.ensures.none (none_in_place c.self.inside.port c.self.inside.kept c.self.inside.others.map c.self.inside.others.room c.self.invariant c.args.self.now c.self.view_is none) in
    let same : c.take_out.new.others.room ≡ c.lay_back.new.others.room = ap (λ (a : MapView ℕ). a.room) c.take_out.ensures in
    let r = room_is c.self.inside.port c.self.inside.kept c.self.inside.others.map c.self.inside.others.room c.self.invariant c.args.self.now c.self.view_is in
    omega arith
