use Rattle.std.proofs.Common.{ℕ, ap, is_some, ◌∙◌}
use Rattle.std.specs.FinMap as map
use Rattle.number_map.specs.Maps.{MapView}
use Rattle.name_space_base.proofs.Options.{unless}
use Rattle.name_space.proofs.Placed.{seen_other, view_out_of_place, place_without, view_without}
use Rattle.name_space.proofs.ports.Ports.remove.Goals as goal

pub remove_there-requires : goal.remove_there-requires
remove_there-requires c =
    ap (map.contains_key c.self.inside.others.map) c.number.ensures
    ∙ ap is_some (seen_other c.self.inside.port c.self.inside.kept c.self.inside.others.map c.self.inside.others.room c.self.invariant c.args.self.now c.self.view_is c.args.port (unless c.is_kept.result c.is_kept.ensures.1 c.if-is_kept.false))
    ∙ c.requires

pub invariant_of-self-else-is_kept : goal.invariant_of-self-else-is_kept
invariant_of-self-else-is_kept c =
    place_without c.self.inside.port c.self.inside.kept c.self.inside.others.map c.self.inside.others.room c.self.invariant c.args.self.now c.self.view_is c.remove_there.new.self.map c.args.port (unless c.is_kept.result c.is_kept.ensures.1 c.if-is_kept.false)
    (ap (λ (a : MapView ℕ). a.map) c.remove_there.ensures ∙ ap (map.remove c.self.inside.others.map) c.number.ensures)

pub returns-then-is_kept : goal.returns-then-is_kept
returns-then-is_kept c = view_out_of_place c.self.inside.port c.self.inside.kept c.self.inside.others.map c.self.inside.others.room c.self.invariant c.args.self.now c.self.view_is c.args.port (c.is_kept.ensures.0 c.if-is_kept.true)

pub returns-else-is_kept : goal.returns-else-is_kept
returns-else-is_kept c =
    view_without c.self.inside.port c.self.inside.kept c.self.inside.others.map c.self.inside.others.room c.self.invariant c.args.self.now c.self.view_is c.remove_there.new.self.map c.remove_there.new.self.room c.args.port (unless c.is_kept.result c.is_kept.ensures.1 c.if-is_kept.false)
    (ap (λ (a : MapView ℕ). a.map) c.remove_there.ensures ∙ ap (map.remove c.self.inside.others.map) c.number.ensures)
    (ap (λ (a : MapView ℕ). a.room) c.remove_there.ensures)
