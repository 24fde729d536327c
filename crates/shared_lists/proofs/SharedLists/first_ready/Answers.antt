use Rattle.std.proofs.Common.{sym, ◌∙◌, length}
use Rattle.member_lists.specs.Lists.{list_of}
use Rattle.shared_lists.proofs.Promoted.{first_inside}
use Rattle.shared_lists.proofs.Marking.{place_there, none_ready, first_marked}
use Rattle.shared_lists.proofs.SharedLists.first_ready.Goals as goal

pub returns-in_err-place : goal.returns-in_err-place
returns-in_err-place c = c.from_residual.ensures ∙ none_ready c.self.inside.several c.self.inside.places c.self.inside.further c.self.inside.keys (length c.self.inside.lists.items) c.self.invariant.0 c.args.self.now c.self.view_is c.args.list (sym c.in_err-place.was ∙ c.first_marked.ensures)

pub item_at-requires : goal.item_at-requires
item_at-requires c = place_there c.self.inside.several c.self.inside.places c.self.inside.further c.self.inside.keys (length c.self.inside.lists.items) c.self.invariant.0 c.args.self.now c.self.view_is c.args.list c.in_ok-place.place (c.self.invariant.0.marked c.args.list c.in_ok-place.place (first_inside (list_of c.self.inside.places.marked c.args.list) c.in_ok-place.place (sym c.first_marked.ensures ∙ c.in_ok-place.was)))

pub returns : goal.returns
returns c = first_marked c.self.inside.several c.self.inside.places c.self.inside.further c.self.inside.keys (length c.self.inside.lists.items) c.self.invariant.0 c.args.self.now c.self.view_is c.args.list c.in_ok-place.place (sym c.first_marked.ensures ∙ c.in_ok-place.was) c.item_at.result c.item_at.ensures
