use Rattle.std.proofs.Common.{◌≡◌, IfOk, ap, sym, subst, ◌∙◌, map, Contains, length}
use Rattle.member_lists.specs.Lists.{list_of}
use Rattle.shared_lists.specs.Shared.{SharedView}
use Rattle.shared_lists.specs.Places.{item_at}
use Rattle.shared_lists.proofs.Seen.{seen_list}
use Rattle.shared_lists.proofs.Marking.{place_there}
use Rattle.shared_lists.proofs.SharedLists.items.Goals as goal

pub items_at-requires : goal.items_at-requires
items_at-requires c x inside = place_there c.self.inside.several c.self.inside.places c.self.inside.further c.self.inside.keys (length c.self.inside.lists.items) c.self.invariant.0 c.args.self.now c.self.view_is c.args.list x (subst (λ xs. Contains xs x) (c.deref.ensures.value ∙ c.in_ok-places.ensures) inside)

pub returns : goal.returns
returns c = subst (λ xs. IfOk c.items_at.result (λ items. items.items ≡ xs))
    (ap (map (item_at c.self.inside.several c.self.inside.further)) (c.deref.ensures.value ∙ c.in_ok-places.ensures)
    ∙ sym (seen_list c.self.inside.several c.self.inside.further c.self.inside.places.all c.args.list) ∙ ap (λ (w : SharedView). list_of w.all c.args.list) c.self.view_is)
    c.items_at.ensures
