use Rattle.std.proofs.Common.{sym, subst, Contains, length}
use Rattle.member_lists.specs.Lists.{MarkedView, list_of}
use Rattle.shared_lists.specs.Places.{far, list_at}
use Rattle.shared_lists.proofs.Parted.{key_there}
use Rattle.shared_lists.proofs.Promoted.{own_low, own_here}
use Rattle.shared_lists.proofs.Marking.{keys_there, keys_low, own_unready, still_unmarked, shared_ready, seen_ready}
use Rattle.shared_lists.proofs.SharedLists.make_ready.Goals as goal

pub own_place-place-requires : goal.own_place-place-requires
own_place-place-requires c = own_low c.self.inside.several c.self.inside.places c.self.inside.further c.self.inside.keys (length c.self.inside.lists.items) c.self.invariant.0 c.args.self.now c.self.view_is c.args.own c.args.item c.requires.first

pub mark-requires-clause-there : goal.mark-requires-clause-there
mark-requires-clause-there c = rw c.own_place-place.ensures (own_here c.self.inside.several c.self.inside.places c.self.inside.further c.self.inside.keys (length c.self.inside.lists.items) c.self.invariant.0 c.args.self.now c.self.view_is c.args.own c.args.item c.requires.first)

pub mark-requires-clause-unmarked : goal.mark-requires-clause-unmarked
mark-requires-clause-unmarked c = rw c.own_place-place.ensures (own_unready c.self.inside.several c.self.inside.places c.self.inside.further c.self.inside.keys (length c.self.inside.lists.items) c.self.invariant.0 c.args.self.now c.self.view_is c.args.item c.args.own c.requires.first c.requires.unready)

pub mark_each-requires-clause-there : goal.mark_each-requires-clause-there
mark_each-requires-clause-there c = key_there c.self.inside.several c.self.inside.places c.self.inside.further c.self.inside.keys (length c.self.inside.lists.items) c.self.invariant.0 c.args.self.now c.self.view_is c.args.item

pub mark_each-requires-clause-fit : goal.mark_each-requires-clause-fit
mark_each-requires-clause-fit c = keys_low c.self.inside.several c.self.inside.places c.self.inside.further c.self.inside.keys (length c.self.inside.lists.items) c.self.invariant.0 c.args.self.now c.self.view_is c.args.item

pub mark_each-requires-clause-inside : goal.mark_each-requires-clause-inside
mark_each-requires-clause-inside c k inside = subst (λ (w : MarkedView). Contains (list_of w.all (list_at c.self.inside.further k)) (far k)) (sym c.mark.ensures) (keys_there c.self.inside.several c.self.inside.places c.self.inside.further c.self.inside.keys (length c.self.inside.lists.items) c.self.invariant.0 c.args.self.now c.self.view_is c.args.item k inside)

pub mark_each-requires-clause-unmarked : goal.mark_each-requires-clause-unmarked
mark_each-requires-clause-unmarked c = still_unmarked c.self.inside.several c.self.inside.places c.self.inside.further c.self.inside.keys (length c.self.inside.lists.items) c.self.invariant.0 c.args.self.now c.self.view_is c.args.item c.args.own c.requires.first c.requires.unready c.own_place-place.result c.own_place-place.ensures c.mark.new.self c.mark.ensures

pub invariant_of-self : goal.invariant_of-self
invariant_of-self c = (shared_ready c.self.inside.several c.self.inside.places c.self.inside.further c.self.inside.keys (length c.self.inside.lists.items) c.self.invariant.0 c.args.self.now c.self.view_is c.args.item c.args.own c.requires.first c.own_place-place.result c.own_place-place.ensures c.mark.new.self c.mark_each.new.places c.mark.ensures c.mark_each.ensures, c.self.invariant.1)

pub returns : goal.returns
returns c = seen_ready c.self.inside.several c.self.inside.places c.self.inside.further c.self.inside.keys (length c.self.inside.lists.items) c.self.invariant.0 c.args.self.now c.self.view_is c.args.item c.args.own c.requires.first c.own_place-place.result c.own_place-place.ensures c.mark.new.self c.mark_each.new.places c.mark.ensures c.mark_each.ensures
