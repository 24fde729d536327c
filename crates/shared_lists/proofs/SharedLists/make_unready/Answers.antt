use Rattle.std.proofs.Common.{length}
use Rattle.shared_lists.proofs.Parted.{key_there}
use Rattle.shared_lists.proofs.Promoted.{own_low}
use Rattle.shared_lists.proofs.Marking.{keys_low, own_ready, still_marked, shared_unready, seen_unready}
use Rattle.shared_lists.proofs.SharedLists.make_unready.Goals as goal

pub own_place-place-requires : goal.own_place-place-requires
own_place-place-requires c = own_low c.self.inside.several c.self.inside.places c.self.inside.further c.self.inside.keys (length c.self.inside.lists.items) c.self.invariant.0 c.args.self.now c.self.view_is c.args.own c.args.item c.requires.first

pub unmark-requires : goal.unmark-requires
unmark-requires c = rw c.own_place-place.ensures (own_ready c.self.inside.several c.self.inside.places c.self.inside.further c.self.inside.keys (length c.self.inside.lists.items) c.self.invariant.0 c.args.self.now c.self.view_is c.args.item c.args.own c.requires.first c.requires.ready)

pub unmark_each-requires-clause-there : goal.unmark_each-requires-clause-there
unmark_each-requires-clause-there c = key_there c.self.inside.several c.self.inside.places c.self.inside.further c.self.inside.keys (length c.self.inside.lists.items) c.self.invariant.0 c.args.self.now c.self.view_is c.args.item

pub unmark_each-requires-clause-fit : goal.unmark_each-requires-clause-fit
unmark_each-requires-clause-fit c = keys_low c.self.inside.several c.self.inside.places c.self.inside.further c.self.inside.keys (length c.self.inside.lists.items) c.self.invariant.0 c.args.self.now c.self.view_is c.args.item

pub unmark_each-requires-clause-marked : goal.unmark_each-requires-clause-marked
unmark_each-requires-clause-marked c = still_marked c.self.inside.several c.self.inside.places c.self.inside.further c.self.inside.keys (length c.self.inside.lists.items) c.self.invariant.0 c.args.self.now c.self.view_is c.args.item c.args.own c.requires.first c.requires.ready c.own_place-place.result c.own_place-place.ensures c.unmark.new.self c.unmark.ensures

pub invariant_of-self : goal.invariant_of-self
invariant_of-self c = (shared_unready c.self.inside.several c.self.inside.places c.self.inside.further c.self.inside.keys (length c.self.inside.lists.items) c.self.invariant.0 c.args.self.now c.self.view_is c.args.item c.args.own c.requires.first c.own_place-place.result c.own_place-place.ensures c.unmark.new.self c.unmark_each.new.places c.unmark.ensures c.unmark_each.ensures, c.self.invariant.1)

pub returns : goal.returns
returns c = seen_unready c.self.inside.several c.self.inside.places c.self.inside.further c.self.inside.keys (length c.self.inside.lists.items) c.self.invariant.0 c.args.self.now c.self.view_is c.args.item c.args.own c.requires.first c.own_place-place.result c.own_place-place.ensures c.unmark.new.self c.unmark_each.new.places c.unmark.ensures c.unmark_each.ensures
