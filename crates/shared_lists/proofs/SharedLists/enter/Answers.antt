use Rattle.std.proofs.Common.{length}
use Rattle.shared_lists.proofs.Joined.{own_apart, own_unmarked, shared_entered, seen_entered}
use Rattle.shared_lists.proofs.SharedLists.enter.Goals as goal

pub join-requires-clause-apart : goal.join-requires-clause-apart
join-requires-clause-apart c = rw c.own_place-place.ensures (own_apart c.self.inside.several c.self.inside.places c.self.inside.further c.self.inside.keys (length c.self.inside.lists.items) c.self.invariant.0 c.args.self.now c.self.view_is c.args.item c.requires.apart)

pub join-requires-clause-unmarked : goal.join-requires-clause-unmarked
join-requires-clause-unmarked c = rw c.own_place-place.ensures (own_unmarked c.self.inside.several c.self.inside.places c.self.inside.further c.self.inside.keys (length c.self.inside.lists.items) c.self.invariant.0 c.args.self.now c.self.view_is c.args.item c.requires.apart)

pub invariant_of-self : goal.invariant_of-self
invariant_of-self c = (shared_entered c.self.inside.several c.self.inside.places c.self.inside.further c.self.inside.keys (length c.self.inside.lists.items) c.self.invariant.0 c.args.self.now c.self.view_is c.args.item c.requires.apart c.requires.room c.args.list c.own_place-place.result c.args.is_ready c.own_place-place.ensures c.join.new.places c.join.ensures, c.self.invariant.1)

pub returns : goal.returns
returns c = seen_entered c.self.inside.several c.self.inside.places c.self.inside.further c.self.inside.keys (length c.self.inside.lists.items) c.self.invariant.0 c.args.self.now c.self.view_is c.args.item c.requires.apart c.requires.room c.args.list c.own_place-place.result c.args.is_ready c.own_place-place.ensures c.join.new.places c.join.ensures
