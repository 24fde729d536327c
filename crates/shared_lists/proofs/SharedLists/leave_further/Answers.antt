use Rattle.std.proofs.Common.{length}
use Rattle.shared_lists.proofs.Parted.{found, key_there, not_found, far_low, far_inside, far_marked, single_mark, shared_left, seen_left, room_more}
use Rattle.shared_lists.proofs.Again.{listed_out}
use Rattle.shared_lists.proofs.SharedLists.leave_further.Goals as goal

pub find-requires-clause-there : goal.find-requires-clause-there
find-requires-clause-there c = key_there c.self.inside.several c.self.inside.places c.self.inside.further c.self.inside.keys (length c.self.inside.lists.items) c.self.invariant.0 c.args.self.now c.self.view_is c.args.item

pub further_place-requires : goal.further_place-requires
further_place-requires c = far_low c.self.inside.several c.self.inside.places c.self.inside.further c.self.inside.keys (length c.self.inside.lists.items) c.self.invariant.0 c.args.self.now c.self.view_is c.in-Some.key (record { item = c.args.item; list = c.args.list }) (found c.self.inside.several c.self.inside.places c.self.inside.further c.self.inside.keys (length c.self.inside.lists.items) c.self.invariant.0 c.args.self.now c.self.view_is c.args.item c.args.list c.in-Some.key c.in-Some.ensures.some.0 c.in-Some.ensures.some.1)

pub part-requires-clause-there : goal.part-requires-clause-there
part-requires-clause-there c = rw c.further_place.ensures (far_inside c.self.inside.several c.self.inside.places c.self.inside.further c.self.inside.keys (length c.self.inside.lists.items) c.self.invariant.0 c.args.self.now c.self.view_is c.in-Some.key (record { item = c.args.item; list = c.args.list }) (found c.self.inside.several c.self.inside.places c.self.inside.further c.self.inside.keys (length c.self.inside.lists.items) c.self.invariant.0 c.args.self.now c.self.view_is c.args.item c.args.list c.in-Some.key c.in-Some.ensures.some.0 c.in-Some.ensures.some.1))

pub part-requires-clause-marked : goal.part-requires-clause-marked
part-requires-clause-marked c = rw c.further_place.ensures (far_marked c.self.inside.several c.self.inside.places c.self.inside.further c.self.inside.keys (length c.self.inside.lists.items) c.self.invariant.0 c.args.self.now c.self.view_is c.in-Some.key (record { item = c.args.item; list = c.args.list }) (found c.self.inside.several c.self.inside.places c.self.inside.further c.self.inside.keys (length c.self.inside.lists.items) c.self.invariant.0 c.args.self.now c.self.view_is c.args.item c.args.list c.in-Some.key c.in-Some.ensures.some.0 c.in-Some.ensures.some.1) c.args.is_ready c.requires.ready)

pub part-requires-clause-single : goal.part-requires-clause-single
part-requires-clause-single c = rw c.further_place.ensures (single_mark c.self.inside.several c.self.inside.places c.self.inside.further c.self.inside.keys (length c.self.inside.lists.items) c.self.invariant.0 c.args.self.now c.self.view_is c.args.list _ (far_inside c.self.inside.several c.self.inside.places c.self.inside.further c.self.inside.keys (length c.self.inside.lists.items) c.self.invariant.0 c.args.self.now c.self.view_is c.in-Some.key (record { item = c.args.item; list = c.args.list }) (found c.self.inside.several c.self.inside.places c.self.inside.further c.self.inside.keys (length c.self.inside.lists.items) c.self.invariant.0 c.args.self.now c.self.view_is c.args.item c.args.list c.in-Some.key c.in-Some.ensures.some.0 c.in-Some.ensures.some.1)))

pub remove-requires-in-Some : goal.remove-requires-in-Some
remove-requires-in-Some c = key_there c.self.inside.several c.self.inside.places c.self.inside.further c.self.inside.keys (length c.self.inside.lists.items) c.self.invariant.0 c.args.self.now c.self.view_is c.args.item c.in-Some.key c.in-Some.ensures.some.0

pub invariant_of-self : goal.invariant_of-self
invariant_of-self c = (shared_left c.self.inside.several c.self.inside.places c.self.inside.further c.self.inside.keys (length c.self.inside.lists.items) c.self.invariant.0 c.args.self.now c.self.view_is c.in-Some.key (record { item = c.args.item; list = c.args.list }) (found c.self.inside.several c.self.inside.places c.self.inside.further c.self.inside.keys (length c.self.inside.lists.items) c.self.invariant.0 c.args.self.now c.self.view_is c.args.item c.args.list c.in-Some.key c.in-Some.ensures.some.0 c.in-Some.ensures.some.1) c.remove-in-Some.new.self c.remove-in-Some.ensures.updates c.remove-in-Some.ensures.len c.remove-in-Some.ensures.capacity c.args.is_ready c.requires.ready c.further_place.result c.further_place.ensures c.part.new.places c.part.ensures c.remove.new.self c.remove.ensures, listed_out c.self.inside.further c.remove-in-Some.new.self _ c.self.inside.lists.items c.self.invariant.1 c.remove-in-Some.ensures.updates)

pub returns-in-Some-clause-after : goal.returns-in-Some-clause-after
returns-in-Some-clause-after c = seen_left c.self.inside.several c.self.inside.places c.self.inside.further c.self.inside.keys (length c.self.inside.lists.items) c.self.invariant.0 c.args.self.now c.self.view_is c.in-Some.key (record { item = c.args.item; list = c.args.list }) (found c.self.inside.several c.self.inside.places c.self.inside.further c.self.inside.keys (length c.self.inside.lists.items) c.self.invariant.0 c.args.self.now c.self.view_is c.args.item c.args.list c.in-Some.key c.in-Some.ensures.some.0 c.in-Some.ensures.some.1) c.remove-in-Some.new.self c.remove-in-Some.ensures.updates c.remove-in-Some.ensures.len c.remove-in-Some.ensures.capacity c.args.is_ready c.requires.ready c.further_place.result c.further_place.ensures c.part.new.places c.part.ensures c.remove.new.self c.remove.ensures

pub returns-in-Some-clause-room : goal.returns-in-Some-clause-room
returns-in-Some-clause-room c = room_more c.self.inside.several c.self.inside.places c.self.inside.further c.self.inside.keys (length c.self.inside.lists.items) c.self.invariant.0 c.args.self.now c.self.view_is c.in-Some.key (record { item = c.args.item; list = c.args.list }) (found c.self.inside.several c.self.inside.places c.self.inside.further c.self.inside.keys (length c.self.inside.lists.items) c.self.invariant.0 c.args.self.now c.self.view_is c.args.item c.args.list c.in-Some.key c.in-Some.ensures.some.0 c.in-Some.ensures.some.1) c.remove-in-Some.new.self c.remove-in-Some.ensures.updates c.remove-in-Some.ensures.len c.remove-in-Some.ensures.capacity

pub returns-in_default-clause-after : goal.returns-in_default-clause-after
returns-in_default-clause-after c = absurd (not_found c.self.inside.several c.self.inside.places c.self.inside.further c.self.inside.keys (length c.self.inside.lists.items) c.self.invariant.0 c.args.self.now c.self.view_is c.args.item c.args.list c.requires.further c.in_default.ensures.none)
