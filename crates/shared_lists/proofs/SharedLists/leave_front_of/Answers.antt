use Rattle.std.proofs.Common.{◌/◌, sym, ap, subst, ◌∙◌, is_some, length}
use Rattle.member_lists.specs.Lists.{list_of, IsMarkedIn}
use Rattle.shared_lists.proofs.Walk.{none_of}
use Rattle.shared_lists.proofs.Parted.{far_marked, single_mark, shared_left, seen_left, room_more}
use Rattle.shared_lists.proofs.Alone.{front_further, front_some, front_there, front_far}
use Rattle.shared_lists.proofs.Promoted.{first_inside}
use Rattle.shared_lists.proofs.Again.{listed_out}
use Rattle.shared_lists.proofs.SharedLists.leave_front_of.Goals as goal

pub part-requires-clause-there : goal.part-requires-clause-there
part-requires-clause-there c = first_inside (list_of c.self.inside.places.all c.args.list) c.in-Some.place (sym c.first.ensures ∙ c.in-Some.is)

pub part-requires-clause-marked : goal.part-requires-clause-marked
part-requires-clause-marked c = subst (λ x. IsMarkedIn c.self.inside.places c.args.list x c.args.is_ready) (sym (front_far c.self.inside.several c.self.inside.places c.self.inside.further c.self.inside.keys (length c.self.inside.lists.items) c.self.invariant.0 c.args.self.now c.self.view_is c.args.list c.args.item (front_further c.self.inside.several c.self.inside.places c.self.inside.further c.self.inside.keys (length c.self.inside.lists.items) c.self.invariant.0 c.args.self.now c.self.view_is c.requires.further.0 c.args.list c.args.item c.requires.further.1 c.requires.further.2 c.requires.front) c.requires.front c.in-Some.place (sym c.first.ensures ∙ c.in-Some.is))) (far_marked c.self.inside.several c.self.inside.places c.self.inside.further c.self.inside.keys (length c.self.inside.lists.items) c.self.invariant.0 c.args.self.now c.self.view_is (c.in-Some.place / 2) (record { item = c.args.item; list = c.args.list }) (front_there c.self.inside.several c.self.inside.places c.self.inside.further c.self.inside.keys (length c.self.inside.lists.items) c.self.invariant.0 c.args.self.now c.self.view_is c.args.list c.args.item (front_further c.self.inside.several c.self.inside.places c.self.inside.further c.self.inside.keys (length c.self.inside.lists.items) c.self.invariant.0 c.args.self.now c.self.view_is c.requires.further.0 c.args.list c.args.item c.requires.further.1 c.requires.further.2 c.requires.front) c.requires.front c.in-Some.place (sym c.first.ensures ∙ c.in-Some.is)) c.args.is_ready c.requires.ready)

pub part-requires-clause-single : goal.part-requires-clause-single
part-requires-clause-single c = single_mark c.self.inside.several c.self.inside.places c.self.inside.further c.self.inside.keys (length c.self.inside.lists.items) c.self.invariant.0 c.args.self.now c.self.view_is c.args.list c.in-Some.place (first_inside (list_of c.self.inside.places.all c.args.list) c.in-Some.place (sym c.first.ensures ∙ c.in-Some.is))

pub remove-requires : goal.remove-requires
remove-requires c = c.self.invariant.0.keyed.listed (c.in-Some.place / 2) (record { item = c.args.item; list = c.args.list }) (front_there c.self.inside.several c.self.inside.places c.self.inside.further c.self.inside.keys (length c.self.inside.lists.items) c.self.invariant.0 c.args.self.now c.self.view_is c.args.list c.args.item (front_further c.self.inside.several c.self.inside.places c.self.inside.further c.self.inside.keys (length c.self.inside.lists.items) c.self.invariant.0 c.args.self.now c.self.view_is c.requires.further.0 c.args.list c.args.item c.requires.further.1 c.requires.further.2 c.requires.front) c.requires.front c.in-Some.place (sym c.first.ensures ∙ c.in-Some.is))

pub remove-requires-in-Some : goal.remove-requires-in-Some
remove-requires-in-Some c = ap is_some (front_there c.self.inside.several c.self.inside.places c.self.inside.further c.self.inside.keys (length c.self.inside.lists.items) c.self.invariant.0 c.args.self.now c.self.view_is c.args.list c.args.item (front_further c.self.inside.several c.self.inside.places c.self.inside.further c.self.inside.keys (length c.self.inside.lists.items) c.self.invariant.0 c.args.self.now c.self.view_is c.requires.further.0 c.args.list c.args.item c.requires.further.1 c.requires.further.2 c.requires.front) c.requires.front c.in-Some.place (sym c.first.ensures ∙ c.in-Some.is))

pub invariant_of-self : goal.invariant_of-self
invariant_of-self c = (shared_left c.self.inside.several c.self.inside.places c.self.inside.further c.self.inside.keys (length c.self.inside.lists.items) c.self.invariant.0 c.args.self.now c.self.view_is (c.in-Some.place / 2) (record { item = c.args.item; list = c.args.list }) (front_there c.self.inside.several c.self.inside.places c.self.inside.further c.self.inside.keys (length c.self.inside.lists.items) c.self.invariant.0 c.args.self.now c.self.view_is c.args.list c.args.item (front_further c.self.inside.several c.self.inside.places c.self.inside.further c.self.inside.keys (length c.self.inside.lists.items) c.self.invariant.0 c.args.self.now c.self.view_is c.requires.further.0 c.args.list c.args.item c.requires.further.1 c.requires.further.2 c.requires.front) c.requires.front c.in-Some.place (sym c.first.ensures ∙ c.in-Some.is)) c.remove-in-Some.new.self c.remove-in-Some.ensures.updates c.remove-in-Some.ensures.len c.remove-in-Some.ensures.capacity c.args.is_ready c.requires.ready c.in-Some.place (front_far c.self.inside.several c.self.inside.places c.self.inside.further c.self.inside.keys (length c.self.inside.lists.items) c.self.invariant.0 c.args.self.now c.self.view_is c.args.list c.args.item (front_further c.self.inside.several c.self.inside.places c.self.inside.further c.self.inside.keys (length c.self.inside.lists.items) c.self.invariant.0 c.args.self.now c.self.view_is c.requires.further.0 c.args.list c.args.item c.requires.further.1 c.requires.further.2 c.requires.front) c.requires.front c.in-Some.place (sym c.first.ensures ∙ c.in-Some.is)) c.part.new.places c.part.ensures c.remove.new.self c.remove.ensures, listed_out c.self.inside.further c.remove-in-Some.new.self _ c.self.inside.lists.items c.self.invariant.1 c.remove-in-Some.ensures.updates)

pub returns-in-Some-clause-after : goal.returns-in-Some-clause-after
returns-in-Some-clause-after c = seen_left c.self.inside.several c.self.inside.places c.self.inside.further c.self.inside.keys (length c.self.inside.lists.items) c.self.invariant.0 c.args.self.now c.self.view_is (c.in-Some.place / 2) (record { item = c.args.item; list = c.args.list }) (front_there c.self.inside.several c.self.inside.places c.self.inside.further c.self.inside.keys (length c.self.inside.lists.items) c.self.invariant.0 c.args.self.now c.self.view_is c.args.list c.args.item (front_further c.self.inside.several c.self.inside.places c.self.inside.further c.self.inside.keys (length c.self.inside.lists.items) c.self.invariant.0 c.args.self.now c.self.view_is c.requires.further.0 c.args.list c.args.item c.requires.further.1 c.requires.further.2 c.requires.front) c.requires.front c.in-Some.place (sym c.first.ensures ∙ c.in-Some.is)) c.remove-in-Some.new.self c.remove-in-Some.ensures.updates c.remove-in-Some.ensures.len c.remove-in-Some.ensures.capacity c.args.is_ready c.requires.ready c.in-Some.place (front_far c.self.inside.several c.self.inside.places c.self.inside.further c.self.inside.keys (length c.self.inside.lists.items) c.self.invariant.0 c.args.self.now c.self.view_is c.args.list c.args.item (front_further c.self.inside.several c.self.inside.places c.self.inside.further c.self.inside.keys (length c.self.inside.lists.items) c.self.invariant.0 c.args.self.now c.self.view_is c.requires.further.0 c.args.list c.args.item c.requires.further.1 c.requires.further.2 c.requires.front) c.requires.front c.in-Some.place (sym c.first.ensures ∙ c.in-Some.is)) c.part.new.places c.part.ensures c.remove.new.self c.remove.ensures

pub returns-in-Some-clause-room : goal.returns-in-Some-clause-room
returns-in-Some-clause-room c = room_more c.self.inside.several c.self.inside.places c.self.inside.further c.self.inside.keys (length c.self.inside.lists.items) c.self.invariant.0 c.args.self.now c.self.view_is (c.in-Some.place / 2) (record { item = c.args.item; list = c.args.list }) (front_there c.self.inside.several c.self.inside.places c.self.inside.further c.self.inside.keys (length c.self.inside.lists.items) c.self.invariant.0 c.args.self.now c.self.view_is c.args.list c.args.item (front_further c.self.inside.several c.self.inside.places c.self.inside.further c.self.inside.keys (length c.self.inside.lists.items) c.self.invariant.0 c.args.self.now c.self.view_is c.requires.further.0 c.args.list c.args.item c.requires.further.1 c.requires.further.2 c.requires.front) c.requires.front c.in-Some.place (sym c.first.ensures ∙ c.in-Some.is)) c.remove-in-Some.new.self c.remove-in-Some.ensures.updates c.remove-in-Some.ensures.len c.remove-in-Some.ensures.capacity

pub returns-in_default-clause-after : goal.returns-in_default-clause-after
returns-in_default-clause-after c = absurd (front_some c.self.inside.several c.self.inside.places c.self.inside.further c.self.inside.keys (length c.self.inside.lists.items) c.self.invariant.0 c.args.self.now c.self.view_is c.args.list c.args.item (front_further c.self.inside.several c.self.inside.places c.self.inside.further c.self.inside.keys (length c.self.inside.lists.items) c.self.invariant.0 c.args.self.now c.self.view_is c.requires.further.0 c.args.list c.args.item c.requires.further.1 c.requires.further.2 c.requires.front) c.requires.front (sym c.first.ensures ∙ none_of c.first.result c.in_default.not-Some))
