use Rattle.std.proofs.Common.{length, ◌<◌, subst, sym, arith}
use Rattle.std.proofs.lemmas.List.{length-set}
use Rattle.shared_lists.specs.Shared.{SharedView}
use Rattle.shared_lists.proofs.Again.{listed_in}
use Rattle.shared_lists.proofs.Roomier.{room_fits}
use Rattle.shared_lists.proofs.Entered.{has_room, key_room, key_apart, far_low, far_room, far_apart, far_unmarked, shared_further, seen_further}
use Rattle.shared_lists.proofs.SharedLists.enter_further.Goals as goal

pub insert_reserved-key-requires : goal.insert_reserved-key-requires
insert_reserved-key-requires c = has_room c.self.inside.several c.self.inside.places c.self.inside.further c.self.inside.keys (length c.self.inside.lists.items) c.self.invariant.0 c.args.self.now c.self.view_is c.args.item c.args.list c.requires.several c.requires.room c.requires.elsewhere c.requires.apart

pub push-requires-clause-room : goal.push-requires-clause-room
push-requires-clause-room c = key_room c.self.inside.several c.self.inside.places c.self.inside.further c.self.inside.keys (length c.self.inside.lists.items) c.self.invariant.0 c.args.self.now c.self.view_is c.args.item c.args.list c.requires.several c.requires.room c.requires.elsewhere c.requires.apart c.insert_reserved-key.result c.insert_reserved-key.ensures.was_vacant c.insert_reserved-key.new.self c.insert_reserved-key.ensures.updates c.insert_reserved-key.ensures.key_in_range c.insert_reserved-key.ensures.capacity c.insert_reserved-key.ensures.len

pub push-requires-clause-apart : goal.push-requires-clause-apart
push-requires-clause-apart c = key_apart c.self.inside.several c.self.inside.places c.self.inside.further c.self.inside.keys (length c.self.inside.lists.items) c.self.invariant.0 c.args.self.now c.self.view_is c.args.item c.args.list c.requires.several c.requires.room c.requires.elsewhere c.requires.apart c.insert_reserved-key.result c.insert_reserved-key.ensures.was_vacant c.insert_reserved-key.new.self c.insert_reserved-key.ensures.updates c.insert_reserved-key.ensures.key_in_range c.insert_reserved-key.ensures.capacity c.insert_reserved-key.ensures.len

pub further_place-requires : goal.further_place-requires
further_place-requires c = far_low c.self.inside.several c.self.inside.places c.self.inside.further c.self.inside.keys (length c.self.inside.lists.items) c.self.invariant.0 c.args.self.now c.self.view_is c.args.item c.args.list c.requires.several c.requires.room c.requires.elsewhere c.requires.apart c.insert_reserved-key.result c.insert_reserved-key.ensures.was_vacant c.insert_reserved-key.new.self c.insert_reserved-key.ensures.updates c.insert_reserved-key.ensures.key_in_range c.insert_reserved-key.ensures.capacity c.insert_reserved-key.ensures.len

pub join-requires-clause-room : goal.join-requires-clause-room
join-requires-clause-room c = rw c.further_place.ensures (far_room c.self.inside.several c.self.inside.places c.self.inside.further c.self.inside.keys (length c.self.inside.lists.items) c.self.invariant.0 c.args.self.now c.self.view_is c.args.item c.args.list c.requires.several c.requires.room c.requires.elsewhere c.requires.apart c.insert_reserved-key.result c.insert_reserved-key.ensures.was_vacant c.insert_reserved-key.new.self c.insert_reserved-key.ensures.updates c.insert_reserved-key.ensures.key_in_range c.insert_reserved-key.ensures.capacity c.insert_reserved-key.ensures.len)

pub join-requires-clause-apart : goal.join-requires-clause-apart
join-requires-clause-apart c = rw c.further_place.ensures (far_apart c.self.inside.several c.self.inside.places c.self.inside.further c.self.inside.keys (length c.self.inside.lists.items) c.self.invariant.0 c.args.self.now c.self.view_is c.args.item c.args.list c.requires.several c.requires.room c.requires.elsewhere c.requires.apart c.insert_reserved-key.result c.insert_reserved-key.ensures.was_vacant c.insert_reserved-key.new.self c.insert_reserved-key.ensures.updates c.insert_reserved-key.ensures.key_in_range c.insert_reserved-key.ensures.capacity c.insert_reserved-key.ensures.len)

pub join-requires-clause-unmarked : goal.join-requires-clause-unmarked
join-requires-clause-unmarked c = rw c.further_place.ensures (far_unmarked c.self.inside.several c.self.inside.places c.self.inside.further c.self.inside.keys (length c.self.inside.lists.items) c.self.invariant.0 c.args.self.now c.self.view_is c.args.item c.args.list c.requires.several c.requires.room c.requires.elsewhere c.requires.apart c.insert_reserved-key.result c.insert_reserved-key.ensures.was_vacant c.insert_reserved-key.new.self c.insert_reserved-key.ensures.updates c.insert_reserved-key.ensures.key_in_range c.insert_reserved-key.ensures.capacity c.insert_reserved-key.ensures.len)

pub invariant_of-self : goal.invariant_of-self
invariant_of-self c = (rw (length-set c.self.inside.lists.items c.insert_reserved-key.result c.args.list) (shared_further c.self.inside.several c.self.inside.places c.self.inside.further c.self.inside.keys (length c.self.inside.lists.items) c.self.invariant.0 c.args.self.now c.self.view_is c.args.item c.args.list c.requires.several c.requires.room c.requires.elsewhere c.requires.apart c.insert_reserved-key.result c.insert_reserved-key.ensures.was_vacant c.insert_reserved-key.new.self c.insert_reserved-key.ensures.updates c.insert_reserved-key.ensures.key_in_range c.insert_reserved-key.ensures.capacity c.insert_reserved-key.ensures.len c.further_place.result c.further_place.ensures c.args.is_ready c.join.new.places c.join.ensures c.push.new.self c.push.ensures), listed_in c.self.inside.further c.insert_reserved-key.new.self c.insert_reserved-key.result (record { item = c.args.item; list = c.args.list }) c.self.inside.lists.items c.self.invariant.1 c.insert_reserved-key.ensures.updates (let f = room_fits c.self.inside.further (length c.self.inside.lists.items) (subst (λ (v : SharedView). 0 < v.room) (sym c.self.view_is) c.requires.room) in let h = f.0 in let r = c.insert_reserved-key.ensures.key_in_range in let e = c.insert_reserved-key.ensures.capacity in omega (arith, h, r, e)))

pub returns : goal.returns
returns c = rw (length-set c.self.inside.lists.items c.insert_reserved-key.result c.args.list) (seen_further c.self.inside.several c.self.inside.places c.self.inside.further c.self.inside.keys (length c.self.inside.lists.items) c.self.invariant.0 c.args.self.now c.self.view_is c.args.item c.args.list c.requires.several c.requires.room c.requires.elsewhere c.requires.apart c.insert_reserved-key.result c.insert_reserved-key.ensures.was_vacant c.insert_reserved-key.new.self c.insert_reserved-key.ensures.updates c.insert_reserved-key.ensures.key_in_range c.insert_reserved-key.ensures.capacity c.insert_reserved-key.ensures.len c.further_place.result c.further_place.ensures c.args.is_ready c.join.new.places c.join.ensures c.push.new.self c.push.ensures)

pub index_mut-requires : goal.index_mut-requires
index_mut-requires c = (let f = room_fits c.self.inside.further (length c.self.inside.lists.items) (subst (λ (v : SharedView). 0 < v.room) (sym c.self.view_is) c.requires.room) in let h = f.0 in let r = c.insert_reserved-key.ensures.key_in_range in let e = c.insert_reserved-key.ensures.capacity in omega (arith, h, r, e))
