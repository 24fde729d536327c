use Rattle.std.proofs.Common.{refl, length}
use Rattle.shared_lists.specs.Places.{seen}
use Rattle.shared_lists.proofs.Promoted.{own_here, own_low, own_marked, own_single, shared_out, seen_out, no_keys, out_apart}
use Rattle.shared_lists.proofs.Leaving.{apart_there}
use Rattle.shared_lists.proofs.Alone.{alone_none}
use Rattle.shared_lists.proofs.SharedLists.leave_alone.Goals as goal

pub own_place-place-requires : goal.own_place-place-requires
own_place-place-requires c = own_low c.self.inside.several c.self.inside.places c.self.inside.further c.self.inside.keys (length c.self.inside.lists.items) c.self.invariant.0 c.args.self.now c.self.view_is c.args.own c.args.item c.requires.first

pub part-requires-clause-there : goal.part-requires-clause-there
part-requires-clause-there c = rw c.own_place-place.ensures (own_here c.self.inside.several c.self.inside.places c.self.inside.further c.self.inside.keys (length c.self.inside.lists.items) c.self.invariant.0 c.args.self.now c.self.view_is c.args.own c.args.item c.requires.first)

pub part-requires-clause-marked : goal.part-requires-clause-marked
part-requires-clause-marked c = rw c.own_place-place.ensures (own_marked c.self.inside.several c.self.inside.places c.self.inside.further c.self.inside.keys (length c.self.inside.lists.items) c.self.invariant.0 c.args.self.now c.self.view_is c.args.own c.args.item c.requires.first c.args.is_ready c.requires.ready)

pub part-requires-clause-single : goal.part-requires-clause-single
part-requires-clause-single c = rw c.own_place-place.ensures (own_single c.self.inside.several c.self.inside.places c.self.inside.further c.self.inside.keys (length c.self.inside.lists.items) c.self.invariant.0 c.args.self.now c.self.view_is c.args.own c.args.item c.requires.first)

pub invariant_of-self : goal.invariant_of-self
invariant_of-self c = (shared_out c.self.inside.several c.self.inside.places c.self.inside.further c.self.inside.keys (length c.self.inside.lists.items) c.self.invariant.0 c.args.self.now c.self.view_is c.args.own c.args.item c.requires.first c.args.is_ready c.requires.ready (alone_none c.self.inside.several c.self.inside.places c.self.inside.further c.self.inside.keys (length c.self.inside.lists.items) c.self.invariant.0 c.args.self.now c.self.view_is c.args.item c.requires.alone) c.own_place-place.result c.own_place-place.ensures c.part.new.places c.part.ensures, c.self.invariant.1)

pub returns-clause-after : goal.returns-clause-after
returns-clause-after c = seen_out c.self.inside.several c.self.inside.places c.self.inside.further c.self.inside.keys (length c.self.inside.lists.items) c.self.invariant.0 c.args.self.now c.self.view_is c.args.own c.args.item c.requires.first c.args.is_ready c.requires.ready (alone_none c.self.inside.several c.self.inside.places c.self.inside.further c.self.inside.keys (length c.self.inside.lists.items) c.self.invariant.0 c.args.self.now c.self.view_is c.args.item c.requires.alone) c.own_place-place.result c.own_place-place.ensures c.part.new.places c.part.ensures

pub returns-clause-apart : goal.returns-clause-apart
returns-clause-apart c = apart_there c.self.inside.several c.part.new.places c.self.inside.further c.self.inside.keys (length c.self.inside.lists.items) (shared_out c.self.inside.several c.self.inside.places c.self.inside.further c.self.inside.keys (length c.self.inside.lists.items) c.self.invariant.0 c.args.self.now c.self.view_is c.args.own c.args.item c.requires.first c.args.is_ready c.requires.ready (alone_none c.self.inside.several c.self.inside.places c.self.inside.further c.self.inside.keys (length c.self.inside.lists.items) c.self.invariant.0 c.args.self.now c.self.view_is c.args.item c.requires.alone) c.own_place-place.result c.own_place-place.ensures c.part.new.places c.part.ensures) (seen c.self.inside.several c.part.new.places c.self.inside.further c.self.inside.keys (length c.self.inside.lists.items)) refl c.args.item (no_keys c.self.inside.several c.self.inside.places c.self.inside.further c.self.inside.keys (length c.self.inside.lists.items) c.self.invariant.0 c.args.self.now c.self.view_is c.args.own c.args.item c.requires.first c.args.is_ready c.requires.ready (alone_none c.self.inside.several c.self.inside.places c.self.inside.further c.self.inside.keys (length c.self.inside.lists.items) c.self.invariant.0 c.args.self.now c.self.view_is c.args.item c.requires.alone)) (out_apart c.self.inside.several c.self.inside.places c.self.inside.further c.self.inside.keys (length c.self.inside.lists.items) c.self.invariant.0 c.args.self.now c.self.view_is c.args.own c.args.item c.requires.first c.args.is_ready c.requires.ready (alone_none c.self.inside.several c.self.inside.places c.self.inside.further c.self.inside.keys (length c.self.inside.lists.items) c.self.invariant.0 c.args.self.now c.self.view_is c.args.item c.requires.alone) c.own_place-place.result c.own_place-place.ensures c.part.new.places c.part.ensures)
