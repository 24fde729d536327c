use Rattle.std.proofs.Common.{arith, length}
use Rattle.shared_lists.proofs.Roomier.{shared_items, seen_items}
use Rattle.shared_lists.proofs.SharedLists.reserve.Goals as goal

pub invariant_of-self : goal.invariant_of-self
invariant_of-self c = (rw c.in_err-reserve.ensures.err c.self.invariant.0, c.self.invariant.1)

pub invariant_of-self-2 : goal.invariant_of-self-2
invariant_of-self-2 c = (shared_items c.self.inside.several c.self.inside.places c.self.inside.further c.self.inside.keys (length c.self.inside.lists.items) c.self.invariant.0 c.args.self.now c.self.view_is c.args.items c.own_place-places.result c.own_place-places.ensures (omega arith) c.reserve.new.self c.in_ok-reserve.ensures.ok, c.self.invariant.1)

pub returns-clause-ok : goal.returns-clause-ok
returns-clause-ok c = seen_items c.self.inside.several c.self.inside.places c.self.inside.further c.self.inside.keys (length c.self.inside.lists.items) c.self.invariant.0 c.args.self.now c.self.view_is c.args.items c.own_place-places.result c.own_place-places.ensures (omega arith) c.reserve.new.self c.in_ok-reserve.ensures.ok
