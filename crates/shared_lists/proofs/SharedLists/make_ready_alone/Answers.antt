use Rattle.std.proofs.Common.{◌∷◌, ap, ◌∙◌, length}
use Rattle.shared_lists.specs.Shared.{SharedView, joined_each}
use Rattle.shared_lists.proofs.Promoted.{own_low, own_here}
use Rattle.shared_lists.proofs.Marking.{own_unready, shared_ready, seen_ready}
use Rattle.shared_lists.proofs.Alone.{alone_far}
use Rattle.shared_lists.proofs.SharedLists.make_ready_alone.Goals as goal

pub own_place-place-requires : goal.own_place-place-requires
own_place-place-requires c = own_low c.self.inside.several c.self.inside.places c.self.inside.further c.self.inside.keys (length c.self.inside.lists.items) c.self.invariant.0 c.args.self.now c.self.view_is c.args.own c.args.item c.requires.first

pub mark-requires-clause-there : goal.mark-requires-clause-there
mark-requires-clause-there c = rw c.own_place-place.ensures (own_here c.self.inside.several c.self.inside.places c.self.inside.further c.self.inside.keys (length c.self.inside.lists.items) c.self.invariant.0 c.args.self.now c.self.view_is c.args.own c.args.item c.requires.first)

pub mark-requires-clause-unmarked : goal.mark-requires-clause-unmarked
mark-requires-clause-unmarked c = rw c.own_place-place.ensures (own_unready c.self.inside.several c.self.inside.places c.self.inside.further c.self.inside.keys (length c.self.inside.lists.items) c.self.invariant.0 c.args.self.now c.self.view_is c.args.item c.args.own c.requires.first c.requires.unready)

pub invariant_of-self : goal.invariant_of-self
invariant_of-self c = (shared_ready c.self.inside.several c.self.inside.places c.self.inside.further c.self.inside.keys (length c.self.inside.lists.items) c.self.invariant.0 c.args.self.now c.self.view_is c.args.item c.args.own c.requires.first c.own_place-place.result c.own_place-place.ensures c.mark.new.self c.mark.new.self c.mark.ensures (alone_far c.self.inside.several c.self.inside.places c.self.inside.further c.self.inside.keys (length c.self.inside.lists.items) c.self.invariant.0 c.args.self.now c.self.view_is c.args.item c.requires.alone c.mark.new.self), c.self.invariant.1)

pub returns : goal.returns
returns c =
    seen_ready c.self.inside.several c.self.inside.places c.self.inside.further c.self.inside.keys (length c.self.inside.lists.items) c.self.invariant.0 c.args.self.now c.self.view_is c.args.item c.args.own c.requires.first c.own_place-place.result c.own_place-place.ensures c.mark.new.self c.mark.new.self c.mark.ensures (alone_far c.self.inside.several c.self.inside.places c.self.inside.further c.self.inside.keys (length c.self.inside.lists.items) c.self.invariant.0 c.args.self.now c.self.view_is c.args.item c.requires.alone c.mark.new.self)
    ∙ ap (λ ls. let u : SharedView = record c.args.self.now { ready = joined_each c.args.self.now.ready (c.args.own ∷ ls) c.args.item } in u) c.requires.alone
