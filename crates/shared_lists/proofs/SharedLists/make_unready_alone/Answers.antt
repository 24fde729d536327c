use Rattle.std.proofs.Common.{◌∷◌, ap, ◌∙◌, length}
use Rattle.shared_lists.specs.Shared.{SharedView, parted_each}
use Rattle.shared_lists.proofs.Promoted.{own_low}
use Rattle.shared_lists.proofs.Marking.{own_ready, shared_unready, seen_unready}
use Rattle.shared_lists.proofs.Alone.{alone_parted}
use Rattle.shared_lists.proofs.SharedLists.make_unready_alone.Goals as goal

pub own_place-place-requires : goal.own_place-place-requires
own_place-place-requires c = own_low c.self.inside.several c.self.inside.places c.self.inside.further c.self.inside.keys (length c.self.inside.lists.items) c.self.invariant.0 c.args.self.now c.self.view_is c.args.own c.args.item c.requires.first

pub unmark-requires : goal.unmark-requires
unmark-requires c = rw c.own_place-place.ensures (own_ready c.self.inside.several c.self.inside.places c.self.inside.further c.self.inside.keys (length c.self.inside.lists.items) c.self.invariant.0 c.args.self.now c.self.view_is c.args.item c.args.own c.requires.first c.requires.ready)

pub invariant_of-self : goal.invariant_of-self
invariant_of-self c = (shared_unready c.self.inside.several c.self.inside.places c.self.inside.further c.self.inside.keys (length c.self.inside.lists.items) c.self.invariant.0 c.args.self.now c.self.view_is c.args.item c.args.own c.requires.first c.own_place-place.result c.own_place-place.ensures c.unmark.new.self c.unmark.new.self c.unmark.ensures (alone_parted c.self.inside.several c.self.inside.places c.self.inside.further c.self.inside.keys (length c.self.inside.lists.items) c.self.invariant.0 c.args.self.now c.self.view_is c.args.item c.requires.alone c.unmark.new.self), c.self.invariant.1)

pub returns : goal.returns
returns c =
    seen_unready c.self.inside.several c.self.inside.places c.self.inside.further c.self.inside.keys (length c.self.inside.lists.items) c.self.invariant.0 c.args.self.now c.self.view_is c.args.item c.args.own c.requires.first c.own_place-place.result c.own_place-place.ensures c.unmark.new.self c.unmark.new.self c.unmark.ensures (alone_parted c.self.inside.several c.self.inside.places c.self.inside.further c.self.inside.keys (length c.self.inside.lists.items) c.self.invariant.0 c.args.self.now c.self.view_is c.args.item c.requires.alone c.unmark.new.self)
    ∙ ap (λ ls. let u : SharedView = record c.args.self.now { ready = parted_each c.args.self.now.ready (c.args.own ∷ ls) c.args.item } in u) c.requires.alone
