use Rattle.std.proofs.Common.{◌<◌, ◌++◌, ◌∷◌, [], inl, inr, sym, ap, subst, ◌∙◌, Contains}
use Rattle.member_lists.specs.Lists.{ListsView, MarkedView, list_of, IsApart}
use Rattle.shared_lists.specs.Shared.{joined}
use Rattle.shared_lists.specs.Marked.{joined_far}
use Rattle.shared_lists.specs.Places.{far, list_in}
use Rattle.shared_lists.proofs.Seen.{far_once}
use Rattle.shared_lists.proofs.Standing.{joined_from}
use Rattle.shared_lists.proofs.Marking.{head_in, tail_in, not_behind}
use Rattle.shared_lists.proofs.Walk.{IsAt, left_from, rest_of, none_of, none_back, at_inside, at_next, fewer}
use Rattle.shared_lists.proofs.mark_each.Goals as goal

pub list-list-requires : goal.list-list-requires
list-list-requires c = c.requires.there c.in-Some.key (at_inside (list_of c.args.keys.now c.args.item) c.in-Some.key c.loop-next.invariant.front c.loop-next.invariant.back (subst (λ n. IsAt (list_of c.args.keys.now c.args.item) n c.loop-next.invariant.front c.loop-next.invariant.back) c.in-Some.is c.loop-next.invariant.at))

pub further_place-requires : goal.further_place-requires
further_place-requires c = c.requires.fit c.in-Some.key (at_inside (list_of c.args.keys.now c.args.item) c.in-Some.key c.loop-next.invariant.front c.loop-next.invariant.back (subst (λ n. IsAt (list_of c.args.keys.now c.args.item) n c.loop-next.invariant.front c.loop-next.invariant.back) c.in-Some.is c.loop-next.invariant.at))

pub mark-requires-clause-there : goal.mark-requires-clause-there
mark-requires-clause-there c =
    subst (λ z. Contains (list_of c.loop-next.places.all c.list-list.result) z) (sym c.further_place.ensures)
    (subst (λ (w : ListsView). Contains (list_of w c.list-list.result) (far c.in-Some.key)) (sym c.loop-next.invariant.all)
    (subst (λ l. Contains (list_of c.args.places.now.all l) (far c.in-Some.key)) (sym c.list-list.ensures) (c.requires.inside c.in-Some.key (at_inside (list_of c.args.keys.now c.args.item) c.in-Some.key c.loop-next.invariant.front c.loop-next.invariant.back (subst (λ n. IsAt (list_of c.args.keys.now c.args.item) n c.loop-next.invariant.front c.loop-next.invariant.back) c.in-Some.is c.loop-next.invariant.at)))))

pub mark-requires-clause-unmarked : goal.mark-requires-clause-unmarked
mark-requires-clause-unmarked c = subst (λ z. IsApart c.loop-next.places.marked z) (sym c.further_place.ensures) (c.loop-next.invariant.left c.in-Some.key (subst (λ ys. Contains ys c.in-Some.key) (sym (rest_of (list_of c.args.keys.now c.args.item) c.in-Some.key c.loop-next.invariant.front c.loop-next.invariant.back (subst (λ n. IsAt (list_of c.args.keys.now c.args.item) n c.loop-next.invariant.front c.loop-next.invariant.back) c.in-Some.is c.loop-next.invariant.at)).back_is) (head_in c.in-Some.key ((rest_of (list_of c.args.keys.now c.args.item) c.in-Some.key c.loop-next.invariant.front c.loop-next.invariant.back (subst (λ n. IsAt (list_of c.args.keys.now c.args.item) n c.loop-next.invariant.front c.loop-next.invariant.back) c.in-Some.is c.loop-next.invariant.at)).rest))))

pub behind-next-requires : goal.behind-next-requires
behind-next-requires c = at_inside (list_of c.args.keys.now c.args.item) c.in-Some.key c.loop-next.invariant.front c.loop-next.invariant.back (subst (λ n. IsAt (list_of c.args.keys.now c.args.item) n c.loop-next.invariant.front c.loop-next.invariant.back) c.in-Some.is c.loop-next.invariant.at)

pub loop-next-smaller : goal.loop-next-smaller
loop-next-smaller c = subst (λ n. left_from (list_of c.args.keys.now c.args.item) c.behind-next.result < left_from (list_of c.args.keys.now c.args.item) n) (sym c.in-Some.is) (fewer (list_of c.args.keys.now c.args.item) c.in-Some.key c.loop-next.invariant.front c.loop-next.invariant.back (subst (λ n. IsAt (list_of c.args.keys.now c.args.item) n c.loop-next.invariant.front c.loop-next.invariant.back) c.in-Some.is c.loop-next.invariant.at) c.behind-next.result c.behind-next.ensures (c.requires.single c.in-Some.key) c.requires.single)

pub loop-next-preserved : goal.loop-next-preserved
loop-next-preserved c =
    record {
      front = c.loop-next.invariant.front ++ c.in-Some.key ∷ [];
      back = (rest_of (list_of c.args.keys.now c.args.item) c.in-Some.key c.loop-next.invariant.front c.loop-next.invariant.back (subst (λ n. IsAt (list_of c.args.keys.now c.args.item) n c.loop-next.invariant.front c.loop-next.invariant.back) c.in-Some.is c.loop-next.invariant.at)).rest;
      at = at_next (list_of c.args.keys.now c.args.item) c.in-Some.key c.loop-next.invariant.front c.loop-next.invariant.back (subst (λ n. IsAt (list_of c.args.keys.now c.args.item) n c.loop-next.invariant.front c.loop-next.invariant.back) c.in-Some.is c.loop-next.invariant.at) c.behind-next.result c.behind-next.ensures;
      marked =
          ap (λ (w : MarkedView). joined_far w.marked c.args.further.now ((rest_of (list_of c.args.keys.now c.args.item) c.in-Some.key c.loop-next.invariant.front c.loop-next.invariant.back (subst (λ n. IsAt (list_of c.args.keys.now c.args.item) n c.loop-next.invariant.front c.loop-next.invariant.back) c.in-Some.is c.loop-next.invariant.at)).rest)) c.mark.ensures
          ∙ ap (λ z. joined_far (joined c.loop-next.places.marked c.list-list.result z) c.args.further.now ((rest_of (list_of c.args.keys.now c.args.item) c.in-Some.key c.loop-next.invariant.front c.loop-next.invariant.back (subst (λ n. IsAt (list_of c.args.keys.now c.args.item) n c.loop-next.invariant.front c.loop-next.invariant.back) c.in-Some.is c.loop-next.invariant.at)).rest)) c.further_place.ensures
          ∙ ap (λ l. joined_far (joined c.loop-next.places.marked l (far c.in-Some.key)) c.args.further.now ((rest_of (list_of c.args.keys.now c.args.item) c.in-Some.key c.loop-next.invariant.front c.loop-next.invariant.back (subst (λ n. IsAt (list_of c.args.keys.now c.args.item) n c.loop-next.invariant.front c.loop-next.invariant.back) c.in-Some.is c.loop-next.invariant.at)).rest)) c.list-list.ensures
          ∙ ap (joined_far c.loop-next.places.marked c.args.further.now) (sym ((rest_of (list_of c.args.keys.now c.args.item) c.in-Some.key c.loop-next.invariant.front c.loop-next.invariant.back (subst (λ n. IsAt (list_of c.args.keys.now c.args.item) n c.loop-next.invariant.front c.loop-next.invariant.back) c.in-Some.is c.loop-next.invariant.at)).back_is))
          ∙ c.loop-next.invariant.marked;
      all = ap (λ (w : MarkedView). w.all) c.mark.ensures ∙ c.loop-next.invariant.all;
      left = λ k inside l d. elim (joined_from c.loop-next.places.marked c.list-list.result c.further_place.result l (far k) (subst (λ (w : MarkedView). Contains (list_of w.marked l) (far k)) c.mark.ensures d)) [
        | inl a ↦ c.loop-next.invariant.left k (subst (λ ys. Contains ys k) (sym (rest_of (list_of c.args.keys.now c.args.item) c.in-Some.key c.loop-next.invariant.front c.loop-next.invariant.back (subst (λ n. IsAt (list_of c.args.keys.now c.args.item) n c.loop-next.invariant.front c.loop-next.invariant.back) c.in-Some.is c.loop-next.invariant.at)).back_is) (tail_in c.in-Some.key k ((rest_of (list_of c.args.keys.now c.args.item) c.in-Some.key c.loop-next.invariant.front c.loop-next.invariant.back (subst (λ n. IsAt (list_of c.args.keys.now c.args.item) n c.loop-next.invariant.front c.loop-next.invariant.back) c.in-Some.is c.loop-next.invariant.at)).rest) inside)) l a
        | inr a ↦ not_behind (list_of c.args.keys.now c.args.item) c.loop-next.invariant.front ((rest_of (list_of c.args.keys.now c.args.item) c.in-Some.key c.loop-next.invariant.front c.loop-next.invariant.back (subst (λ n. IsAt (list_of c.args.keys.now c.args.item) n c.loop-next.invariant.front c.loop-next.invariant.back) c.in-Some.is c.loop-next.invariant.at)).rest) c.in-Some.key k (rest_of (list_of c.args.keys.now c.args.item) c.in-Some.key c.loop-next.invariant.front c.loop-next.invariant.back (subst (λ n. IsAt (list_of c.args.keys.now c.args.item) n c.loop-next.invariant.front c.loop-next.invariant.back) c.in-Some.is c.loop-next.invariant.at)).is (c.requires.single c.in-Some.key) inside (far_once k c.in-Some.key (a.1 ∙ c.further_place.ensures))
      ];
    }

pub returns : goal.returns
returns c =
    ap (λ w. let u : MarkedView = record { all = w; marked = c.loop-next.places.marked } in u) c.loop-next.invariant.all
    ∙ ap (λ w. let u : MarkedView = record { all = c.args.places.now.all; marked = w } in u)
    (ap (joined_far c.loop-next.places.marked c.args.further.now) (sym (none_back (list_of c.args.keys.now c.args.item) c.loop-next.invariant.front c.loop-next.invariant.back (subst (λ n. IsAt (list_of c.args.keys.now c.args.item) n c.loop-next.invariant.front c.loop-next.invariant.back) (none_of c.loop-next.next c.in_default.not-Some) c.loop-next.invariant.at))) ∙ c.loop-next.invariant.marked)
