use Rattle.std.proofs.Common.{◌<◌, ◌++◌, ◌∷◌, [], inl, inr, sym, ap, subst, ◌∙◌}
use Rattle.std.proofs.lemmas.List.Elements.{Contains-push_cases}
use Rattle.member_lists.specs.Lists.{list_of}
use Rattle.shared_lists.specs.Places.{list_at, list_in}
use Rattle.shared_lists.proofs.Walk.{IsAt, left_from, rest_of, at_inside, at_next, fewer}
use Rattle.shared_lists.proofs.find.Goals as goal

pub index-requires : goal.index-requires
index-requires c = c.requires.there c.in-Some.key (at_inside (list_of c.args.keys.now c.args.item) c.in-Some.key c.loop-next.invariant.front c.loop-next.invariant.back (subst (λ n. IsAt (list_of c.args.keys.now c.args.item) n c.loop-next.invariant.front c.loop-next.invariant.back) c.in-Some.is c.loop-next.invariant.at))

pub returns-then-index-list-clause-some : goal.returns-then-index-list-clause-some
returns-then-index-list-clause-some c = (at_inside (list_of c.args.keys.now c.args.item) c.in-Some.key c.loop-next.invariant.front c.loop-next.invariant.back (subst (λ n. IsAt (list_of c.args.keys.now c.args.item) n c.loop-next.invariant.front c.loop-next.invariant.back) c.in-Some.is c.loop-next.invariant.at), ap list_in c.index.ensures ∙ c.if-index-list.true)

pub behind-next-requires : goal.behind-next-requires
behind-next-requires c = at_inside (list_of c.args.keys.now c.args.item) c.in-Some.key c.loop-next.invariant.front c.loop-next.invariant.back (subst (λ n. IsAt (list_of c.args.keys.now c.args.item) n c.loop-next.invariant.front c.loop-next.invariant.back) c.in-Some.is c.loop-next.invariant.at)

pub loop-next-smaller : goal.loop-next-smaller
loop-next-smaller c = subst (λ n. left_from (list_of c.args.keys.now c.args.item) c.behind-next.result < left_from (list_of c.args.keys.now c.args.item) n) (sym c.in-Some.is) (fewer (list_of c.args.keys.now c.args.item) c.in-Some.key c.loop-next.invariant.front c.loop-next.invariant.back (subst (λ n. IsAt (list_of c.args.keys.now c.args.item) n c.loop-next.invariant.front c.loop-next.invariant.back) c.in-Some.is c.loop-next.invariant.at) c.behind-next.result c.behind-next.ensures (c.requires.single c.in-Some.key) c.requires.single)

pub loop-next-preserved : goal.loop-next-preserved
loop-next-preserved c =
    record {
      front = c.loop-next.invariant.front ++ c.in-Some.key ∷ [];
      back = (rest_of (list_of c.args.keys.now c.args.item) c.in-Some.key c.loop-next.invariant.front c.loop-next.invariant.back (subst (λ n. IsAt (list_of c.args.keys.now c.args.item) n c.loop-next.invariant.front c.loop-next.invariant.back) c.in-Some.is c.loop-next.invariant.at)).rest;
      at = at_next (list_of c.args.keys.now c.args.item) c.in-Some.key c.loop-next.invariant.front c.loop-next.invariant.back (subst (λ n. IsAt (list_of c.args.keys.now c.args.item) n c.loop-next.invariant.front c.loop-next.invariant.back) c.in-Some.is c.loop-next.invariant.at) c.behind-next.result c.behind-next.ensures;
      none = λ k inside. elim (Contains-push_cases c.loop-next.invariant.front c.in-Some.key k inside) [
        | inl old ↦ c.loop-next.invariant.none k old
        | inr same ↦ λ is. c.if-index-list.false (sym (ap list_in c.index.ensures) ∙ ap (list_at c.args.further.now) same ∙ is)
      ];
    }
