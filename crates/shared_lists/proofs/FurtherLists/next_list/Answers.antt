use Rattle.std.proofs.Common.{◌∷◌, ap, sym, ◌∙◌}
use Rattle.member_lists.specs.Lists.{list_of}
use Rattle.shared_lists.specs.Places.{lists_from, list_in}
use Rattle.shared_lists.proofs.Telling.{none_told, told_next, next_inside}
use Rattle.shared_lists.proofs.FurtherLists.next_list.Goals as goal

pub behind-self-inside-requires : goal.behind-self-inside-requires
behind-self-inside-requires c = c.self.invariant.at c.in_ok-key.key c.in_ok-key.was

pub index-requires : goal.index-requires
index-requires c = c.self.invariant.there c.in_ok-key.key (c.self.invariant.at c.in_ok-key.key c.in_ok-key.was)

pub invariant_of-self : goal.invariant_of-self
invariant_of-self c = record { there = c.self.invariant.there; single = c.self.invariant.single; at = next_inside c.self.inside.further.now (list_of c.self.inside.keys.now c.self.inside.item) c.in_ok-key.key (c.self.invariant.at c.in_ok-key.key c.in_ok-key.was) c.self.invariant.single c.behind-self-inside.result c.behind-self-inside.ensures }

pub returns-in_err-key-clause-none : goal.returns-in_err-key-clause-none
returns-in_err-key-clause-none c =
    none_told _ _ _
    (sym c.self.view_is ∙ ap (lists_from c.self.inside.further.now (list_of c.self.inside.keys.now c.self.inside.item)) c.in_err-key.was)
    (sym c.self.view_is ∙ ap (lists_from c.self.inside.further.now (list_of c.self.inside.keys.now c.self.inside.item)) c.in_err-key.was)

pub returns-clause-some : goal.returns-clause-some
returns-clause-some c =
    sym c.self.view_is
    ∙ ap (lists_from c.self.inside.further.now (list_of c.self.inside.keys.now c.self.inside.item)) c.in_ok-key.was
    ∙ told_next c.self.inside.further.now (list_of c.self.inside.keys.now c.self.inside.item) c.in_ok-key.key (c.self.invariant.at c.in_ok-key.key c.in_ok-key.was) c.self.invariant.single c.behind-self-inside.result c.behind-self-inside.ensures
    ∙ ap (λ l. l ∷ lists_from c.self.inside.further.now (list_of c.self.inside.keys.now c.self.inside.item) c.behind-self-inside.result) (ap list_in c.index.ensures)
