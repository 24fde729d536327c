use Rattle.std.proofs.Common.{ℕ, Option, Some, None, slice_set, refl, sym, subst, ◌∙◌}
use Rattle.member_lists.specs.declared.Ends.{Ends}
use Rattle.member_lists.specs.Chains.{ends_at, joined_by, IsBehindSet, IsLinkedLast}
use Rattle.member_lists.proofs.Kept.{joins_last_fits, kept_pushed, lists_pushed}
use Rattle.member_lists.proofs.TwoLists.push.Goals as goal

pub link_behind-requires-clause-last : goal.link_behind-requires-clause-last
link_behind-requires-clause-last c x is =
    let was : Ends = ends_at c.self.inside.ends c.args.list in
    joins_last_fits c.self.inside.links.items c.self.inside.ends c.self.invariant c.args.self.now c.self.view_is c.args.list c.args.item c.requires.room c.requires.apart was refl x (sym c.last-last.ensures ∙ is)

pub invariant_of-self : goal.invariant_of-self
invariant_of-self c =
    let was : Ends = ends_at c.self.inside.ends c.args.list in
    let joined : IsLinkedLast c.self.inside.links.items c.link_behind.new.links.items c.args.item was (joined_by c.args.item was) = record {
      linked = subst (λ (o : Option ℕ). IsBehindSet (slice_set c.self.inside.links.items c.args.item (record { before = o; behind = None })) c.link_behind.new.links.items o (Some c.args.item)) c.last-last.ensures c.link_behind.ensures;
      first = refl;
      last = refl;
    } in
    kept_pushed c.self.inside.links.items c.self.inside.ends c.self.invariant c.args.self.now c.self.view_is c.args.list c.args.item c.requires.room c.requires.apart was refl c.link_behind.new.links.items (joined_by c.args.item was) joined c.join.new.self (λ x some. c.join.ensures)

pub returns : goal.returns
returns c =
    let was : Ends = ends_at c.self.inside.ends c.args.list in
    let joined : IsLinkedLast c.self.inside.links.items c.link_behind.new.links.items c.args.item was (joined_by c.args.item was) = record {
      linked = subst (λ (o : Option ℕ). IsBehindSet (slice_set c.self.inside.links.items c.args.item (record { before = o; behind = None })) c.link_behind.new.links.items o (Some c.args.item)) c.last-last.ensures c.link_behind.ensures;
      first = refl;
      last = refl;
    } in
    lists_pushed c.self.inside.links.items c.self.inside.ends c.self.invariant c.args.self.now c.self.view_is c.args.list c.args.item c.requires.room c.requires.apart was refl c.link_behind.new.links.items (joined_by c.args.item was) joined c.join.new.self (λ x some. c.join.ensures)
