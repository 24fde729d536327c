use Rattle.std.proofs.Common.{◌≡◌, ◌<◌, ℕ, Some, slice_get, refl, sym, subst}
use Rattle.member_lists.specs.declared.Ends.{Ends}
use Rattle.member_lists.specs.declared.Link.{Link}
use Rattle.member_lists.specs.Chains.{ends_at, left_by, IsUnlinked}
use Rattle.member_lists.proofs.Kept.{leaves_in_range, leaves_blank, leaves_before_fits, leaves_behind_fits, kept_left, lists_left}
use Rattle.member_lists.proofs.TwoLists.remove.Goals as goal

pub link_of-before-requires : goal.link_of-before-requires
link_of-before-requires c = leaves_in_range c.self.inside.links.items c.self.inside.ends c.self.invariant c.args.self.now c.self.view_is c.args.list c.args.item c.requires.there

pub set_behind-requires : goal.set_behind-requires
set_behind-requires c =
    let link : Link = c.link_of-before.result in
    let there : slice_get c.self.inside.links.items c.args.item ≡ Some link = c.link_of-before.ensures in
    leaves_before_fits c.self.inside.links.items c.self.inside.ends c.self.invariant c.args.self.now c.self.view_is c.args.list c.args.item c.requires.there link there

pub set_before-requires : goal.set_before-requires
set_before-requires c x is =
    let link : Link = c.link_of-before.result in
    let there : slice_get c.self.inside.links.items c.args.item ≡ Some link = c.link_of-before.ensures in
    subst (λ (n : ℕ). x < n) (sym c.set_behind.ensures.len) (leaves_behind_fits c.self.inside.links.items c.self.inside.ends c.self.invariant c.args.self.now c.self.view_is c.args.list c.args.item c.requires.there link there x is)

pub leave-requires-clause-blank : goal.leave-requires-clause-blank
leave-requires-clause-blank c =
    let link : Link = c.link_of-before.result in
    let there : slice_get c.self.inside.links.items c.args.item ≡ Some link = c.link_of-before.ensures in
    let was : Ends = ends_at c.self.inside.ends c.args.list in
    let out : IsUnlinked c.self.inside.links.items c.set_before.new.links.items c.args.item was (left_by link.before link.behind was) = record {
      link = link;
      there = there;
      between = c.set_behind.new.links.items;
      ahead = c.set_behind.ensures;
      rear = c.set_before.ensures;
      first = refl;
      last = refl;
    } in
    leaves_blank c.self.inside.links.items c.self.inside.ends c.self.invariant c.args.self.now c.self.view_is c.args.list c.args.item c.requires.there was refl c.set_before.new.links.items (left_by link.before link.behind was) out

pub invariant_of-self : goal.invariant_of-self
invariant_of-self c =
    let link : Link = c.link_of-before.result in
    let there : slice_get c.self.inside.links.items c.args.item ≡ Some link = c.link_of-before.ensures in
    let was : Ends = ends_at c.self.inside.ends c.args.list in
    let out : IsUnlinked c.self.inside.links.items c.set_before.new.links.items c.args.item was (left_by link.before link.behind was) = record {
      link = link;
      there = there;
      between = c.set_behind.new.links.items;
      ahead = c.set_behind.ensures;
      rear = c.set_before.ensures;
      first = refl;
      last = refl;
    } in
    kept_left c.self.inside.links.items c.self.inside.ends c.self.invariant c.args.self.now c.self.view_is c.args.list c.args.item c.requires.there was refl c.set_before.new.links.items (left_by link.before link.behind was) out c.leave.new.self c.leave.ensures.none c.leave.ensures.some

pub returns : goal.returns
returns c =
    let link : Link = c.link_of-before.result in
    let there : slice_get c.self.inside.links.items c.args.item ≡ Some link = c.link_of-before.ensures in
    let was : Ends = ends_at c.self.inside.ends c.args.list in
    let out : IsUnlinked c.self.inside.links.items c.set_before.new.links.items c.args.item was (left_by link.before link.behind was) = record {
      link = link;
      there = there;
      between = c.set_behind.new.links.items;
      ahead = c.set_behind.ensures;
      rear = c.set_before.ensures;
      first = refl;
      last = refl;
    } in
    lists_left c.self.inside.links.items c.self.inside.ends c.self.invariant c.args.self.now c.self.view_is c.args.list c.args.item c.requires.there was refl c.set_before.new.links.items (left_by link.before link.behind was) out c.leave.new.self c.leave.ensures.none c.leave.ensures.some
