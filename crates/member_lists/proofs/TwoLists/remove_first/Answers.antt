use Rattle.std.proofs.Common.{◌≡◌, ℕ, Option, None, refl, sym, ap, subst, ◌∙◌, Contains}
use Rattle.std.proofs.lemmas.Option.{slice_get_within, get_or_from_slice_get}
use Rattle.member_lists.specs.declared.Ends.{Ends}
use Rattle.member_lists.specs.declared.Link.{Link}
use Rattle.member_lists.specs.Lists.{list_of}
use Rattle.member_lists.specs.Chains.{ends_at, left_by, pick, IsBeforeSet, IsUnlinked}
use Rattle.member_lists.proofs.Changed.{first_before}
use Rattle.member_lists.proofs.Kept.{leaves_in_range, leaves_blank, leaves_behind_fits, kept_left, lists_left}
use Rattle.member_lists.proofs.Sound.{shown}
use Rattle.member_lists.proofs.Times.{none_some}
use Rattle.member_lists.proofs.TwoLists.remove_first.Goals as goal

pub link_of-behind-requires : goal.link_of-behind-requires
link_of-behind-requires c =
    let inside : Contains (list_of c.args.self.now c.args.list) c.args.item = (0, slice_get_within (list_of c.args.self.now c.args.list) 0 c.args.item c.requires.first, get_or_from_slice_get (list_of c.args.self.now c.args.list) 0 c.args.item c.args.item c.requires.first) in
    leaves_in_range c.self.inside.links.items c.self.inside.ends c.self.invariant c.args.self.now c.self.view_is c.args.list c.args.item inside

pub set_before-requires : goal.set_before-requires
set_before-requires c =
    let inside : Contains (list_of c.args.self.now c.args.list) c.args.item = (0, slice_get_within (list_of c.args.self.now c.args.list) 0 c.args.item c.requires.first, get_or_from_slice_get (list_of c.args.self.now c.args.list) 0 c.args.item c.args.item c.requires.first) in
    leaves_behind_fits c.self.inside.links.items c.self.inside.ends c.self.invariant c.args.self.now c.self.view_is c.args.list c.args.item inside c.link_of-behind.result c.link_of-behind.ensures

pub leave-requires-clause-blank : goal.leave-requires-clause-blank
leave-requires-clause-blank c =
    let inside : Contains (list_of c.args.self.now c.args.list) c.args.item = (0, slice_get_within (list_of c.args.self.now c.args.list) 0 c.args.item c.requires.first, get_or_from_slice_get (list_of c.args.self.now c.args.list) 0 c.args.item c.args.item c.requires.first) in
    let was : Ends = ends_at c.self.inside.ends c.args.list in
    let link : Link = c.link_of-behind.result in
    let first : link.before ≡ None = first_before c.self.inside.links.items (ends_at c.self.inside.ends) c.self.invariant.sound c.args.self.now (shown c.self.inside.links.items c.self.inside.ends c.self.invariant c.args.self.now c.self.view_is) c.args.list c.args.item c.requires.first link c.link_of-behind.ensures in
    let before : link.before ≡ c.none-none.result = first ∙ sym c.none-none.ensures in
    let out : IsUnlinked c.self.inside.links.items c.set_before.new.links.items c.args.item was (left_by c.none-none.result link.behind was) = record {
      link = link;
      there = c.link_of-behind.ensures;
      between = c.self.inside.links.items;
      ahead = record { set = λ x k is. absurd (none_some x (sym first ∙ is)); others = λ x d. refl; len = refl };
      rear = subst (IsBeforeSet c.self.inside.links.items c.set_before.new.links.items link.behind) (sym before) c.set_before.ensures;
      first = ap (λ (o : Option ℕ). pick o link.behind was.first) (sym before);
      last = ap (λ (o : Option ℕ). pick link.behind o was.last) (sym before);
    } in
    leaves_blank c.self.inside.links.items c.self.inside.ends c.self.invariant c.args.self.now c.self.view_is c.args.list c.args.item inside was refl c.set_before.new.links.items (left_by c.none-none.result link.behind was) out

pub invariant_of-self : goal.invariant_of-self
invariant_of-self c =
    let inside : Contains (list_of c.args.self.now c.args.list) c.args.item = (0, slice_get_within (list_of c.args.self.now c.args.list) 0 c.args.item c.requires.first, get_or_from_slice_get (list_of c.args.self.now c.args.list) 0 c.args.item c.args.item c.requires.first) in
    let was : Ends = ends_at c.self.inside.ends c.args.list in
    let link : Link = c.link_of-behind.result in
    let first : link.before ≡ None = first_before c.self.inside.links.items (ends_at c.self.inside.ends) c.self.invariant.sound c.args.self.now (shown c.self.inside.links.items c.self.inside.ends c.self.invariant c.args.self.now c.self.view_is) c.args.list c.args.item c.requires.first link c.link_of-behind.ensures in
    let before : link.before ≡ c.none-none.result = first ∙ sym c.none-none.ensures in
    let out : IsUnlinked c.self.inside.links.items c.set_before.new.links.items c.args.item was (left_by c.none-none.result link.behind was) = record {
      link = link;
      there = c.link_of-behind.ensures;
      between = c.self.inside.links.items;
      ahead = record { set = λ x k is. absurd (none_some x (sym first ∙ is)); others = λ x d. refl; len = refl };
      rear = subst (IsBeforeSet c.self.inside.links.items c.set_before.new.links.items link.behind) (sym before) c.set_before.ensures;
      first = ap (λ (o : Option ℕ). pick o link.behind was.first) (sym before);
      last = ap (λ (o : Option ℕ). pick link.behind o was.last) (sym before);
    } in
    kept_left c.self.inside.links.items c.self.inside.ends c.self.invariant c.args.self.now c.self.view_is c.args.list c.args.item inside was refl c.set_before.new.links.items (left_by c.none-none.result link.behind was) out c.leave.new.self c.leave.ensures.none c.leave.ensures.some

pub returns : goal.returns
returns c =
    let inside : Contains (list_of c.args.self.now c.args.list) c.args.item = (0, slice_get_within (list_of c.args.self.now c.args.list) 0 c.args.item c.requires.first, get_or_from_slice_get (list_of c.args.self.now c.args.list) 0 c.args.item c.args.item c.requires.first) in
    let was : Ends = ends_at c.self.inside.ends c.args.list in
    let link : Link = c.link_of-behind.result in
    let first : link.before ≡ None = first_before c.self.inside.links.items (ends_at c.self.inside.ends) c.self.invariant.sound c.args.self.now (shown c.self.inside.links.items c.self.inside.ends c.self.invariant c.args.self.now c.self.view_is) c.args.list c.args.item c.requires.first link c.link_of-behind.ensures in
    let before : link.before ≡ c.none-none.result = first ∙ sym c.none-none.ensures in
    let out : IsUnlinked c.self.inside.links.items c.set_before.new.links.items c.args.item was (left_by c.none-none.result link.behind was) = record {
      link = link;
      there = c.link_of-behind.ensures;
      between = c.self.inside.links.items;
      ahead = record { set = λ x k is. absurd (none_some x (sym first ∙ is)); others = λ x d. refl; len = refl };
      rear = subst (IsBeforeSet c.self.inside.links.items c.set_before.new.links.items link.behind) (sym before) c.set_before.ensures;
      first = ap (λ (o : Option ℕ). pick o link.behind was.first) (sym before);
      last = ap (λ (o : Option ℕ). pick link.behind o was.last) (sym before);
    } in
    lists_left c.self.inside.links.items c.self.inside.ends c.self.invariant c.args.self.now c.self.view_is c.args.list c.args.item inside was refl c.set_before.new.links.items (left_by c.none-none.result link.behind was) out c.leave.new.self c.leave.ensures.none c.leave.ensures.some
