use Rattle.std.proofs.Common.{◌++◌, ◌∷◌, [], arith, ◌∙◌, ap, is_some}
use Rattle.member_lists.specs.Lists.{list_of, with_list}
use Rattle.member_lists.proofs.Sound.{shown}
use Rattle.member_lists.proofs.Held.{first_told, fewer_lists}
use Rattle.member_lists.proofs.Kept.{joins_last_fits, len_pushed, kept_pushed, lists_pushed}
use Rattle.member_lists.proofs.Marks.{all_is, stays_pushed, all_kept, all_shown}
use Rattle.member_lists.proofs.marked.MarkedLists.push.Goals as goal

pub link_last-now-requires-clause-last : goal.link_last-now-requires-clause-last
link_last-now-requires-clause-last c = joins_last_fits c.self.inside.links.items c.self.inside.ends.all c.self.invariant.all c.args.self.now.all (all_is c.self.inside.links.items c.self.inside.marks.items c.self.inside.ends c.self.invariant c.args.self.now c.self.view_is) c.args.list c.args.item c.requires.room c.requires.apart c.all-ends.result c.all-ends.ensures

pub hold-requires-clause-held : goal.hold-requires-clause-held
hold-requires-clause-held c = c.is_some-has_items.ensures ∙ ap is_some c.item.ensures ∙ first_told c.self.inside.links.items c.self.inside.ends.all c.self.invariant.all c.args.list c.all-ends.result c.all-ends.ensures

pub hold-requires-clause-room : goal.hold-requires-clause-room
hold-requires-clause-room c none =
    let fewer = fewer_lists c.self.inside.links.items c.self.inside.ends.all c.self.invariant.all c.args.self.now.all (shown c.self.inside.links.items c.self.inside.ends.all c.self.invariant.all c.args.self.now.all (all_is c.self.inside.links.items c.self.inside.marks.items c.self.inside.ends c.self.invariant c.args.self.now c.self.view_is)) c.args.list c.args.item c.requires.room c.requires.apart in
    let enough = c.self.invariant.enough in omega arith

pub invariant_of-self : goal.invariant_of-self
invariant_of-self c = all_kept c.self.inside.links.items c.self.inside.marks.items c.self.inside.ends c.self.invariant c.args.self.now c.self.view_is c.link_last-now.new.links.items c.hold.new.self (kept_pushed c.self.inside.links.items c.self.inside.ends.all c.self.invariant.all c.args.self.now.all (all_is c.self.inside.links.items c.self.inside.marks.items c.self.inside.ends c.self.invariant c.args.self.now c.self.view_is) c.args.list c.args.item c.requires.room c.requires.apart c.all-ends.result c.all-ends.ensures c.link_last-now.new.links.items c.link_last-now.result c.link_last-now.ensures c.hold.new.self.all (λ x some. c.hold.ensures.all)) c.hold.ensures.marked (len_pushed c.self.inside.links.items c.self.inside.ends.all c.self.invariant.all c.args.self.now.all (all_is c.self.inside.links.items c.self.inside.marks.items c.self.inside.ends c.self.invariant c.args.self.now c.self.view_is) c.args.list c.args.item c.requires.room c.requires.apart c.all-ends.result c.all-ends.ensures c.link_last-now.new.links.items c.link_last-now.result c.link_last-now.ensures) c.hold.ensures.total (with_list c.args.self.now.all c.args.list (list_of c.args.self.now.all c.args.list ++ c.args.item ∷ [])) (lists_pushed c.self.inside.links.items c.self.inside.ends.all c.self.invariant.all c.args.self.now.all (all_is c.self.inside.links.items c.self.inside.marks.items c.self.inside.ends c.self.invariant c.args.self.now c.self.view_is) c.args.list c.args.item c.requires.room c.requires.apart c.all-ends.result c.all-ends.ensures c.link_last-now.new.links.items c.link_last-now.result c.link_last-now.ensures c.hold.new.self.all (λ x some. c.hold.ensures.all)) (λ list x mark all. stays_pushed c.args.self.now.all c.args.list c.args.item list x all)

pub returns : goal.returns
returns c = all_shown c.self.inside.links.items c.self.inside.marks.items c.self.inside.ends c.self.invariant c.args.self.now c.self.view_is c.link_last-now.new.links.items c.hold.new.self (kept_pushed c.self.inside.links.items c.self.inside.ends.all c.self.invariant.all c.args.self.now.all (all_is c.self.inside.links.items c.self.inside.marks.items c.self.inside.ends c.self.invariant c.args.self.now c.self.view_is) c.args.list c.args.item c.requires.room c.requires.apart c.all-ends.result c.all-ends.ensures c.link_last-now.new.links.items c.link_last-now.result c.link_last-now.ensures c.hold.new.self.all (λ x some. c.hold.ensures.all)) c.hold.ensures.marked (len_pushed c.self.inside.links.items c.self.inside.ends.all c.self.invariant.all c.args.self.now.all (all_is c.self.inside.links.items c.self.inside.marks.items c.self.inside.ends c.self.invariant c.args.self.now c.self.view_is) c.args.list c.args.item c.requires.room c.requires.apart c.all-ends.result c.all-ends.ensures c.link_last-now.new.links.items c.link_last-now.result c.link_last-now.ensures) c.hold.ensures.total (with_list c.args.self.now.all c.args.list (list_of c.args.self.now.all c.args.list ++ c.args.item ∷ [])) (lists_pushed c.self.inside.links.items c.self.inside.ends.all c.self.invariant.all c.args.self.now.all (all_is c.self.inside.links.items c.self.inside.marks.items c.self.inside.ends c.self.invariant c.args.self.now c.self.view_is) c.args.list c.args.item c.requires.room c.requires.apart c.all-ends.result c.all-ends.ensures c.link_last-now.new.links.items c.link_last-now.result c.link_last-now.ensures c.hold.new.self.all (λ x some. c.hold.ensures.all)) (λ list x mark all. stays_pushed c.args.self.now.all c.args.list c.args.item list x all)
