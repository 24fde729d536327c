use Rattle.std.proofs.Common.{arith, ◌∙◌, ap, is_some}
use Rattle.member_lists.proofs.Sound.{shown}
use Rattle.member_lists.proofs.Held.{first_told, fewer_lists}
use Rattle.member_lists.proofs.Kept.{joins_last_fits, len_pushed, kept_pushed, lists_pushed}
use Rattle.member_lists.proofs.Lists.push.Goals as goal

pub link_last-now-requires-clause-last : goal.link_last-now-requires-clause-last
link_last-now-requires-clause-last c = joins_last_fits c.self.inside.links.items c.self.inside.ends.map c.self.invariant.kept c.args.self.now c.self.view_is c.args.list c.args.item c.requires.room c.requires.apart c.ends_of-ends.result c.ends_of-ends.ensures

pub hold_ends-requires-clause-held : goal.hold_ends-requires-clause-held
hold_ends-requires-clause-held c = c.is_some-has_items.ensures ∙ ap is_some c.item.ensures ∙ first_told c.self.inside.links.items c.self.inside.ends.map c.self.invariant.kept c.args.list c.ends_of-ends.result c.ends_of-ends.ensures

pub hold_ends-requires-clause-room : goal.hold_ends-requires-clause-room
hold_ends-requires-clause-room c none =
    let fewer = fewer_lists c.self.inside.links.items c.self.inside.ends.map c.self.invariant.kept c.args.self.now (shown c.self.inside.links.items c.self.inside.ends.map c.self.invariant.kept c.args.self.now c.self.view_is) c.args.list c.args.item c.requires.room c.requires.apart in
    let enough = c.self.invariant.enough in omega arith

pub invariant_of-self : goal.invariant_of-self
invariant_of-self c = record {
  kept = kept_pushed c.self.inside.links.items c.self.inside.ends.map c.self.invariant.kept c.args.self.now c.self.view_is c.args.list c.args.item c.requires.room c.requires.apart c.ends_of-ends.result c.ends_of-ends.ensures c.link_last-now.new.links.items c.link_last-now.result c.link_last-now.ensures c.hold_ends.new.ends.map (λ x some. c.hold_ends.ensures.map);
  enough =
      let len = len_pushed c.self.inside.links.items c.self.inside.ends.map c.self.invariant.kept c.args.self.now c.self.view_is c.args.list c.args.item c.requires.room c.requires.apart c.ends_of-ends.result c.ends_of-ends.ensures c.link_last-now.new.links.items c.link_last-now.result c.link_last-now.ensures in
      let total = c.hold_ends.ensures.total in
      let enough = c.self.invariant.enough in omega arith;
}

pub returns : goal.returns
returns c = lists_pushed c.self.inside.links.items c.self.inside.ends.map c.self.invariant.kept c.args.self.now c.self.view_is c.args.list c.args.item c.requires.room c.requires.apart c.ends_of-ends.result c.ends_of-ends.ensures c.link_last-now.new.links.items c.link_last-now.result c.link_last-now.ensures c.hold_ends.new.ends.map (λ x some. c.hold_ends.ensures.map)
