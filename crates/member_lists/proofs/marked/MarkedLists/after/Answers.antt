use Rattle.std.proofs.Common.{◌≤◌, ◌<◌, List, ap, sym, ◌∙◌, arith, length, slice_get}
use Rattle.std.proofs.lemmas.Option.{slice_get_within}
use Rattle.member_lists.specs.declared.Link.{Link}
use Rattle.member_lists.specs.Chains.{ends_at}
use Rattle.member_lists.proofs.Changed.{after_is, rest_there, below_test, not_below_test, link_read}
use Rattle.member_lists.proofs.Sound.{shown}
use Rattle.member_lists.proofs.Marks.{all_is}
use Rattle.member_lists.proofs.marked.MarkedLists.after.Goals as goal

pub returns-in_err-link : goal.returns-in_err-link
returns-in_err-link c i at =
    let past : length c.deref.result.now ≤ c.args.item = not_below_test c.args.item (length c.deref.result.now) c.in_err-link.ensures.lookup.0 in
    let there = rest_there c.self.inside.links.items (ends_at c.self.inside.ends.all) c.self.invariant.all.sound c.args.self.now.all (shown c.self.inside.links.items c.self.inside.ends.all c.self.invariant.all c.args.self.now.all (all_is c.self.inside.links.items c.self.inside.marks.items c.self.inside.ends c.self.invariant c.args.self.now c.self.view_is)) c.args.list c.args.item i at in
    let inside : c.args.item < length c.self.inside.links.items = slice_get_within c.self.inside.links.items c.args.item there.0 there.1 in
    absurd (omega (arith, c.deref.ensures.len))

pub returns : goal.returns
returns c i at =
    let inside = below_test c.args.item (length c.deref.result.now) c.in_ok-link.ensures.lookup.0 in
    c.item.ensures ∙ after_is c.self.inside.links.items (ends_at c.self.inside.ends.all) c.self.invariant.all.sound c.args.self.now.all (shown c.self.inside.links.items c.self.inside.ends.all c.self.invariant.all c.args.self.now.all (all_is c.self.inside.links.items c.self.inside.marks.items c.self.inside.ends c.self.invariant c.args.self.now c.self.view_is)) c.args.list c.args.item i at c.in_ok-link.link.now
    (ap (λ (links : List Link). slice_get links c.args.item) (sym c.deref.ensures.value) ∙ link_read c.deref.result.now c.args.item c.in_ok-link.link.now inside c.in_ok-link.ensures.lookup.1)
