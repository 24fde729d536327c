use Rattle.std.proofs.Common.{refl, sym, arith, ◌∙◌}
use Rattle.member_lists.specs.Ended.{lists_in}
use Rattle.member_lists.proofs.Times.{none_some}
use Rattle.member_lists.proofs.Kept.{linked_first, leaves_in_range, leaves_before_fits, leaves_behind_fits}
use Rattle.member_lists.proofs.Passed.{none_unless, inside, blank_of_none, mid_room, mid_last_fits, passed_none, passed_alone, passed_more}
use Rattle.member_lists.proofs.marked.pass_first.Goals as goal

pub returns-in_default-clause-blank : goal.returns-in_default-clause-blank
returns-in_default-clause-blank c = blank_of_none c.args.links.now.items c.requires.ends c.requires.kept c.requires.list c.args.was c.requires.are

pub returns-in_default-clause-passed : goal.returns-in_default-clause-passed
returns-in_default-clause-passed c ends next list kept are gone held = passed_none c.args.links.now.items ends kept list c.args.was are (sym c.item.ensures ∙ none_unless c.item.result c.in_default.not-Some) next gone

pub returns-then-is-clause-blank : goal.returns-then-is-clause-blank
returns-then-is-clause-blank c = blank_of_none c.args.links.now.items c.requires.ends c.requires.kept c.requires.list c.args.was c.requires.are

pub returns-then-is-clause-passed : goal.returns-then-is-clause-passed
returns-then-is-clause-passed c ends next list kept are gone held = passed_alone c.args.links.now.items ends kept list c.args.was are c.in-Some.item (sym c.item.ensures ∙ c.in-Some.is) (c.is.ensures.yes c.if-is.true) next held

pub unlink-others-requires-clause-room : goal.unlink-others-requires-clause-room
unlink-others-requires-clause-room c = leaves_in_range c.args.links.now.items c.requires.ends c.requires.kept (lists_in c.args.links.now.items c.requires.ends) refl c.requires.list c.in-Some.item (inside c.args.links.now.items c.requires.ends c.requires.kept c.requires.list c.args.was c.requires.are c.in-Some.item (sym c.item.ensures ∙ c.in-Some.is))

pub unlink-others-requires-clause-before : goal.unlink-others-requires-clause-before
unlink-others-requires-clause-before c = leaves_before_fits c.args.links.now.items c.requires.ends c.requires.kept (lists_in c.args.links.now.items c.requires.ends) refl c.requires.list c.in-Some.item (inside c.args.links.now.items c.requires.ends c.requires.kept c.requires.list c.args.was c.requires.are c.in-Some.item (sym c.item.ensures ∙ c.in-Some.is))

pub unlink-others-requires-clause-behind : goal.unlink-others-requires-clause-behind
unlink-others-requires-clause-behind c = leaves_behind_fits c.args.links.now.items c.requires.ends c.requires.kept (lists_in c.args.links.now.items c.requires.ends) refl c.requires.list c.in-Some.item (inside c.args.links.now.items c.requires.ends c.requires.kept c.requires.list c.args.was c.requires.are c.in-Some.item (sym c.item.ensures ∙ c.in-Some.is))

pub link_last-requires-clause-few : goal.link_last-requires-clause-few
link_last-requires-clause-few c = let few = c.requires.kept.few in let room = leaves_in_range c.args.links.now.items c.requires.ends c.requires.kept (lists_in c.args.links.now.items c.requires.ends) refl c.requires.list c.in-Some.item (inside c.args.links.now.items c.requires.ends c.requires.kept c.requires.list c.args.was c.requires.are c.in-Some.item (sym c.item.ensures ∙ c.in-Some.is)) in omega arith

pub link_last-requires-clause-room : goal.link_last-requires-clause-room
link_last-requires-clause-room c = mid_room c.args.links.now.items c.requires.ends c.requires.kept c.requires.list c.args.was c.requires.are c.in-Some.item (sym c.item.ensures ∙ c.in-Some.is) c.unlink-others.new.links.items c.unlink-others.result c.unlink-others.ensures

pub link_last-requires-clause-last : goal.link_last-requires-clause-last
link_last-requires-clause-last c = mid_last_fits c.args.links.now.items c.requires.ends c.requires.kept c.requires.list c.args.was c.requires.are c.in-Some.item (sym c.item.ensures ∙ c.in-Some.is) c.unlink-others.new.links.items c.unlink-others.result c.unlink-others.ensures

pub returns-clause-blank : goal.returns-clause-blank
returns-clause-blank c none = let some = linked_first c.unlink-others.new.links.items c.link_last.new.links.items c.in-Some.item c.unlink-others.result c.link_last.result c.link_last.ensures in absurd (none_some some.0 (sym none ∙ some.1))

pub returns-clause-passed : goal.returns-clause-passed
returns-clause-passed c ends next list kept are gone held = passed_more c.args.links.now.items ends kept list c.args.was are c.in-Some.item (sym c.item.ensures ∙ c.in-Some.is) c.unlink-others.new.links.items c.unlink-others.result c.unlink-others.ensures c.link_last.new.links.items c.link_last.result c.link_last.ensures next held
