use Rattle.std.proofs.Common.{refl, arith, ◌∙◌}
use Rattle.member_lists.specs.Ended.{lists_in}
use Rattle.member_lists.proofs.Both.{held_in, mark_there, blank_put, rest_stays, marks_put}
use Rattle.member_lists.proofs.Kept.{joins_last_fits, joins_blank, kept_pushed, lists_pushed}
use Rattle.member_lists.proofs.marked.EndsMap.link_mark.Goals as goal

pub value_mut-both-requires : goal.value_mut-both-requires
value_mut-both-requires c = held_in c.self.inside.map c.self.invariant c.args.self.now c.self.view_is c.args.list ∙ c.requires.there

pub link_last-both-requires-clause-few : goal.link_last-both-requires-clause-few
link_last-both-requires-clause-few c = let few = c.requires.kept.few in let room = c.requires.room in omega arith

pub link_last-both-requires-clause-last : goal.link_last-both-requires-clause-last
link_last-both-requires-clause-last c = joins_last_fits c.args.marks.now.items c.args.self.now.marked c.requires.kept (lists_in c.args.marks.now.items c.args.self.now.marked) refl c.args.list c.args.item c.requires.room c.requires.apart c.value_mut-both.result.now.marked (mark_there c.self.inside.map c.self.invariant c.args.self.now c.self.view_is c.args.list c.value_mut-both.result.now c.value_mut-both.ensures.value)

pub invariant_of-self : goal.invariant_of-self
invariant_of-self c = blank_put c.self.inside.map.map c.self.invariant c.args.list (record { all = c.value_mut-both.result.now.all; marked = c.link_last-both.result }) (joins_blank c.args.marks.now.items c.args.self.now.marked c.requires.kept (lists_in c.args.marks.now.items c.args.self.now.marked) refl c.args.list c.args.item c.requires.room c.requires.apart c.value_mut-both.result.now.marked (mark_there c.self.inside.map c.self.invariant c.args.self.now c.self.view_is c.args.list c.value_mut-both.result.now c.value_mut-both.ensures.value) c.link_last-both.new.links.items c.link_last-both.result c.link_last-both.ensures)

pub returns-clause-kept : goal.returns-clause-kept
returns-clause-kept c = kept_pushed c.args.marks.now.items c.args.self.now.marked c.requires.kept (lists_in c.args.marks.now.items c.args.self.now.marked) refl c.args.list c.args.item c.requires.room c.requires.apart c.value_mut-both.result.now.marked (mark_there c.self.inside.map c.self.invariant c.args.self.now c.self.view_is c.args.list c.value_mut-both.result.now c.value_mut-both.ensures.value) c.link_last-both.new.links.items c.link_last-both.result c.link_last-both.ensures _ (marks_put c.self.inside.map c.self.invariant c.args.self.now c.self.view_is c.args.list c.value_mut-both.result.now (record { all = c.value_mut-both.result.now.all; marked = c.link_last-both.result }) c.value_mut-both.ensures.value)

pub returns-clause-rest : goal.returns-clause-rest
returns-clause-rest c = rest_stays c.self.inside.map c.self.invariant c.args.self.now c.self.view_is c.args.list c.value_mut-both.result.now (record { all = c.value_mut-both.result.now.all; marked = c.link_last-both.result }) c.value_mut-both.ensures.value refl

pub returns-clause-marks : goal.returns-clause-marks
returns-clause-marks c = lists_pushed c.args.marks.now.items c.args.self.now.marked c.requires.kept (lists_in c.args.marks.now.items c.args.self.now.marked) refl c.args.list c.args.item c.requires.room c.requires.apart c.value_mut-both.result.now.marked (mark_there c.self.inside.map c.self.invariant c.args.self.now c.self.view_is c.args.list c.value_mut-both.result.now c.value_mut-both.ensures.value) c.link_last-both.new.links.items c.link_last-both.result c.link_last-both.ensures _ (marks_put c.self.inside.map c.self.invariant c.args.self.now c.self.view_is c.args.list c.value_mut-both.result.now (record { all = c.value_mut-both.result.now.all; marked = c.link_last-both.result }) c.value_mut-both.ensures.value)
