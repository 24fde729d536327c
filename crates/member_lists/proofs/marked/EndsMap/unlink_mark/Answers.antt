use Rattle.std.proofs.Common.{refl, ◌∙◌}
use Rattle.member_lists.specs.Ended.{lists_in}
use Rattle.member_lists.proofs.Both.{held_in, mark_there, blank_put, rest_stays, marks_put, marks_out}
use Rattle.member_lists.proofs.Kept.{leaves_in_range, leaves_before_fits, leaves_behind_fits, leaves_blank, kept_left, lists_left}
use Rattle.member_lists.proofs.Passed.{alone_blank}
use Rattle.member_lists.proofs.marked.EndsMap.unlink_mark.Goals as goal

pub value_mut-both-requires : goal.value_mut-both-requires
value_mut-both-requires c = held_in c.self.inside.map c.self.invariant c.args.self.now c.self.view_is c.args.list ∙ c.requires.there

pub unlink_one-both-requires-clause-room : goal.unlink_one-both-requires-clause-room
unlink_one-both-requires-clause-room c = leaves_in_range c.args.marks.now.items c.args.self.now.marked c.requires.kept (lists_in c.args.marks.now.items c.args.self.now.marked) refl c.args.list c.args.item c.requires.marked

pub unlink_one-both-requires-clause-before : goal.unlink_one-both-requires-clause-before
unlink_one-both-requires-clause-before c = leaves_before_fits c.args.marks.now.items c.args.self.now.marked c.requires.kept (lists_in c.args.marks.now.items c.args.self.now.marked) refl c.args.list c.args.item c.requires.marked

pub unlink_one-both-requires-clause-behind : goal.unlink_one-both-requires-clause-behind
unlink_one-both-requires-clause-behind c = leaves_behind_fits c.args.marks.now.items c.args.self.now.marked c.requires.kept (lists_in c.args.marks.now.items c.args.self.now.marked) refl c.args.list c.args.item c.requires.marked

pub unlink_one-both-requires-clause-alone : goal.unlink_one-both-requires-clause-alone
unlink_one-both-requires-clause-alone c = alone_blank c.args.marks.now.items c.args.self.now.marked c.requires.kept c.args.list c.value_mut-both.result.now.marked (mark_there c.self.inside.map c.self.invariant c.args.self.now c.self.view_is c.args.list c.value_mut-both.result.now c.value_mut-both.ensures.value) c.args.item c.requires.marked

pub invariant_of-self : goal.invariant_of-self
invariant_of-self c = blank_put c.self.inside.map.map c.self.invariant c.args.list (record { all = c.value_mut-both.result.now.all; marked = c.unlink_one-both.result }) (leaves_blank c.args.marks.now.items c.args.self.now.marked c.requires.kept (lists_in c.args.marks.now.items c.args.self.now.marked) refl c.args.list c.args.item c.requires.marked c.value_mut-both.result.now.marked (mark_there c.self.inside.map c.self.invariant c.args.self.now c.self.view_is c.args.list c.value_mut-both.result.now c.value_mut-both.ensures.value) c.unlink_one-both.new.links.items c.unlink_one-both.result c.unlink_one-both.ensures)

pub returns-clause-kept : goal.returns-clause-kept
returns-clause-kept c = kept_left c.args.marks.now.items c.args.self.now.marked c.requires.kept (lists_in c.args.marks.now.items c.args.self.now.marked) refl c.args.list c.args.item c.requires.marked c.value_mut-both.result.now.marked (mark_there c.self.inside.map c.self.invariant c.args.self.now c.self.view_is c.args.list c.value_mut-both.result.now c.value_mut-both.ensures.value) c.unlink_one-both.new.links.items c.unlink_one-both.result c.unlink_one-both.ensures _ (marks_out c.self.inside.map c.self.invariant c.args.self.now c.self.view_is c.args.list c.value_mut-both.result.now (record { all = c.value_mut-both.result.now.all; marked = c.unlink_one-both.result }) c.value_mut-both.ensures.value) (marks_put c.self.inside.map c.self.invariant c.args.self.now c.self.view_is c.args.list c.value_mut-both.result.now (record { all = c.value_mut-both.result.now.all; marked = c.unlink_one-both.result }) c.value_mut-both.ensures.value)

pub returns-clause-rest : goal.returns-clause-rest
returns-clause-rest c = rest_stays c.self.inside.map c.self.invariant c.args.self.now c.self.view_is c.args.list c.value_mut-both.result.now (record { all = c.value_mut-both.result.now.all; marked = c.unlink_one-both.result }) c.value_mut-both.ensures.value refl

pub returns-clause-marks : goal.returns-clause-marks
returns-clause-marks c = lists_left c.args.marks.now.items c.args.self.now.marked c.requires.kept (lists_in c.args.marks.now.items c.args.self.now.marked) refl c.args.list c.args.item c.requires.marked c.value_mut-both.result.now.marked (mark_there c.self.inside.map c.self.invariant c.args.self.now c.self.view_is c.args.list c.value_mut-both.result.now c.value_mut-both.ensures.value) c.unlink_one-both.new.links.items c.unlink_one-both.result c.unlink_one-both.ensures _ (marks_out c.self.inside.map c.self.invariant c.args.self.now c.self.view_is c.args.list c.value_mut-both.result.now (record { all = c.value_mut-both.result.now.all; marked = c.unlink_one-both.result }) c.value_mut-both.ensures.value) (marks_put c.self.inside.map c.self.invariant c.args.self.now c.self.view_is c.args.list c.value_mut-both.result.now (record { all = c.value_mut-both.result.now.all; marked = c.unlink_one-both.result }) c.value_mut-both.ensures.value)
