use Rattle.member_lists.specs.Lists.{without}
use Rattle.member_lists.proofs.Marks.{marked_within, mark_inside_in, all_held, was_left, changed_kept, changed_shown}
use Rattle.member_lists.proofs.marked.MarkedLists.unmark.Goals as goal

pub unlink_mark-requires-clause-there : goal.unlink_mark-requires-clause-there
unlink_mark-requires-clause-there c = all_held c.self.inside.links.items c.self.inside.marks.items c.self.inside.ends c.self.invariant c.args.self.now c.self.view_is c.args.list c.args.item (marked_within c.self.inside.links.items c.self.inside.marks.items c.self.inside.ends c.self.invariant c.args.self.now c.self.view_is c.args.list c.args.item c.requires)

pub unlink_mark-requires-clause-kept : goal.unlink_mark-requires-clause-kept
unlink_mark-requires-clause-kept c = c.self.invariant.marked

pub unlink_mark-requires-clause-marked : goal.unlink_mark-requires-clause-marked
unlink_mark-requires-clause-marked c = mark_inside_in c.self.inside.links.items c.self.inside.marks.items c.self.inside.ends c.self.invariant c.args.self.now c.self.view_is c.args.list c.args.item c.requires

pub invariant_of-self : goal.invariant_of-self
invariant_of-self c = changed_kept c.self.inside.links.items c.self.inside.marks.items c.self.inside.ends c.self.invariant c.args.self.now c.self.view_is c.unlink_mark.new.marks.items c.unlink_mark.new.self c.unlink_mark.ensures.kept c.unlink_mark.ensures.rest c.args.list (without c.args.item) c.unlink_mark.ensures.marks (λ list x mark. marked_within c.self.inside.links.items c.self.inside.marks.items c.self.inside.ends c.self.invariant c.args.self.now c.self.view_is list x (was_left c.args.self.now.marked c.args.list c.args.item list x mark))

pub returns : goal.returns
returns c = changed_shown c.self.inside.links.items c.self.inside.marks.items c.self.inside.ends c.self.invariant c.args.self.now c.self.view_is c.unlink_mark.new.marks.items c.unlink_mark.new.self c.unlink_mark.ensures.kept c.unlink_mark.ensures.rest c.args.list (without c.args.item) c.unlink_mark.ensures.marks (λ list x mark. marked_within c.self.inside.links.items c.self.inside.marks.items c.self.inside.ends c.self.invariant c.args.self.now c.self.view_is list x (was_left c.args.self.now.marked c.args.list c.args.item list x mark))
