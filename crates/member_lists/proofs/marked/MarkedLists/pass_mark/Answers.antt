use Rattle.member_lists.proofs.Marks.{some_held, passed_kept, passed_none_shown, passed_some_shown}
use Rattle.member_lists.proofs.marked.MarkedLists.pass_mark.Goals as goal

pub pass_mark-requires-clause-there : goal.pass_mark-requires-clause-there
pass_mark-requires-clause-there c = some_held c.self.inside.links.items c.self.inside.marks.items c.self.inside.ends c.self.invariant c.args.self.now c.self.view_is c.args.list c.requires

pub pass_mark-requires-clause-kept : goal.pass_mark-requires-clause-kept
pass_mark-requires-clause-kept c = c.self.invariant.marked

pub invariant_of-self : goal.invariant_of-self
invariant_of-self c = passed_kept c.self.inside.links.items c.self.inside.marks.items c.self.inside.ends c.self.invariant c.args.self.now c.self.view_is c.pass_mark.new.marks.items c.pass_mark.new.self c.pass_mark.ensures.passed.kept c.pass_mark.ensures.rest c.args.list c.pass_mark.ensures.passed

pub returns-clause-none : goal.returns-clause-none
returns-clause-none c = passed_none_shown c.self.inside.links.items c.self.inside.marks.items c.self.inside.ends c.self.invariant c.args.self.now c.self.view_is c.pass_mark.new.marks.items c.pass_mark.new.self c.pass_mark.ensures.passed.kept c.pass_mark.ensures.rest c.args.list c.pass_mark.ensures.passed

pub returns-clause-some : goal.returns-clause-some
returns-clause-some c = passed_some_shown c.self.inside.links.items c.self.inside.marks.items c.self.inside.ends c.self.invariant c.args.self.now c.self.view_is c.pass_mark.new.marks.items c.pass_mark.new.self c.pass_mark.ensures.passed.kept c.pass_mark.ensures.rest c.args.list c.pass_mark.ensures.passed
