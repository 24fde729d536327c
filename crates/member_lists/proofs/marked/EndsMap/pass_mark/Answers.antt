use Rattle.std.proofs.Common.{refl, ◌∙◌}
use Rattle.member_lists.proofs.Both.{held_in, mark_there, blank_put, rest_stays, marks_put, marks_out}
use Rattle.member_lists.proofs.marked.EndsMap.pass_mark.Goals as goal

pub value_mut-both-requires : goal.value_mut-both-requires
value_mut-both-requires c = held_in c.self.inside.map c.self.invariant c.args.self.now c.self.view_is c.args.list ∙ c.requires.there

pub pass_first-both-requires : goal.pass_first-both-requires
pass_first-both-requires c = record { ends = c.args.self.now.marked; list = c.args.list; kept = c.requires.kept; are = mark_there c.self.inside.map c.self.invariant c.args.self.now c.self.view_is c.args.list c.value_mut-both.result.now c.value_mut-both.ensures.value }

pub invariant_of-self : goal.invariant_of-self
invariant_of-self c = blank_put c.self.inside.map.map c.self.invariant c.args.list (record { all = c.value_mut-both.result.now.all; marked = c.pass_first-both.result }) c.pass_first-both.ensures.blank

pub returns-clause-rest : goal.returns-clause-rest
returns-clause-rest c = rest_stays c.self.inside.map c.self.invariant c.args.self.now c.self.view_is c.args.list c.value_mut-both.result.now (record { all = c.value_mut-both.result.now.all; marked = c.pass_first-both.result }) c.value_mut-both.ensures.value refl

pub returns-clause-passed : goal.returns-clause-passed
returns-clause-passed c = c.pass_first-both.ensures.passed c.args.self.now.marked _ c.args.list c.requires.kept (mark_there c.self.inside.map c.self.invariant c.args.self.now c.self.view_is c.args.list c.value_mut-both.result.now c.value_mut-both.ensures.value) (marks_out c.self.inside.map c.self.invariant c.args.self.now c.self.view_is c.args.list c.value_mut-both.result.now (record { all = c.value_mut-both.result.now.all; marked = c.pass_first-both.result }) c.value_mut-both.ensures.value) (marks_put c.self.inside.map c.self.invariant c.args.self.now c.self.view_is c.args.list c.value_mut-both.result.now (record { all = c.value_mut-both.result.now.all; marked = c.pass_first-both.result }) c.value_mut-both.ensures.value)
