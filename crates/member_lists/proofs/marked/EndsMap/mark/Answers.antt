use Rattle.std.proofs.Common.{refl, ◌∙◌}
use Rattle.member_lists.proofs.Both.{held_in, blank_put, all_stays, marks_put, marks_out}
use Rattle.member_lists.proofs.marked.EndsMap.mark.Goals as goal

pub value_mut-requires : goal.value_mut-requires
value_mut-requires c = held_in c.self.inside.map c.self.invariant c.args.self.now c.self.view_is c.args.list ∙ c.requires.there

pub invariant_of-self : goal.invariant_of-self
invariant_of-self c = blank_put c.self.inside.map.map c.self.invariant c.args.list (record { all = c.value_mut.result.now.all; marked = c.args.now }) c.requires.blank

pub returns-clause-all : goal.returns-clause-all
returns-clause-all c = all_stays c.self.inside.map c.self.invariant c.args.self.now c.self.view_is c.args.list c.value_mut.result.now (record { all = c.value_mut.result.now.all; marked = c.args.now }) c.value_mut.ensures.value refl

pub returns-clause-none : goal.returns-clause-none
returns-clause-none c = marks_out c.self.inside.map c.self.invariant c.args.self.now c.self.view_is c.args.list c.value_mut.result.now (record { all = c.value_mut.result.now.all; marked = c.args.now }) c.value_mut.ensures.value

pub returns-clause-some : goal.returns-clause-some
returns-clause-some c = marks_put c.self.inside.map c.self.invariant c.args.self.now c.self.view_is c.args.list c.value_mut.result.now (record { all = c.value_mut.result.now.all; marked = c.args.now }) c.value_mut.ensures.value
