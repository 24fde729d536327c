use Rattle.std.proofs.Common.{refl, sym, ◌∙◌}
use Rattle.member_lists.proofs.Both.{held_in, blank_put, all_set, marks_stay, len_set, all_gone, marks_gone, len_gone, blank_gone}
use Rattle.member_lists.proofs.marked.EndsMap.leave.Goals as goal

pub value_mut-requires : goal.value_mut-requires
value_mut-requires c = held_in c.self.inside.map c.self.invariant c.args.self.now c.self.view_is c.args.list ∙ c.requires.there

pub invariant_of-self : goal.invariant_of-self
invariant_of-self c = blank_put c.self.inside.map.map c.self.invariant c.args.list (record { all = c.args.now; marked = c.value_mut.result.now.marked }) (c.self.invariant c.args.list c.value_mut.result.now c.value_mut.ensures.value)

pub release-requires : goal.release-requires
release-requires c = held_in c.self.inside.map c.self.invariant c.args.self.now c.self.view_is c.args.list ∙ c.requires.there

pub invariant_of-self-in-None : goal.invariant_of-self-in-None
invariant_of-self-in-None c = blank_gone c.self.inside.map c.self.invariant c.args.self.now c.self.view_is c.args.list c.requires.there c.release.new.self c.release.ensures

pub returns-in-Some-clause-some : goal.returns-in-Some-clause-some
returns-in-Some-clause-some c x some = all_set c.self.inside.map c.self.invariant c.args.self.now c.self.view_is c.args.list c.value_mut.result.now (record { all = c.args.now; marked = c.value_mut.result.now.marked }) c.value_mut.ensures.value

pub returns-in-Some-clause-marked : goal.returns-in-Some-clause-marked
returns-in-Some-clause-marked c = marks_stay c.self.inside.map c.self.invariant c.args.self.now c.self.view_is c.args.list c.value_mut.result.now (record { all = c.args.now; marked = c.value_mut.result.now.marked }) c.value_mut.ensures.value refl

pub returns-in-Some-clause-total : goal.returns-in-Some-clause-total
returns-in-Some-clause-total c = len_set c.self.inside.map c.self.invariant c.args.self.now c.self.view_is c.args.list c.value_mut.result.now (record { all = c.args.now; marked = c.value_mut.result.now.marked }) c.value_mut.ensures.value

pub returns-in-None-clause-none : goal.returns-in-None-clause-none
returns-in-None-clause-none c none = all_gone c.self.inside.map c.self.invariant c.args.self.now c.self.view_is c.args.list c.requires.there c.release.new.self c.release.ensures

pub returns-in-None-clause-marked : goal.returns-in-None-clause-marked
returns-in-None-clause-marked c = marks_gone c.self.inside.map c.self.invariant c.args.self.now c.self.view_is c.args.list c.requires.there c.release.new.self c.release.ensures (c.requires.unmarked (sym c.item.ensures ∙ c.in-None.is))

pub returns-in-None-clause-total : goal.returns-in-None-clause-total
returns-in-None-clause-total c = len_gone c.self.inside.map c.self.invariant c.args.self.now c.self.view_is c.args.list c.requires.there c.release.new.self c.release.ensures (record { all = c.args.now; marked = c.args.now })
