use Rattle.std.proofs.Common.{sym, refl, ◌∙◌}
use Rattle.member_lists.proofs.Both.{held_in, gone_in, blank_put, all_set, marks_stay, len_set, all_new, marks_new, len_new, blank_new}
use Rattle.member_lists.proofs.Held.{none_in}
use Rattle.member_lists.proofs.marked.EndsMap.hold.Goals as goal

pub value_mut-requires : goal.value_mut-requires
value_mut-requires c = held_in c.self.inside.map c.self.invariant c.args.self.now c.self.view_is c.args.list ∙ sym c.requires.held ∙ c.if-has_items.true

pub invariant_of-self : goal.invariant_of-self
invariant_of-self c = blank_put c.self.inside.map.map c.self.invariant c.args.list (record { all = c.args.now; marked = c.value_mut.result.now.marked }) (c.self.invariant c.args.list c.value_mut.result.now c.value_mut.ensures.value)

pub insert-requires-clause-absent : goal.insert-requires-clause-absent
insert-requires-clause-absent c = gone_in c.self.inside.map c.self.invariant c.args.self.now c.self.view_is c.args.list (sym c.requires.held ∙ c.if-has_items.false)

pub invariant_of-self-else-has_items : goal.invariant_of-self-else-has_items
invariant_of-self-else-has_items c = blank_new c.self.inside.map c.self.invariant c.args.self.now c.self.view_is c.args.list (record { all = c.args.now; marked = c.blank-marked.result }) (sym c.requires.held ∙ c.if-has_items.false) (c.requires.room (none_in c.args.self.now.all c.args.list (sym c.requires.held ∙ c.if-has_items.false))) c.blank-marked.ensures c.insert.new.self c.insert.ensures

pub returns-then-has_items-clause-all : goal.returns-then-has_items-clause-all
returns-then-has_items-clause-all c = all_set c.self.inside.map c.self.invariant c.args.self.now c.self.view_is c.args.list c.value_mut.result.now (record { all = c.args.now; marked = c.value_mut.result.now.marked }) c.value_mut.ensures.value

pub returns-then-has_items-clause-marked : goal.returns-then-has_items-clause-marked
returns-then-has_items-clause-marked c = marks_stay c.self.inside.map c.self.invariant c.args.self.now c.self.view_is c.args.list c.value_mut.result.now (record { all = c.args.now; marked = c.value_mut.result.now.marked }) c.value_mut.ensures.value refl

pub returns-then-has_items-clause-total : goal.returns-then-has_items-clause-total
returns-then-has_items-clause-total c = len_set c.self.inside.map c.self.invariant c.args.self.now c.self.view_is c.args.list c.value_mut.result.now (record { all = c.args.now; marked = c.value_mut.result.now.marked }) c.value_mut.ensures.value

pub returns-else-has_items-clause-all : goal.returns-else-has_items-clause-all
returns-else-has_items-clause-all c = all_new c.self.inside.map c.self.invariant c.args.self.now c.self.view_is c.args.list (record { all = c.args.now; marked = c.blank-marked.result }) (sym c.requires.held ∙ c.if-has_items.false) (c.requires.room (none_in c.args.self.now.all c.args.list (sym c.requires.held ∙ c.if-has_items.false))) c.blank-marked.ensures c.insert.new.self c.insert.ensures

pub returns-else-has_items-clause-marked : goal.returns-else-has_items-clause-marked
returns-else-has_items-clause-marked c = marks_new c.self.inside.map c.self.invariant c.args.self.now c.self.view_is c.args.list (record { all = c.args.now; marked = c.blank-marked.result }) (sym c.requires.held ∙ c.if-has_items.false) (c.requires.room (none_in c.args.self.now.all c.args.list (sym c.requires.held ∙ c.if-has_items.false))) c.blank-marked.ensures c.insert.new.self c.insert.ensures

pub returns-else-has_items-clause-total : goal.returns-else-has_items-clause-total
returns-else-has_items-clause-total c = len_new c.self.inside.map c.self.invariant c.args.self.now c.self.view_is c.args.list (record { all = c.args.now; marked = c.blank-marked.result }) (sym c.requires.held ∙ c.if-has_items.false) (c.requires.room (none_in c.args.self.now.all c.args.list (sym c.requires.held ∙ c.if-has_items.false))) c.blank-marked.ensures c.insert.new.self c.insert.ensures
