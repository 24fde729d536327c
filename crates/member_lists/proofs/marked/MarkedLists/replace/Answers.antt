use Rattle.std.proofs.Common.{arith, sym, ap, subst, ◌∙◌}
use Rattle.std.specs.FinMap as map
use Rattle.std.specs.Ordering.{nat_cmp}
use Rattle.member_lists.specs.declared.Ends.{Ends}
use Rattle.member_lists.specs.Lists.{replaced, IsMarkedIn}
use Rattle.member_lists.specs.Chains.{ends_at}
use Rattle.member_lists.proofs.Held.{key_there, held_key}
use Rattle.member_lists.proofs.Marks.{all_is, marked_is, all_held}
use Rattle.member_lists.proofs.Replaced.{there, ahead_fits, rear_fits, not_blank, len_replaced, kept_replaced, lists_replaced, mark_apart, mark_room, all_replaced, all_told, both_replaced, both_told}
use Rattle.member_lists.proofs.marked.MarkedLists.replace.Goals as goal

pub relink-now-requires-clause-there : goal.relink-now-requires-clause-there
relink-now-requires-clause-there c = there c.self.inside.links.items c.self.inside.ends.all c.self.invariant.all c.args.self.now.all (all_is c.self.inside.links.items c.self.inside.marks.items c.self.inside.ends c.self.invariant c.args.self.now c.self.view_is) c.args.list c.args.item c.args.by c.requires.room c.requires.there c.requires.apart

pub relink-now-requires-clause-before : goal.relink-now-requires-clause-before
relink-now-requires-clause-before c = ahead_fits c.self.inside.links.items c.self.inside.ends.all c.self.invariant.all c.args.self.now.all (all_is c.self.inside.links.items c.self.inside.marks.items c.self.inside.ends c.self.invariant c.args.self.now c.self.view_is) c.args.list c.args.item c.args.by c.requires.room c.requires.there c.requires.apart

pub relink-now-requires-clause-behind : goal.relink-now-requires-clause-behind
relink-now-requires-clause-behind c = rear_fits c.self.inside.links.items c.self.inside.ends.all c.self.invariant.all c.args.self.now.all (all_is c.self.inside.links.items c.self.inside.marks.items c.self.inside.ends c.self.invariant c.args.self.now c.self.view_is) c.args.list c.args.item c.args.by c.requires.room c.requires.there c.requires.apart

pub hold-requires-clause-held : goal.hold-requires-clause-held
hold-requires-clause-held c = sym (all_held c.self.inside.links.items c.self.inside.marks.items c.self.inside.ends c.self.invariant c.args.self.now c.self.view_is c.args.list c.args.item c.requires.there)

pub hold-requires-clause-room : goal.hold-requires-clause-room
hold-requires-clause-room c none = key_there c.self.inside.ends.all c.args.list (all_held c.self.inside.links.items c.self.inside.marks.items c.self.inside.ends c.self.invariant c.args.self.now c.self.view_is c.args.list c.args.item c.requires.there) none

pub relink-now-requires-then-is_marked-clause-there : goal.relink-now-requires-then-is_marked-clause-there
relink-now-requires-then-is_marked-clause-there c = there c.self.inside.marks.items c.self.inside.ends.marked c.self.invariant.marked c.args.self.now.marked (marked_is c.self.inside.links.items c.self.inside.marks.items c.self.inside.ends c.self.invariant c.args.self.now c.self.view_is) c.args.list c.args.item c.args.by (mark_room c.self.inside.links.items c.self.inside.marks.items c.self.inside.ends c.self.invariant c.args.self.now c.self.view_is c.args.list c.args.item c.args.by c.requires.room c.requires.there c.requires.apart) (subst (IsMarkedIn c.args.self.now c.args.list c.args.item) c.if-is_marked.true c.requires.marked) (mark_apart c.self.inside.links.items c.self.inside.marks.items c.self.inside.ends c.self.invariant c.args.self.now c.self.view_is c.args.list c.args.item c.args.by c.requires.room c.requires.there c.requires.apart)

pub relink-now-requires-then-is_marked-clause-before : goal.relink-now-requires-then-is_marked-clause-before
relink-now-requires-then-is_marked-clause-before c = ahead_fits c.self.inside.marks.items c.self.inside.ends.marked c.self.invariant.marked c.args.self.now.marked (marked_is c.self.inside.links.items c.self.inside.marks.items c.self.inside.ends c.self.invariant c.args.self.now c.self.view_is) c.args.list c.args.item c.args.by (mark_room c.self.inside.links.items c.self.inside.marks.items c.self.inside.ends c.self.invariant c.args.self.now c.self.view_is c.args.list c.args.item c.args.by c.requires.room c.requires.there c.requires.apart) (subst (IsMarkedIn c.args.self.now c.args.list c.args.item) c.if-is_marked.true c.requires.marked) (mark_apart c.self.inside.links.items c.self.inside.marks.items c.self.inside.ends c.self.invariant c.args.self.now c.self.view_is c.args.list c.args.item c.args.by c.requires.room c.requires.there c.requires.apart)

pub relink-now-requires-then-is_marked-clause-behind : goal.relink-now-requires-then-is_marked-clause-behind
relink-now-requires-then-is_marked-clause-behind c = rear_fits c.self.inside.marks.items c.self.inside.ends.marked c.self.invariant.marked c.args.self.now.marked (marked_is c.self.inside.links.items c.self.inside.marks.items c.self.inside.ends c.self.invariant c.args.self.now c.self.view_is) c.args.list c.args.item c.args.by (mark_room c.self.inside.links.items c.self.inside.marks.items c.self.inside.ends c.self.invariant c.args.self.now c.self.view_is c.args.list c.args.item c.args.by c.requires.room c.requires.there c.requires.apart) (subst (IsMarkedIn c.args.self.now c.args.list c.args.item) c.if-is_marked.true c.requires.marked) (mark_apart c.self.inside.links.items c.self.inside.marks.items c.self.inside.ends c.self.invariant c.args.self.now c.self.view_is c.args.list c.args.item c.args.by c.requires.room c.requires.there c.requires.apart)

pub mark-requires-clause-there : goal.mark-requires-clause-there
mark-requires-clause-there c = ap (λ (m : map.FinMap nat_cmp Ends). map.contains_key m c.args.list) c.hold.ensures.all ∙ held_key c.self.inside.ends.all c.args.list c.relink-now.result

pub mark-requires-clause-blank : goal.mark-requires-clause-blank
mark-requires-clause-blank c none = not_blank c.self.inside.marks.items c.self.inside.ends.marked c.self.invariant.marked c.args.self.now.marked (marked_is c.self.inside.links.items c.self.inside.marks.items c.self.inside.ends c.self.invariant c.args.self.now c.self.view_is) c.args.list c.args.item c.args.by (mark_room c.self.inside.links.items c.self.inside.marks.items c.self.inside.ends c.self.invariant c.args.self.now c.self.view_is c.args.list c.args.item c.args.by c.requires.room c.requires.there c.requires.apart) (subst (IsMarkedIn c.args.self.now c.args.list c.args.item) c.if-is_marked.true c.requires.marked) (mark_apart c.self.inside.links.items c.self.inside.marks.items c.self.inside.ends c.self.invariant c.args.self.now c.self.view_is c.args.list c.args.item c.args.by c.requires.room c.requires.there c.requires.apart) c.marked-marked.result (c.marked-marked.ensures ∙ ap (λ m. ends_at m c.args.list) c.hold.ensures.marked) c.relink-now-then-is_marked.new.links.items c.relink-now-then-is_marked.result c.relink-now-then-is_marked.ensures none

pub invariant_of-self : goal.invariant_of-self
invariant_of-self c = both_replaced c.self.inside.links.items c.self.inside.marks.items c.self.inside.ends c.self.invariant c.args.self.now c.self.view_is c.args.list c.args.item c.args.by c.requires.room c.requires.there c.requires.apart c.relink-now.new.links.items c.mark.new.self (kept_replaced c.self.inside.links.items c.self.inside.ends.all c.self.invariant.all c.args.self.now.all (all_is c.self.inside.links.items c.self.inside.marks.items c.self.inside.ends c.self.invariant c.args.self.now c.self.view_is) c.args.list c.args.item c.args.by c.requires.room c.requires.there c.requires.apart c.all-all.result c.all-all.ensures c.relink-now.new.links.items c.relink-now.result c.relink-now.ensures c.mark.new.self.all (λ x some. c.mark.ensures.all ∙ c.hold.ensures.all)) (len_replaced c.self.inside.links.items c.self.inside.ends.all c.self.invariant.all c.args.self.now.all (all_is c.self.inside.links.items c.self.inside.marks.items c.self.inside.ends c.self.invariant c.args.self.now c.self.view_is) c.args.list c.args.item c.args.by c.requires.room c.requires.there c.requires.apart c.all-all.result c.all-all.ensures c.relink-now.new.links.items c.relink-now.result c.relink-now.ensures) (let a = ap (λ (m : map.FinMap nat_cmp Ends). map.len m) c.mark.ensures.all in let r = c.mark.ensures.room in let t = c.hold.ensures.total in omega arith) (lists_replaced c.self.inside.links.items c.self.inside.ends.all c.self.invariant.all c.args.self.now.all (all_is c.self.inside.links.items c.self.inside.marks.items c.self.inside.ends c.self.invariant c.args.self.now c.self.view_is) c.args.list c.args.item c.args.by c.requires.room c.requires.there c.requires.apart c.all-all.result c.all-all.ensures c.relink-now.new.links.items c.relink-now.result c.relink-now.ensures c.mark.new.self.all (λ x some. c.mark.ensures.all ∙ c.hold.ensures.all)) c.relink-now-then-is_marked.new.links.items (kept_replaced c.self.inside.marks.items c.self.inside.ends.marked c.self.invariant.marked c.args.self.now.marked (marked_is c.self.inside.links.items c.self.inside.marks.items c.self.inside.ends c.self.invariant c.args.self.now c.self.view_is) c.args.list c.args.item c.args.by (mark_room c.self.inside.links.items c.self.inside.marks.items c.self.inside.ends c.self.invariant c.args.self.now c.self.view_is c.args.list c.args.item c.args.by c.requires.room c.requires.there c.requires.apart) (subst (IsMarkedIn c.args.self.now c.args.list c.args.item) c.if-is_marked.true c.requires.marked) (mark_apart c.self.inside.links.items c.self.inside.marks.items c.self.inside.ends c.self.invariant c.args.self.now c.self.view_is c.args.list c.args.item c.args.by c.requires.room c.requires.there c.requires.apart) c.marked-marked.result (c.marked-marked.ensures ∙ ap (λ m. ends_at m c.args.list) c.hold.ensures.marked) c.relink-now-then-is_marked.new.links.items c.relink-now-then-is_marked.result c.relink-now-then-is_marked.ensures c.mark.new.self.marked (λ x some. c.mark.ensures.some x some ∙ ap (λ (m : map.FinMap nat_cmp Ends). map.insert m c.args.list c.relink-now-then-is_marked.result) c.hold.ensures.marked)) (len_replaced c.self.inside.marks.items c.self.inside.ends.marked c.self.invariant.marked c.args.self.now.marked (marked_is c.self.inside.links.items c.self.inside.marks.items c.self.inside.ends c.self.invariant c.args.self.now c.self.view_is) c.args.list c.args.item c.args.by (mark_room c.self.inside.links.items c.self.inside.marks.items c.self.inside.ends c.self.invariant c.args.self.now c.self.view_is c.args.list c.args.item c.args.by c.requires.room c.requires.there c.requires.apart) (subst (IsMarkedIn c.args.self.now c.args.list c.args.item) c.if-is_marked.true c.requires.marked) (mark_apart c.self.inside.links.items c.self.inside.marks.items c.self.inside.ends c.self.invariant c.args.self.now c.self.view_is c.args.list c.args.item c.args.by c.requires.room c.requires.there c.requires.apart) c.marked-marked.result (c.marked-marked.ensures ∙ ap (λ m. ends_at m c.args.list) c.hold.ensures.marked) c.relink-now-then-is_marked.new.links.items c.relink-now-then-is_marked.result c.relink-now-then-is_marked.ensures) (lists_replaced c.self.inside.marks.items c.self.inside.ends.marked c.self.invariant.marked c.args.self.now.marked (marked_is c.self.inside.links.items c.self.inside.marks.items c.self.inside.ends c.self.invariant c.args.self.now c.self.view_is) c.args.list c.args.item c.args.by (mark_room c.self.inside.links.items c.self.inside.marks.items c.self.inside.ends c.self.invariant c.args.self.now c.self.view_is c.args.list c.args.item c.args.by c.requires.room c.requires.there c.requires.apart) (subst (IsMarkedIn c.args.self.now c.args.list c.args.item) c.if-is_marked.true c.requires.marked) (mark_apart c.self.inside.links.items c.self.inside.marks.items c.self.inside.ends c.self.invariant c.args.self.now c.self.view_is c.args.list c.args.item c.args.by c.requires.room c.requires.there c.requires.apart) c.marked-marked.result (c.marked-marked.ensures ∙ ap (λ m. ends_at m c.args.list) c.hold.ensures.marked) c.relink-now-then-is_marked.new.links.items c.relink-now-then-is_marked.result c.relink-now-then-is_marked.ensures c.mark.new.self.marked (λ x some. c.mark.ensures.some x some ∙ ap (λ (m : map.FinMap nat_cmp Ends). map.insert m c.args.list c.relink-now-then-is_marked.result) c.hold.ensures.marked))

pub invariant_of-self-else-is_marked : goal.invariant_of-self-else-is_marked
invariant_of-self-else-is_marked c = all_replaced c.self.inside.links.items c.self.inside.marks.items c.self.inside.ends c.self.invariant c.args.self.now c.self.view_is c.args.list c.args.item c.args.by c.requires.room c.requires.there c.requires.apart c.relink-now.new.links.items c.hold.new.self (kept_replaced c.self.inside.links.items c.self.inside.ends.all c.self.invariant.all c.args.self.now.all (all_is c.self.inside.links.items c.self.inside.marks.items c.self.inside.ends c.self.invariant c.args.self.now c.self.view_is) c.args.list c.args.item c.args.by c.requires.room c.requires.there c.requires.apart c.all-all.result c.all-all.ensures c.relink-now.new.links.items c.relink-now.result c.relink-now.ensures c.hold.new.self.all (λ x some. c.hold.ensures.all)) (len_replaced c.self.inside.links.items c.self.inside.ends.all c.self.invariant.all c.args.self.now.all (all_is c.self.inside.links.items c.self.inside.marks.items c.self.inside.ends c.self.invariant c.args.self.now c.self.view_is) c.args.list c.args.item c.args.by c.requires.room c.requires.there c.requires.apart c.all-all.result c.all-all.ensures c.relink-now.new.links.items c.relink-now.result c.relink-now.ensures) c.hold.ensures.total (lists_replaced c.self.inside.links.items c.self.inside.ends.all c.self.invariant.all c.args.self.now.all (all_is c.self.inside.links.items c.self.inside.marks.items c.self.inside.ends c.self.invariant c.args.self.now c.self.view_is) c.args.list c.args.item c.args.by c.requires.room c.requires.there c.requires.apart c.all-all.result c.all-all.ensures c.relink-now.new.links.items c.relink-now.result c.relink-now.ensures c.hold.new.self.all (λ x some. c.hold.ensures.all)) (subst (IsMarkedIn c.args.self.now c.args.list c.args.item) c.if-is_marked.false c.requires.marked) c.hold.ensures.marked

pub returns-then-is_marked : goal.returns-then-is_marked
returns-then-is_marked c = both_told c.self.inside.links.items c.self.inside.marks.items c.self.inside.ends c.self.invariant c.args.self.now c.self.view_is c.args.list c.args.item c.args.by c.requires.room c.requires.there c.requires.apart c.relink-now.new.links.items c.mark.new.self (kept_replaced c.self.inside.links.items c.self.inside.ends.all c.self.invariant.all c.args.self.now.all (all_is c.self.inside.links.items c.self.inside.marks.items c.self.inside.ends c.self.invariant c.args.self.now c.self.view_is) c.args.list c.args.item c.args.by c.requires.room c.requires.there c.requires.apart c.all-all.result c.all-all.ensures c.relink-now.new.links.items c.relink-now.result c.relink-now.ensures c.mark.new.self.all (λ x some. c.mark.ensures.all ∙ c.hold.ensures.all)) (len_replaced c.self.inside.links.items c.self.inside.ends.all c.self.invariant.all c.args.self.now.all (all_is c.self.inside.links.items c.self.inside.marks.items c.self.inside.ends c.self.invariant c.args.self.now c.self.view_is) c.args.list c.args.item c.args.by c.requires.room c.requires.there c.requires.apart c.all-all.result c.all-all.ensures c.relink-now.new.links.items c.relink-now.result c.relink-now.ensures) (let a = ap (λ (m : map.FinMap nat_cmp Ends). map.len m) c.mark.ensures.all in let r = c.mark.ensures.room in let t = c.hold.ensures.total in omega arith) (lists_replaced c.self.inside.links.items c.self.inside.ends.all c.self.invariant.all c.args.self.now.all (all_is c.self.inside.links.items c.self.inside.marks.items c.self.inside.ends c.self.invariant c.args.self.now c.self.view_is) c.args.list c.args.item c.args.by c.requires.room c.requires.there c.requires.apart c.all-all.result c.all-all.ensures c.relink-now.new.links.items c.relink-now.result c.relink-now.ensures c.mark.new.self.all (λ x some. c.mark.ensures.all ∙ c.hold.ensures.all)) c.relink-now-then-is_marked.new.links.items (kept_replaced c.self.inside.marks.items c.self.inside.ends.marked c.self.invariant.marked c.args.self.now.marked (marked_is c.self.inside.links.items c.self.inside.marks.items c.self.inside.ends c.self.invariant c.args.self.now c.self.view_is) c.args.list c.args.item c.args.by (mark_room c.self.inside.links.items c.self.inside.marks.items c.self.inside.ends c.self.invariant c.args.self.now c.self.view_is c.args.list c.args.item c.args.by c.requires.room c.requires.there c.requires.apart) (subst (IsMarkedIn c.args.self.now c.args.list c.args.item) c.if-is_marked.true c.requires.marked) (mark_apart c.self.inside.links.items c.self.inside.marks.items c.self.inside.ends c.self.invariant c.args.self.now c.self.view_is c.args.list c.args.item c.args.by c.requires.room c.requires.there c.requires.apart) c.marked-marked.result (c.marked-marked.ensures ∙ ap (λ m. ends_at m c.args.list) c.hold.ensures.marked) c.relink-now-then-is_marked.new.links.items c.relink-now-then-is_marked.result c.relink-now-then-is_marked.ensures c.mark.new.self.marked (λ x some. c.mark.ensures.some x some ∙ ap (λ (m : map.FinMap nat_cmp Ends). map.insert m c.args.list c.relink-now-then-is_marked.result) c.hold.ensures.marked)) (len_replaced c.self.inside.marks.items c.self.inside.ends.marked c.self.invariant.marked c.args.self.now.marked (marked_is c.self.inside.links.items c.self.inside.marks.items c.self.inside.ends c.self.invariant c.args.self.now c.self.view_is) c.args.list c.args.item c.args.by (mark_room c.self.inside.links.items c.self.inside.marks.items c.self.inside.ends c.self.invariant c.args.self.now c.self.view_is c.args.list c.args.item c.args.by c.requires.room c.requires.there c.requires.apart) (subst (IsMarkedIn c.args.self.now c.args.list c.args.item) c.if-is_marked.true c.requires.marked) (mark_apart c.self.inside.links.items c.self.inside.marks.items c.self.inside.ends c.self.invariant c.args.self.now c.self.view_is c.args.list c.args.item c.args.by c.requires.room c.requires.there c.requires.apart) c.marked-marked.result (c.marked-marked.ensures ∙ ap (λ m. ends_at m c.args.list) c.hold.ensures.marked) c.relink-now-then-is_marked.new.links.items c.relink-now-then-is_marked.result c.relink-now-then-is_marked.ensures) (lists_replaced c.self.inside.marks.items c.self.inside.ends.marked c.self.invariant.marked c.args.self.now.marked (marked_is c.self.inside.links.items c.self.inside.marks.items c.self.inside.ends c.self.invariant c.args.self.now c.self.view_is) c.args.list c.args.item c.args.by (mark_room c.self.inside.links.items c.self.inside.marks.items c.self.inside.ends c.self.invariant c.args.self.now c.self.view_is c.args.list c.args.item c.args.by c.requires.room c.requires.there c.requires.apart) (subst (IsMarkedIn c.args.self.now c.args.list c.args.item) c.if-is_marked.true c.requires.marked) (mark_apart c.self.inside.links.items c.self.inside.marks.items c.self.inside.ends c.self.invariant c.args.self.now c.self.view_is c.args.list c.args.item c.args.by c.requires.room c.requires.there c.requires.apart) c.marked-marked.result (c.marked-marked.ensures ∙ ap (λ m. ends_at m c.args.list) c.hold.ensures.marked) c.relink-now-then-is_marked.new.links.items c.relink-now-then-is_marked.result c.relink-now-then-is_marked.ensures c.mark.new.self.marked (λ x some. c.mark.ensures.some x some ∙ ap (λ (m : map.FinMap nat_cmp Ends). map.insert m c.args.list c.relink-now-then-is_marked.result) c.hold.ensures.marked)) ∙ ap (replaced c.args.self.now c.args.list c.args.item c.args.by) (sym c.if-is_marked.true)

pub returns-else-is_marked : goal.returns-else-is_marked
returns-else-is_marked c = all_told c.self.inside.links.items c.self.inside.marks.items c.self.inside.ends c.self.invariant c.args.self.now c.self.view_is c.args.list c.args.item c.args.by c.requires.room c.requires.there c.requires.apart c.relink-now.new.links.items c.hold.new.self (kept_replaced c.self.inside.links.items c.self.inside.ends.all c.self.invariant.all c.args.self.now.all (all_is c.self.inside.links.items c.self.inside.marks.items c.self.inside.ends c.self.invariant c.args.self.now c.self.view_is) c.args.list c.args.item c.args.by c.requires.room c.requires.there c.requires.apart c.all-all.result c.all-all.ensures c.relink-now.new.links.items c.relink-now.result c.relink-now.ensures c.hold.new.self.all (λ x some. c.hold.ensures.all)) (len_replaced c.self.inside.links.items c.self.inside.ends.all c.self.invariant.all c.args.self.now.all (all_is c.self.inside.links.items c.self.inside.marks.items c.self.inside.ends c.self.invariant c.args.self.now c.self.view_is) c.args.list c.args.item c.args.by c.requires.room c.requires.there c.requires.apart c.all-all.result c.all-all.ensures c.relink-now.new.links.items c.relink-now.result c.relink-now.ensures) c.hold.ensures.total (lists_replaced c.self.inside.links.items c.self.inside.ends.all c.self.invariant.all c.args.self.now.all (all_is c.self.inside.links.items c.self.inside.marks.items c.self.inside.ends c.self.invariant c.args.self.now c.self.view_is) c.args.list c.args.item c.args.by c.requires.room c.requires.there c.requires.apart c.all-all.result c.all-all.ensures c.relink-now.new.links.items c.relink-now.result c.relink-now.ensures c.hold.new.self.all (λ x some. c.hold.ensures.all)) c.hold.ensures.marked ∙ ap (replaced c.args.self.now c.args.list c.args.item c.args.by) (sym c.if-is_marked.false)
