use Rattle.member_lists.specs.Lists.{list_of, with_list, without}
use Rattle.member_lists.proofs.Kept.{leaves_in_range, leaves_before_fits, leaves_behind_fits, len_out, kept_left, lists_left}
use Rattle.member_lists.proofs.Marks.{all_is, all_held, none_marked, stays_left, all_kept, all_shown}
use Rattle.member_lists.proofs.marked.MarkedLists.remove.Goals as goal

pub unlink-now-requires-clause-room : goal.unlink-now-requires-clause-room
unlink-now-requires-clause-room c = leaves_in_range c.self.inside.links.items c.self.inside.ends.all c.self.invariant.all c.args.self.now.all (all_is c.self.inside.links.items c.self.inside.marks.items c.self.inside.ends c.self.invariant c.args.self.now c.self.view_is) c.args.list c.args.item c.requires.there

pub unlink-now-requires-clause-before : goal.unlink-now-requires-clause-before
unlink-now-requires-clause-before c = leaves_before_fits c.self.inside.links.items c.self.inside.ends.all c.self.invariant.all c.args.self.now.all (all_is c.self.inside.links.items c.self.inside.marks.items c.self.inside.ends c.self.invariant c.args.self.now c.self.view_is) c.args.list c.args.item c.requires.there

pub unlink-now-requires-clause-behind : goal.unlink-now-requires-clause-behind
unlink-now-requires-clause-behind c = leaves_behind_fits c.self.inside.links.items c.self.inside.ends.all c.self.invariant.all c.args.self.now.all (all_is c.self.inside.links.items c.self.inside.marks.items c.self.inside.ends c.self.invariant c.args.self.now c.self.view_is) c.args.list c.args.item c.requires.there

pub leave-requires-clause-there : goal.leave-requires-clause-there
leave-requires-clause-there c = all_held c.self.inside.links.items c.self.inside.marks.items c.self.inside.ends c.self.invariant c.args.self.now c.self.view_is c.args.list c.args.item c.requires.there

pub leave-requires-clause-unmarked : goal.leave-requires-clause-unmarked
leave-requires-clause-unmarked c = none_marked c.self.inside.links.items c.self.inside.marks.items c.self.inside.ends c.self.invariant c.args.self.now c.self.view_is c.args.list c.args.item c.requires.there c.requires.unmarked c.all-ends.result c.all-ends.ensures c.unlink-now.new.links.items c.unlink-now.result c.unlink-now.ensures

pub invariant_of-self : goal.invariant_of-self
invariant_of-self c = all_kept c.self.inside.links.items c.self.inside.marks.items c.self.inside.ends c.self.invariant c.args.self.now c.self.view_is c.unlink-now.new.links.items c.leave.new.self (kept_left c.self.inside.links.items c.self.inside.ends.all c.self.invariant.all c.args.self.now.all (all_is c.self.inside.links.items c.self.inside.marks.items c.self.inside.ends c.self.invariant c.args.self.now c.self.view_is) c.args.list c.args.item c.requires.there c.all-ends.result c.all-ends.ensures c.unlink-now.new.links.items c.unlink-now.result c.unlink-now.ensures c.leave.new.self.all c.leave.ensures.none c.leave.ensures.some) c.leave.ensures.marked (len_out c.self.inside.links.items c.self.inside.ends.all c.self.invariant.all c.args.self.now.all (all_is c.self.inside.links.items c.self.inside.marks.items c.self.inside.ends c.self.invariant c.args.self.now c.self.view_is) c.args.list c.args.item c.requires.there c.all-ends.result c.all-ends.ensures c.unlink-now.new.links.items c.unlink-now.result c.unlink-now.ensures) c.leave.ensures.total (with_list c.args.self.now.all c.args.list (without c.args.item (list_of c.args.self.now.all c.args.list))) (lists_left c.self.inside.links.items c.self.inside.ends.all c.self.invariant.all c.args.self.now.all (all_is c.self.inside.links.items c.self.inside.marks.items c.self.inside.ends c.self.invariant c.args.self.now c.self.view_is) c.args.list c.args.item c.requires.there c.all-ends.result c.all-ends.ensures c.unlink-now.new.links.items c.unlink-now.result c.unlink-now.ensures c.leave.new.self.all c.leave.ensures.none c.leave.ensures.some) (λ list x mark all. stays_left c.args.self.now.all c.args.list c.args.item list x (λ same. c.requires.unmarked list (rw same at mark)) all)

pub returns : goal.returns
returns c = all_shown c.self.inside.links.items c.self.inside.marks.items c.self.inside.ends c.self.invariant c.args.self.now c.self.view_is c.unlink-now.new.links.items c.leave.new.self (kept_left c.self.inside.links.items c.self.inside.ends.all c.self.invariant.all c.args.self.now.all (all_is c.self.inside.links.items c.self.inside.marks.items c.self.inside.ends c.self.invariant c.args.self.now c.self.view_is) c.args.list c.args.item c.requires.there c.all-ends.result c.all-ends.ensures c.unlink-now.new.links.items c.unlink-now.result c.unlink-now.ensures c.leave.new.self.all c.leave.ensures.none c.leave.ensures.some) c.leave.ensures.marked (len_out c.self.inside.links.items c.self.inside.ends.all c.self.invariant.all c.args.self.now.all (all_is c.self.inside.links.items c.self.inside.marks.items c.self.inside.ends c.self.invariant c.args.self.now c.self.view_is) c.args.list c.args.item c.requires.there c.all-ends.result c.all-ends.ensures c.unlink-now.new.links.items c.unlink-now.result c.unlink-now.ensures) c.leave.ensures.total (with_list c.args.self.now.all c.args.list (without c.args.item (list_of c.args.self.now.all c.args.list))) (lists_left c.self.inside.links.items c.self.inside.ends.all c.self.invariant.all c.args.self.now.all (all_is c.self.inside.links.items c.self.inside.marks.items c.self.inside.ends c.self.invariant c.args.self.now c.self.view_is) c.args.list c.args.item c.requires.there c.all-ends.result c.all-ends.ensures c.unlink-now.new.links.items c.unlink-now.result c.unlink-now.ensures c.leave.new.self.all c.leave.ensures.none c.leave.ensures.some) (λ list x mark all. stays_left c.args.self.now.all c.args.list c.args.item list x (λ same. c.requires.unmarked list (rw same at mark)) all)
