use Rattle.std.proofs.Common.{◌++◌, ◌∷◌, [], sym, ◌∙◌}
use Rattle.shared_lists.proofs.Walk.{none_of}
use Rattle.port_base.proofs.Settled.{leaving_none, leaving_next, leaving_fewer, once_further, left_all_more, left_all_lists}
use Rattle.port_base.proofs.moves.leave_further.Goals as goal

pub loop-set-init : goal.loop-set-init
loop-set-init c = record { gone = []; out = leaving_none c.args.sets.now c.args.key c.args.is_ready c.requires.ready }

pub leave_further-requires-clause-further : goal.leave_further-requires-clause-further
leave_further-requires-clause-further c = once_further c.loop-set.sets c.args.key c.in-Some.set c.in-Some.ensures.once

pub leave_further-requires-clause-ready : goal.leave_further-requires-clause-ready
leave_further-requires-clause-ready c = c.loop-set.invariant.out.ready

pub loop-set-preserved : goal.loop-set-preserved
loop-set-preserved c = record { gone = c.loop-set.invariant.gone ++ c.in-Some.set ∷ []; out = leaving_next c.args.sets.now c.loop-set.sets c.leave_further.new.self c.args.key c.in-Some.set c.args.is_ready c.loop-set.invariant.gone c.loop-set.invariant.out c.in-Some.ensures.once c.leave_further.ensures.after }

pub loop-set-smaller : goal.loop-set-smaller
loop-set-smaller c = leaving_fewer c.args.sets.now c.loop-set.sets c.leave_further.new.self c.args.key c.in-Some.set c.args.is_ready c.loop-set.invariant.gone c.loop-set.invariant.out c.in-Some.ensures.once c.leave_further.ensures.after

pub returns-clause-lists : goal.returns-clause-lists
returns-clause-lists c = left_all_lists c.args.sets.now c.loop-set.sets c.args.key c.args.is_ready c.loop-set.invariant.gone c.loop-set.invariant.out (sym (none_of c.first_further.result c.in_default.not-Some) ∙ c.first_further.ensures.is)

pub returns-clause-none : goal.returns-clause-none
returns-clause-none c = left_all_more c.args.sets.now c.loop-set.sets c.args.key c.args.is_ready c.loop-set.invariant.gone c.loop-set.invariant.out (sym (none_of c.first_further.result c.in_default.not-Some) ∙ c.first_further.ensures.is)

pub returns-clause-first : goal.returns-clause-first
returns-clause-first c = c.loop-set.invariant.out.first

pub returns-clause-others : goal.returns-clause-others
returns-clause-others c = c.loop-set.invariant.out.others
