use Rattle.std.proofs.Common.{[], ◌++◌}
use Rattle.tracer_base.proofs.ReplyLemmas.{appends-more, appends-none}
use Rattle.mach_run_base.specs.Output.{answer_line}
use Rattle.mach_run_base.proofs.OutputLemmas.{answers-none, answers-more}
use Rattle.mach_run_base.proofs.running.run_calls.Goals as goal

pub loop-call-init : goal.loop-call-init
loop-call-init g c = (c.requires, ([], answers-none _, appends-none _))

pub loop-call-preserved : goal.loop-call-preserved
loop-call-preserved g c =
    let inv = c.loop-call.invariant in
    let made = c.in_ok-run_call.ensures.made in
    let more = answers-more _ _ _ _ _ _ made.0 inv.1.1 made.1 made.2 in
    let text = appends-more _ _ _ inv.1.0 (answer_line made.0) inv.1.2 made.3 in
    (c.run_call.ensures.tied, (inv.1.0 ++ answer_line made.0, more, text))
