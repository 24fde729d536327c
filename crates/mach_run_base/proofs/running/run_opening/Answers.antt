use Rattle.std.proofs.Common.{◌∙◌, [], sym, ◌++◌}
use Rattle.tracer_base.specs.Replies.{reply_line}
use Rattle.tracer_base.proofs.ReplyLemmas.{appends-more, appends-none}
use Rattle.mach_run_base.proofs.OutputLemmas.{replies-none, replies-more}
use Rattle.mach_run_base.proofs.running.run_opening.Goals as goal

pub loop-event-init : goal.loop-event-init
loop-event-init g c = (c.requires.tied.0, c.requires.tied.1, c.requires.empty.1 ∙ sym c.requires.empty.0, ([], replies-none _ c.requires.empty.1, appends-none _))

pub loop-event-preserved : goal.loop-event-preserved
loop-event-preserved g c =
    let inv = c.loop-event.invariant in
    let made = c.in_ok-run_event.ensures.made in
    let more = replies-more _ _ _ _ _ _ _ _ _ inv.3.1 inv.2 made.1 made.2 in
    let text = appends-more _ _ _ inv.3.0 (reply_line made.0) inv.3.2 made.3 in
    (c.run_event.ensures.tied.0, c.run_event.ensures.tied.1, more.1, (inv.3.0 ++ reply_line made.0, more.0, text))
