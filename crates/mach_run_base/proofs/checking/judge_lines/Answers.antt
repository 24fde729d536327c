use Rattle.std.proofs.Common.{rules, ◌∙◌, subst}
use Rattle.tracer.specs.Histories.{HasNoHeading}
use Rattle.mach_run_base.proofs.HistoryLemmas.{heading-read, no-heading, told-bad}
use Rattle.mach_run_base.proofs.checking.judge_lines.Goals as goal

pub returns-in_default : goal.returns-in_default
returns-in_default g c =
    let none : HasNoHeading c.as_slice.result.now = search rules in
    told-bad c.bad_line.result _ 1 c.bad_line.ensures (no-heading _ c.next_line.new.line.items c.in_ok-next_line.ensures.taken (subst HasNoHeading c.as_slice.ensures.value none))

pub returns : goal.returns
returns g c =
    let profile = c.in-Some.profile in
    let line = c.next_line.new.line.items in
    let read = c.in_ok-next_line.ensures in
    c.judge_entries.ensures _ profile c.new-judge.ensures (heading-read profile _ _ line _ read.taken read.left (c.in-Some.ensures.some ∙ c.as_slice.ensures.value))
