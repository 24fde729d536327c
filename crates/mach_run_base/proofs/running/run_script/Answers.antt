use Rattle.std.proofs.Common.{ℕ, ◌+◌, ◌++◌, map, ap, ◌∙◌, refl, subst, arith}
use Rattle.tracer_base.proofs.ReplyLemmas.{appends-more}
use Rattle.mach_run_base.specs.Enrolling.{AreEnrolled, pass_of}
use Rattle.mach_run_base.specs.Output.{IsAnswered}
use Rattle.mach_run_base.proofs.OfScript.{no_calls}
use Rattle.mach_run_base.proofs.running.run_script.Goals as goal

pub run_opening-requires-clause-empty : goal.run_opening-requires-clause-empty
run_opening-requires-clause-empty g c =
    let held = c.with_passes-held in
    (c.enroll.ensures.same.1 ∙ c.pass.ensures.same.log ∙ no_calls held.result.kernel.log (λ k. held.ensures.others k (omega arith)), c.in_ok-pass.ensures.new.0.nothing)

pub run_threads-requires-clause-tied : goal.run_threads-requires-clause-tied
run_threads-requires-clause-tied g c κs within = (c.run_calls.ensures.tied, c.in_ok-enrolled.ensures.tied)

pub returns-clause-answered : goal.returns-clause-answered
returns-clause-answered g c =
    let script = c.args.script in
    let new = c.in_ok-pass.ensures.new in
    let none = c.with_passes-held.ensures.count in
    let first = c.in_ok-run_opening.ensures.answered in
    let next = c.in_ok-run_calls.ensures.answered in
    let enrolled : AreEnrolled 1 script.blocks.items c.in_ok-enrolled.enrolled.items =
    subst (λ (k : ℕ). AreEnrolled k script.blocks.items c.in_ok-enrolled.enrolled.items) (new.1 ∙ ap (λ n. n + 1) none) c.in_ok-enrolled.ensures.enrolled in
    let last = c.in_ok-ran.ensures.ran 1 script.blocks.items enrolled in
    let answered : IsAnswered c.args.shared.now.profile script (first.0 ++ next.0 ++ last.0) c.run_threads.new.main (map pass_of c.in_ok-ran.ran.items) = record {
      opening = first.0;
      further = next.0;
      behind = last.0;
      parts = refl;
      pass = c.in_ok-pass.pass;
      of = new.0.profile ∙ c.with_passes-held.ensures.profile;
      number = new.0.caller ∙ none;
      begins = new.0.nothing;
      opened = c.run_opening.new.pass;
      first = first.1;
      ended = c.run_calls.new.pass;
      next = next.1;
      same = c.in_ok-ran.ensures.main.1;
      whole = c.in_ok-ran.ensures.main.0;
      last = last.1;
    } in
    (first.0 ++ next.0 ++ last.0, answered, appends-more _ _ _ (first.0 ++ next.0) last.0 (appends-more _ _ _ first.0 next.0 first.2 next.2) last.2)
