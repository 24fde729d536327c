use Rattle.std.proofs.Common.{rules, ◌≡◌, ◌++◌, flat_map, take, get_or, sym, ap, ◌∙◌, subst, append_assoc, append-nil, arith}
use Rattle.std.specs.Io.KnownBytes.{Appends}
use Rattle.tracer_base.specs.Blocks.{thread_line}
use Rattle.tracer_base.proofs.ReplyLemmas.{appends-more}
use Rattle.mach_run_base.specs.Callers.{IsRecorded}
use Rattle.mach_run_base.specs.Output.{answer_line}
use Rattle.mach_run_base.proofs.BlockTexts.{all_more, flat_more}
use Rattle.mach_run_base.proofs.running.write_block.Goals as goal

pub loop-answer-init : goal.loop-answer-init
loop-answer-init g c = (
  subst (Appends (g.W.Write.contents c.args.out.now) (g.W.Write.contents c.write_thread_line.new.out)) (sym (append-nil (thread_line c.args.number))) c.in_ok-write_thread_line.ensures,
  λ k d below. absurd (omega (arith, below)),
)

pub loop-answer-preserved : goal.loop-answer-preserved
loop-answer-preserved g c =
    let i = c.loop-answer.answer-index in
    let answers = c.args.answers.now in
    let one = c.answer-item.result in
    let here : get_or answers i one ≡ one = search rules in
    let made = c.in_ok-write_answer.ensures in
    let head = thread_line c.args.number in
    let before = flat_map answer_line (take i answers) in (
      subst (Appends (g.W.Write.contents c.args.out.now) (g.W.Write.contents c.write_answer.new.out))
          (append_assoc head before (answer_line one) ∙ ap (λ t. head ++ t) (sym (flat_more answer_line answers i one c.loop-answer-test.true here)))
          (appends-more _ _ _ (head ++ before) (answer_line one) c.loop-answer.invariant.0 made.1),
      all_more IsRecorded answers i one c.loop-answer-test.true here c.loop-answer.invariant.1 made.0,
    )
