use Rattle.std.proofs.Common.{rules, ◌≡◌, ◌<◌, ℕ, List, ◌++◌, All, Global, Vec, length, get_or, flat_map, sym, subst, take, arith}
use Rattle.std.proofs.lemmas.List.{take_all}
use Rattle.std.specs.Io.KnownBytes.{Appends}
use Rattle.kernel_lock.specs.declared.lock.Pass.{Pass}
use Rattle.mach_msg_threads.specs.declared.block.Answer.{Answer}
use Rattle.tracer_base.specs.Blocks.{thread_line}
use Rattle.tracer_base.proofs.ReplyLemmas.{appends-more}
use Rattle.mach_run_base.specs.Callers.{IsRecorded}
use Rattle.mach_run_base.specs.Output.{answer_line, block_texts}
use Rattle.mach_run_base.proofs.BlockTexts.{any_default, texts_more, all_more}
use Rattle.mach_run_base.proofs.running.write_blocks.Goals as goal

abbrev answers_of : Pass × Vec Answer Global → List Answer
answers_of one = one.1.items

pub loop-place-preserved : goal.loop-place-preserved
loop-place-preserved g c =
    let i = c.loop-place.place in
    let one = c.index-ran-place.result in
    let numbers = c.args.numbers.now in
    let ran = c.args.ran.now in
    let low : i < length ran = c.loop-place-test.true in
    let here : get_or ran i one ≡ one = search rules in
    let number = get_or numbers i 0 in
    let there : get_or numbers i number ≡ number = any_default numbers i number 0 (let same = c.requires in omega (arith, same, low)) in
    let written : Appends (g.W.Write.contents c.loop-place.out) (g.W.Write.contents c.write_block.new.out) (thread_line number ++ flat_map answer_line one.1.items) =
    subst (λ (answers : List Answer). Appends (g.W.Write.contents c.loop-place.out) (g.W.Write.contents c.write_block.new.out) (thread_line number ++ flat_map answer_line answers))
    c.as_slice.ensures.value c.in_ok-write_block.ensures.written in
    let recorded : All IsRecorded one.1.items = subst (All IsRecorded) c.as_slice.ensures.value c.in_ok-write_block.ensures.recorded in (
      subst (Appends (g.W.Write.contents c.args.out.now) (g.W.Write.contents c.write_block.new.out)) (sym (texts_more answers_of numbers ran i number one c.requires low there here))
          (appends-more _ _ _ (block_texts answers_of (take i numbers) (take i ran)) (thread_line number ++ flat_map answer_line one.1.items) c.loop-place.invariant.0 written),
      all_more (λ one. All IsRecorded (answers_of one)) ran i one low here c.loop-place.invariant.1 recorded,
    )

pub returns-clause-written : goal.returns-clause-written
returns-clause-written g c =
    let i = c.loop-place.place in
    let numbers : take i c.args.numbers.now ≡ c.args.numbers.now = take_all i c.args.numbers.now (let same = c.requires in let past = c.loop-place-test.false in omega (arith, same, past)) in
    let ran : take i c.args.ran.now ≡ c.args.ran.now = take_all i c.args.ran.now c.loop-place-test.false in
    subst (λ (x : List ℕ × List (Pass × Vec Answer Global)). Appends (g.W.Write.contents c.args.out.now) (g.W.Write.contents c.loop-place.out) (block_texts answers_of x.0 x.1))
    (λ j. (numbers j, ran j)) c.loop-place.invariant.0

pub returns-clause-recorded : goal.returns-clause-recorded
returns-clause-recorded g c =
    subst (All (λ one. All IsRecorded (answers_of one))) (take_all c.loop-place.place c.args.ran.now c.loop-place-test.false) c.loop-place.invariant.1
