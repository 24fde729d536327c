use Rattle.std.proofs.Common.{rules, ◌≡◌, ℕ, List, [], ◌∷◌, ◌++◌, All, Global, Vec, length, map, map-id, refl, sym, ap, ◌∙◌, subst}
use mathlib.Core.List.{map-append}
use Rattle.std.proofs.lemmas.Iterator.Adapters.{YieldsList-from_vec}
use Rattle.std.proofs.lemmas.Iterator.Consumers.{YieldsList-end}
use Rattle.std.proofs.lemmas.List.{length-map}
use Rattle.std.proofs.lemmas.List.Elements.{All-push}
use Rattle.std.specs.Io.KnownBytes.{Appends}
use Rattle.mach_types.specs.declared.profiles.Profile.{Profile}
use Rattle.kernel_lock.specs.declared.entry.Entry.{Entry}
use Rattle.kernel_lock.specs.declared.lock.Pass.{Pass}
use Rattle.mach_msg_threads.specs.declared.block.Answer.{Answer}
use Rattle.mach_msg_threads.specs.declared.block.Block.{Block}
use Rattle.mach_msg_threads.proofs.Rows.{zip_push}
use Rattle.mach_msg_threads.specs.declared.hall.BlockGate.{BlockGate}
use Rattle.mach_run_base.specs.Callers.{IsRecorded}
use Rattle.mach_run_base.specs.Enrolling.{IsReady, AreEnrolled, pass_of}
use Rattle.mach_run_base.specs.Output.{AreBlocks, block_texts}
use Rattle.mach_run_base.proofs.BlockTexts.{zip_length, number_of, blocks_of}
use Rattle.mach_run_base.proofs.running.run_threads.Goals as goal

abbrev answers_of : Pass × Vec Answer Global → List Answer
answers_of one = one.1.items

pub loop-block-preserved : goal.loop-block-preserved
loop-block-preserved g c =
    let l = c.loop-block in
    let block = c.in-Some.block in
    let one = c.in_ok-prepare.field-0 in
    let made = c.in_ok-prepare.ensures in
    let pushed = c.in_ok-push-2.ensures.items in
    let numbers : c.push.new.self.items ≡ map number_of (l.yielded ++ block ∷ []) =
    c.in_ok-push.ensures.items ∙ ap (λ (ns : List ℕ). ns ++ block.number ∷ []) l.invariant.3 ∙ sym (map-append number_of l.yielded (block ∷ [])) in (
      ap (λ k. k.table) made.same ∙ l.invariant.0,
      ap (λ k. k.profile) made.same ∙ l.invariant.1,
      ap (λ k. k.log) made.same ∙ l.invariant.2,
      numbers,
      zip_push _ l.yielded l.ready.items c.push-in-loop-block.new.self.items block one pushed l.invariant.4
          (subst (λ (x : Profile × List Entry). IsReady x.0 x.1 block one.pass one.calls.items) (λ i. (l.invariant.1 i, l.invariant.2 i)) made.ready),
      subst (All (λ (x : Block (BlockGate g.row.R.Denot)). x.pass.table ≡ c.args.shared.now.table)) (sym pushed)
          (All-push (λ (x : Block (BlockGate g.row.R.Denot)). x.pass.table ≡ c.args.shared.now.table) l.ready.items one l.invariant.5 made.tied),
    )

pub write_blocks-requires : goal.write_blocks-requires
write_blocks-requires g c =
    let l = c.loop-block in
    let ready = zip_length _ l.yielded l.ready.items l.invariant.4 in
    let ran = zip_length _ l.ready.items c.in_ok-ran.ran.items c.in_ok-ran.ensures.ran in
    ap length (c.as_slice.ensures.value ∙ l.invariant.3) ∙ length-map l.yielded number_of ∙ ready ∙ ran ∙ sym (ap length c.as_slice-2.ensures.value)

pub returns-clause-ran : goal.returns-clause-ran
returns-clause-ran g c caller given enrolled =
    let l = c.loop-block in
    let ran = c.in_ok-ran.ran.items in
    let end = YieldsList-end (YieldsList-from_vec {s = c.into_iter-block-iterator.result} c.args.blocks.items (search rules) (search rules))
    l.yielded l.block-iterator l.yielded_by c.next.result c.next.new.self c.in-None.is c.next.ensures.steps in
    let all : l.yielded ≡ c.args.blocks.items = rw (← end.0, map-id) refl in
    let recorded : All (λ y. All IsRecorded (answers_of y)) ran = subst (All (λ y. All IsRecorded (answers_of y))) c.as_slice-2.ensures.value c.in_ok-write_blocks.ensures.recorded in
    let made : AreBlocks c.args.shared.now.profile c.show.new.pass.seen caller given (block_texts answers_of (map number_of l.yielded) ran) (map pass_of ran) =
    blocks_of (λ (one : Block (BlockGate g.row.R.Denot)). one.pass) (λ one. one.calls.items) pass_of answers_of c.args.shared.now.profile c.show.new.pass.seen caller given l.yielded l.ready.items ran
    (subst (AreEnrolled caller given) (sym all) enrolled) l.invariant.4 c.in_ok-ran.ensures.ran recorded in
    let numbers : c.as_slice.result.now ≡ map number_of l.yielded = c.as_slice.ensures.value ∙ l.invariant.3 in
    let texts : block_texts answers_of c.as_slice.result.now c.as_slice-2.result.now ≡ block_texts answers_of (map number_of l.yielded) ran =
    λ i. block_texts answers_of (numbers i) (c.as_slice-2.ensures.value i) in
    let written = subst (Appends (g.W.Write.contents c.args.out.now) (g.W.Write.contents c.write_blocks.new.out)) texts c.in_ok-write_blocks.ensures.written in
    (block_texts answers_of (map number_of l.yielded) ran, made, written)
