use Rattle.std.proofs.Common.{ℕ, ◌≡◌, ◌+◌, List, [], ◌∷◌, length, length-append, sym, ap, subst, ◌∙◌, take, inl, inr, arith}
use Rattle.std.proofs.lemmas.List.{take_all}
use Rattle.std.proofs.lemmas.Result.{err_from_is_err_and}
use Rattle.message_codec.specs.declared.words.PortWord.{PortWord}
use Rattle.copyin.specs.Judging.{CopiesBody}
use Rattle.copyin_base.specs.declared.Carried.{Carried}
use Rattle.copyin.proofs.Judging.{IsJudged, judged-none, judged-more, judged-bad}
use Rattle.copyin.proofs.judge.judge_body.Goals as goal

pub loop-word-init : goal.loop-word-init
loop-word-init c =
    let none : c.reserve.new.self.items ≡ [] = c.in-Ok.ensures.items ∙ c.requires.none in
    let room = c.in-Ok.ensures.ok in
    record {
      judged = subst (λ (cs : List Carried). IsJudged c.args.touched.now c.args.touched.now c.args.space.now.names [] cs) (sym none)
          (judged-none c.args.touched.now c.args.space.now.names);
      few = omega (arith, c.requires.few);
      so_far = ap length none;
      room = omega (arith, room);
    }

pub judge_next-requires-clause-room : goal.judge_next-requires-clause-room
judge_next-requires-clause-room c = omega (arith, c.loop-word.invariant.so_far, c.loop-word.invariant.room, c.loop-word-test.true)

pub loop-word-preserved : goal.loop-word-preserved
loop-word-preserved c =
    let names = c.args.space.now.names in
    let words = c.args.words.now in
    let next : ℕ = c.loop-word.word-index + 1 in
    let new = c.judge_next.new.touched in
    let k = c.in_ok-judge_next.ensures.ok in
    record {
      judged = subst (λ (cs : List Carried). IsJudged c.args.touched.now new names (take next words) cs) (sym k.1)
          (judged-more c.args.touched.now c.loop-word.touched new names words c.loop-word.word-index c.word-item.result c.loop-word.rights.items k.0
          c.loop-word-test.true c.word-item.is c.loop-word.invariant.judged k.2);
      few = omega (arith, c.judge_next.ensures.few, c.loop-word.invariant.few);
      so_far = ap length k.1 ∙ length-append c.loop-word.rights.items (k.0 ∷ []) ∙ ap (λ (n : ℕ). n + 1) c.loop-word.invariant.so_far;
      room = omega (arith, c.in_ok-judge_next.ensures.capacity, c.loop-word.invariant.room);
    }

pub returns-in_err-judge_next-clause-err : goal.returns-in_err-judge_next-clause-err
returns-in_err-judge_next-clause-err c =
    let p = err_from_is_err_and c.from_residual.result c.from_residual.ensures.1 in
    rw (p.1, p.2) (elim c.in_err-judge_next.ensures.err [
      | inl h ↦ inl (
        h.0,
        omega (arith, h.1, c.loop-word.invariant.few, c.loop-word-test.true),
      )
      | inr h ↦ inr (
        h.0,
        judged-bad c.args.touched.now c.loop-word.touched c.args.space.now.names c.args.words.now c.loop-word.word-index c.word-item.result c.loop-word.rights.items
            c.loop-word-test.true c.word-item.is c.loop-word.invariant.judged h.1,
      )
    ])

pub returns-clause-ok : goal.returns-clause-ok
returns-clause-ok c = λ now o.
    let a = c.loop-word.invariant.judged.so now o in
    (a.0, subst (λ (ws : List PortWord). CopiesBody now ws c.loop-word.rights.items a.0) (take_all c.loop-word.word-index c.args.words.now (omega arith)) a.1)
