use Rattle.std.proofs.Common.{rules, ◌≡◌, List, [], ◌∷◌, ◌++◌, sym, subst}
use Rattle.mach_msg_threads.specs.declared.block.Answer.{Answer}
use Rattle.mach_msg_threads.specs.Blocks.{Answered, Ran}
use Rattle.mach_msg_threads.proofs.Rows.{ran_more}
use Rattle.mach_msg_threads.proofs.block.run_block.Goals as goal

pub loop-call-preserved : goal.loop-call-preserved
loop-call-preserved g c =
    let l = c.loop-call in
    let answer = c.in_ok-make_call.field-0 in
    let pushed : c.push.new.self.items ≡ l.answers.items ++ answer ∷ [] = search rules in
    let answered : Answered c.in-Some.call l.pass answer c.make_call.new.pass = search rules in (
      c.make_call.ensures.tied,
      subst (λ (answers : List Answer). Ran c.args.block.pass (l.yielded ++ c.in-Some.call ∷ []) answers c.make_call.new.pass) (sym pushed)
          (ran_more c.args.block.pass l.pass c.make_call.new.pass l.yielded l.answers.items c.in-Some.call answer l.invariant.1 answered),
    )
