use Rattle.std.proofs.Common.{rules, ◌≡◌, List, [], ◌∷◌, ◌++◌, All, refl, sym, ◌∙◌, subst, arith, map-id}
use Rattle.std.proofs.lemmas.Iterator.Adapters.{YieldsList-from_vec}
use Rattle.std.proofs.lemmas.Iterator.Consumers.{YieldsList-end}
use Rattle.std.proofs.lemmas.List.{length_push}
use Rattle.std.proofs.lemmas.List.Elements.{All-push}
use Rattle.mach_run_base.specs.declared.running.Enrolled.{Enrolled}
use Rattle.mach_run_base.specs.declared.script.ThreadCalls.{ThreadCalls}
use Rattle.mach_run_base.specs.Enrolling.{AreEnrolled}
use Rattle.mach_run_base.proofs.BlockTexts.{enrolled_push}
use Rattle.mach_run_base.proofs.running.enroll.Goals as goal

pub loop-block-preserved : goal.loop-block-preserved
loop-block-preserved c =
    let l = c.loop-block in
    let block = c.in-Some.block in
    let new = c.in_ok-pass.ensures.new in
    let one : Enrolled = record { number = block.number; pass = c.in_ok-pass.pass; calls = block.calls } in
    let pushed : c.push.new.self.items ≡ l.all.items ++ one ∷ [] = c.in_ok-push.ensures.items in
    let first = c.args.held.now.kernel.passes in (
      c.pass.ensures.same.table ∙ l.invariant.0,
      c.pass.ensures.same.log ∙ l.invariant.1,
      (let longer = length_push l.yielded block in let more = new.1 in let many = l.invariant.2 in omega (arith, longer, more, many)),
      subst (All (λ (x : Enrolled). x.pass.table ≡ c.args.shared.now.table)) (sym pushed)
          (All-push (λ (x : Enrolled). x.pass.table ≡ c.args.shared.now.table) l.all.items one l.invariant.3 (new.0.table ∙ l.invariant.0)),
      subst (AreEnrolled first (l.yielded ++ block ∷ [])) (sym pushed) (enrolled_push first l.yielded l.all.items block one l.invariant.4 (refl, refl, new.0.caller ∙ l.invariant.2, new.0.nothing)),
    )

pub returns-clause-enrolled : goal.returns-clause-enrolled
returns-clause-enrolled c =
    let l = c.loop-block in
    let end = YieldsList-end (YieldsList-from_vec {s = c.into_iter-block-iterator.result} c.args.blocks.items (search rules) (search rules))
    l.yielded l.block-iterator l.yielded_by c.next.result c.next.new.self c.in-None.is c.next.ensures.steps in
    let all : l.yielded ≡ c.args.blocks.items = rw (← end.0, map-id) refl in
    subst (λ (blocks : List ThreadCalls). AreEnrolled c.args.held.now.kernel.passes blocks l.all.items) all l.invariant.4
