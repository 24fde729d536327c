use Rattle.std.proofs.Common.{arith}
use Rattle.std.specs.Prelude.{Contains}
use Rattle.circularity.specs.Chains.{LeadsToAny}
use Rattle.circularity.proofs.Following.{none_passed, ends, ends_after, goes_on, closes, among, not_among}
use Rattle.circularity.proofs.closes_loop.Goals as goal
use Rattle.circularity.proofs.closes_loop.Goals.{else-any_queued-via-then-any_queued+else-contains, else-any_queued-via-else-any_queued, else-loop-step-test, then-loop-step-test+else-any_queued+in_default}

pub loop-step-init : goal.loop-step-init
loop-step-init g c = none_passed c.args.ports.now.bare c.args.carried.now c.args.destination

pub loop-step-preserved : goal.loop-step-preserved
loop-step-preserved g c =
    let not : Contains c.args.carried.now c.loop-step.port → ⊥ = elim c.else-any_queued.branch [
      | else-any_queued-via-then-any_queued+else-contains w ↦ not_among c.args.carried.now c.loop-step.port w.contains.result w.contains.ensures.cases w.if-contains.false
      | else-any_queued-via-else-any_queued w ↦ λ contains. (let is = c.is_any_queued-any_queued.ensures.1 (c.loop-step.port, c.in-Some.queue, contains, c.in-Some.ensures) in let no = w.if-any_queued.false in cc)
    ] in
    goes_on c.args.ports.now.bare c.args.carried.now c.args.destination c.loop-step.port c.loop-step._step c.loop-step.invariant c.in-Some.queue c.in-Some.ensures (omega arith) not

pub returns : goal.returns
returns g c =
    let told = among c.args.carried.now c.loop-step.port c.contains-2.result c.contains-2.ensures.cases in
    let only : LeadsToAny c.args.ports.now.bare c.args.destination c.args.carried.now → Contains c.args.carried.now c.loop-step.port = elim c.loop-step-test.branch [
      | else-loop-step-test w ↦ ends_after c.args.ports.now.bare c.args.carried.now c.args.destination c.loop-step.port c.loop-step._step c.loop-step.invariant (omega arith)
      | then-loop-step-test+else-any_queued+in_default w ↦ ends c.args.ports.now.bare c.args.carried.now c.args.destination c.loop-step.port c.loop-step._step c.loop-step.invariant w.in_default.ensures
    ] in (
      (λ is. closes c.args.ports.now.bare c.args.carried.now c.args.destination c.loop-step.port c.loop-step._step c.loop-step.invariant (told.0 is)),
      (λ leads. told.1 (only leads)),
    )
