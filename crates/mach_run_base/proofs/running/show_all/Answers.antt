use Rattle.std.proofs.Common.{rules, ◌≡◌, All, Global, Vec, refl, ◌∙◌, subst, map-id}
use Rattle.std.proofs.lemmas.Iterator.Adapters.{YieldsList-from_vec}
use Rattle.std.proofs.lemmas.Iterator.Consumers.{YieldsList-end}
use Rattle.std.proofs.lemmas.List.Elements.{All-push}
use Rattle.kernel_lock.specs.declared.lock.Pass.{Pass}
use Rattle.mach_msg_threads.specs.declared.block.Answer.{Answer}
use Rattle.mach_run_base.specs.Callers.{SeesAll}
use Rattle.mach_run_base.proofs.running.show_all.Goals as goal

pub loop-block-preserved : goal.loop-block-preserved
loop-block-preserved c =
    let l = c.loop-block in
    let block = c.in-Some.block in
    let shown : SeesAll block.0 l.held.kernel.log = record { begins = c.show.ensures.begins; own = c.show.ensures.own } in (
      c.show.ensures.same ∙ l.invariant.0,
      All-push (λ (one : Pass × Vec Answer Global). SeesAll one.0 c.args.held.now.kernel.log) l.yielded block l.invariant.1 (subst (λ k. SeesAll block.0 k.log) l.invariant.0 shown),
    )

pub returns-clause-all : goal.returns-clause-all
returns-clause-all c =
    let l = c.loop-block in
    let end = YieldsList-end (YieldsList-from_vec {s = c.into_iter-block-iterator.result} c.args.blocks.items (search rules) (search rules))
    l.yielded l.block-iterator l.yielded_by c.next.result c.next.new.self c.in-None.is c.next.ensures.steps in
    let all : l.yielded ≡ c.args.blocks.items = rw (← end.0, map-id) refl in
    subst (All (λ (one : Pass × Vec Answer Global). SeesAll one.0 c.args.held.now.kernel.log)) all l.invariant.1
