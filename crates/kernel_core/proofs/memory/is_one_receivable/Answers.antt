use Rattle.std.proofs.Common.{ℕ, List, ap, sym, subst, ◌++◌, ◌∷◌, [], ◌∙◌, take, arith}
use Rattle.std.specs.Prelude.{Contains}
use Rattle.std.proofs.lemmas.List.{take_more, take_all}
use Rattle.kernel_core.specs.MemoryCodes.{IsReceivable}
use Rattle.kernel_core.proofs.Staying.{none_more}
use Rattle.kernel_core.proofs.memory.is_one_receivable.Goals as goal

pub loop-port-preserved : goal.loop-port-preserved
loop-port-preserved c =
    let before = take c.loop-port.port-index c.args.ports.now in
    let more = none_more c.args.world.now c.args.task c.args.room before c.port-item.result c.loop-port.invariant c.if-is_receivable.ensures in
    subst (λ (ports : List ℕ). (p : ℕ) → Contains ports p → ¬ (IsReceivable c.args.world.now c.args.task p c.args.room))
    (ap (λ p. before ++ p ∷ []) c.port-item.is ∙ sym (take_more c.args.ports.now c.loop-port.port-index c.port-item.result c.loop-port-test.true)) more

pub returns : goal.returns
returns c =
    subst (λ (ports : List ℕ). (p : ℕ) → Contains ports p → ¬ (IsReceivable c.args.world.now c.args.task p c.args.room))
    (take_all c.loop-port.port-index c.args.ports.now (let at = c.loop-port-test.false in omega (arith, at))) c.loop-port.invariant
