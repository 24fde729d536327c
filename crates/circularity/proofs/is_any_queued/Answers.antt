use Rattle.std.proofs.Common.{◌≡◌, ℕ, arith, Option, Some, None, is_some, false, get_or, sym, subst, ◌∙◌, below_more}
use Rattle.std.proofs.lemmas.Grind.{get_or_default_zero}
use Rattle.std.specs.Prelude.{MatchOption}
use Rattle.port.specs.Holding.{IsHeldBy}
use Rattle.port.specs.declared.Holder.TheVariants.{QueueOf}
use Rattle.circularity.proofs.is_any_queued.Goals as goal

none_of : (P : Type 0) (Q : ℕ → Type 0) (o : Option ℕ) → MatchOption o P Q → is_some o ≡ false → P
none_of P Q None h is = h
none_of P Q (Some x) h is = absurd (cc)

pub loop-port-preserved : goal.loop-port-preserved
loop-port-preserved g c =
    let none = none_of _ _ c.carrier.result c.carrier.ensures (sym c.is_some.ensures ∙ c.if-is_some.false) in
    let at : get_or c.args.carried.now c.loop-port.port-index 0 ≡ c.port-item.result = sym (get_or_default_zero c.args.carried.now c.loop-port.port-index c.port-item.result (omega arith)) ∙ sym c.port-item.is in
    below_more _ _ c.loop-port.invariant (λ queue held. none queue (subst (λ p. IsHeldBy c.args.ports.now.bare p (QueueOf queue)) at held))

pub returns : goal.returns
returns g c = (
  (λ is. absurd (cc)),
  (λ (port, queue, (k, below, is), held).
      let at : get_or c.args.carried.now k 0 ≡ port = sym (get_or_default_zero c.args.carried.now k port below) ∙ is in
      absurd (c.loop-port.invariant k (omega arith) queue (subst (λ p. IsHeldBy c.args.ports.now.bare p (QueueOf queue)) (sym at) held))),
)
