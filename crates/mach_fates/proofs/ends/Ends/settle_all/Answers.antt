use Rattle.std.proofs.Common.{◌≡◌, ◌+◌, ℕ, ◌++◌, ◌∷◌, [], take, List, Option, sym, subst}
use Rattle.std.specs.Prelude.{get_or}
use Rattle.std.proofs.lemmas.List.{take_more, take_all}
use Rattle.mach_fates.specs.Noting.{SettledAt, SettlesAll}
use Rattle.mach_fates.proofs.Growing.{settles_none, settles_more}
use Rattle.mach_fates.proofs.ends.Ends.settle_all.Goals as goal

pub loop-port-init : goal.loop-port-init
loop-port-init c = settles_none c.args.number c.args.fates.now c.args.self.now

pub loop-port-preserved : goal.loop-port-preserved
loop-port-preserved c =
    let ports : List ℕ = c.args.ports.now in
    let place : ℕ = c.loop-port.port-index in
    let item : ℕ = get_or ports place 0 in
    let more : take (place + 1) ports ≡ take place ports ++ item ∷ [] = take_more ports place 0 c.loop-port-test.true in
    subst (λ (xs : List ℕ). SettlesAll c.args.number c.args.fates.now xs c.args.self.now c.settle.new.self) (sym more)
    (settles_more c.args.number c.args.fates.now item (take place ports) c.args.self.now c.loop-port.self c.settle.new.self c.loop-port.invariant
    (subst (λ (o : Option ℕ). SettledAt c.args.number item o c.loop-port.self c.settle.new.self) c.queued.ensures c.in_ok-settle.ensures))

pub returns : goal.returns
returns c =
    let ports : List ℕ = c.args.ports.now in
    subst (λ (xs : List ℕ). SettlesAll c.args.number c.args.fates.now xs c.args.self.now c.loop-port.self) (take_all c.loop-port.port-index ports c.loop-port-test.false) c.loop-port.invariant
