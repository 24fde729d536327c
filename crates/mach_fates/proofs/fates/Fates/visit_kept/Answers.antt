use Rattle.std.proofs.Common.{◌≡◌, ◌≢◌, ◌+◌, ℕ, ◌++◌, ◌∷◌, [], take, List, sym, subst}
use Rattle.std.specs.Prelude.{get_or}
use Rattle.std.proofs.lemmas.List.{take_more, take_all}
use Rattle.mach_fates.specs.Keeping.{Apart}
use Rattle.mach_fates.proofs.Visiting.{none_visited, one_visited, visited_then, weaker, apart_nil, apart_more}
use Rattle.mach_fates.proofs.fates.Fates.visit_kept.Goals as goal

pub loop-port-init : goal.loop-port-init
loop-port-init c = none_visited (λ p. Apart p []) c.args.turn.now.number c.args.world.now c.args.self.now (λ p. apart_nil p)

pub loop-port-preserved : goal.loop-port-preserved
loop-port-preserved c =
    let ports : List ℕ = c.args.ports.now in
    let place : ℕ = c.loop-port.port-index in
    let item : ℕ = get_or ports place 0 in
    let more : take (place + 1) ports ≡ take place ports ++ item ∷ [] = take_more ports place 0 c.loop-port-test.true in
    visited_then (λ p. Apart p (take place ports)) (λ p. p ≢ item) (λ p. Apart p (take (place + 1) ports)) c.args.turn.now.number c.args.world.now c.args.self.now c.loop-port.self c.visit.new.self c.loop-port.invariant
    (one_visited c.args.turn.now.number c.args.world.now item c.loop-port.self c.visit.new.self c.in_ok-visit.ensures)
    (λ p all not. subst (Apart p) (sym more) (apart_more p item (take place ports) all (λ e. not (sym e))))

pub returns : goal.returns
returns c =
    let ports : List ℕ = c.args.ports.now in
    weaker (λ p. Apart p (take c.loop-port.port-index ports)) (λ p. Apart p ports) c.args.turn.now.number c.args.world.now c.args.self.now c.loop-port.self c.loop-port.invariant
    (λ p all. subst (Apart p) (take_all c.loop-port.port-index ports c.loop-port-test.false) all)
