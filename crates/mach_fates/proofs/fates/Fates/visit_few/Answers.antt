use Rattle.std.proofs.Common.{◌≡◌, ◌≢◌, ◌+◌, ℕ, ◌++◌, ◌∷◌, [], take, List, Option, Some, sym, subst}
use Rattle.std.proofs.lemmas.List.{take_more, take_all}
use Rattle.mach_types.specs.declared.calls.Waited.{Waited}
use Rattle.mach_types.specs.declared.calls.Waited.TheVariants.{Port}
use Rattle.mach_fates.specs.Keeping.{Apart}
use Rattle.mach_fates.proofs.Visiting.{none_visited, visited_then, weaker, apart_nil, apart_more}
use Rattle.mach_fates.proofs.fates.Fates.visit_few.Goals as goal

pub loop-waited-init : goal.loop-waited-init
loop-waited-init c = none_visited (λ p. Apart (Some (Port p)) []) c.args.turn.now.number c.args.world.now c.args.self.now (λ p. apart_nil (Some (Port p)))

pub loop-waited-preserved : goal.loop-waited-preserved
loop-waited-preserved c =
    let named : List (Option Waited) = c.args.named.now in
    let place : ℕ = c.loop-waited.waited-index in
    let more : take (place + 1) named ≡ take place named ++ c.waited-item.result ∷ [] = rw c.waited-item.is (take_more named place c.waited-item.result c.loop-waited-test.true) in
    visited_then (λ p. Apart (Some (Port p)) (take place named)) (λ p. c.waited-item.result ≢ Some (Port p)) (λ p. Apart (Some (Port p)) (take (place + 1) named)) c.args.turn.now.number c.args.world.now c.args.self.now
    c.loop-waited.self c.visit_named.new.self c.loop-waited.invariant c.in_ok-visit_named.ensures
    (λ p all not. subst (Apart (Some (Port p))) (sym more) (apart_more (Some (Port p)) c.waited-item.result (take place named) all not))

pub returns : goal.returns
returns c =
    let named : List (Option Waited) = c.args.named.now in
    weaker (λ p. Apart (Some (Port p)) (take c.loop-waited.waited-index named)) (λ p. Apart (Some (Port p)) named) c.args.turn.now.number c.args.world.now c.args.self.now c.loop-waited.self c.loop-waited.invariant
    (λ p all. subst (Apart (Some (Port p))) (take_all c.loop-waited.waited-index named c.loop-waited-test.false) all)
