use Rattle.std.proofs.Common.{◌≢◌, ◌⊎◌, ◌<◌, ◌≤◌, ◌+◌, ℕ, inl, inr, arith}
use Rattle.mach_fates.proofs.Visiting.{none_visited, one_visited, visited_then, weaker, below}
use Rattle.mach_fates.proofs.fates.Fates.visit_made.Goals as goal

pub loop-port-init : goal.loop-port-init
loop-port-init c = none_visited (λ p. (p < c.args.self.now.made) ⊎ (c.args.self.now.made ≤ p)) c.args.turn.now.number c.args.world.now c.args.self.now (λ p. below p c.args.self.now.made)

pub loop-port-preserved : goal.loop-port-preserved
loop-port-preserved c =
    let first : ℕ = c.args.self.now.made in
    let port : ℕ = c.loop-port.port in
    visited_then (λ p. (p < first) ⊎ (port ≤ p)) (λ p. p ≢ port) (λ p. (p < first) ⊎ (port + 1 ≤ p)) c.args.turn.now.number c.args.world.now c.args.self.now c.loop-port.self c.visit.new.self c.loop-port.invariant
    (one_visited c.args.turn.now.number c.args.world.now port c.loop-port.self c.visit.new.self c.in_ok-visit.ensures)
    (λ p where_is not. elim where_is [ inl h ↦ inl h | inr h ↦ inr (omega (arith, h, not)) ])

pub returns : goal.returns
returns c = λ few.
    let first : ℕ = c.args.self.now.made in
    let port : ℕ = c.loop-port.port in
    let last = c.ports_made-port-end.ensures few in
    let end = c.loop-port-test.false in
    weaker (λ p. (p < first) ⊎ (port ≤ p)) (λ p. (p < first) ⊎ (c.args.world.now.ports.made ≤ p)) c.args.turn.now.number c.args.world.now c.args.self.now c.loop-port.self c.loop-port.invariant
    (λ p where_is. elim where_is [ inl h ↦ inl h | inr h ↦ inr (omega (arith, h, last, end)) ])
