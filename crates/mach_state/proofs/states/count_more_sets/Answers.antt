use Rattle.std.proofs.Common.{◌≡◌, ◌+◌, ◌-◌, ◌^◌, ℕ, List, length, drop, rules, ap, ◌∙◌, arith}
use Rattle.std.specs.Prelude.{min}
use Rattle.port.specs.Ports.{sets_in}
use Rattle.mach_state.proofs.Read.{others_left}
use Rattle.mach_state.proofs.states.count_more_sets.Goals as goal

pub loop-more-init : goal.loop-more-init
loop-more-init c = (
  omega arith,
  λ v at.
      let sets : c.in-Some.sets ≡ sets_in v = search rules in
      let left = others_left c.next_set.result c.in-Some.sets c.next_set.new.self c.next_set.ensures.some c.next_set.ensures.none in
      let zero : 0 + length c.next_set.new.self ≡ length c.next_set.new.self = omega arith in
      ap (λ n. min n (2 ^ 64 - 1)) zero ∙ ap (λ (xs : List ℕ). min (length xs) (2 ^ 64 - 1)) (left ∙ ap (drop 1) sets),
)

pub returns : goal.returns
returns c v at =
    let inv = c.loop-more.invariant.1 v at in
    let few = c.loop-more.invariant.0 in
    let none : length c.loop-more.sets ≡ 0 = ap (λ (xs : List ℕ). length xs) c.in_default-next_set.ensures.none.0 in
    omega (arith, inv, few, none)
