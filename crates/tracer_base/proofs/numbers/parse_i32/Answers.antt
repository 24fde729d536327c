use Rattle.std.proofs.Common.{◌≡◌, ◌+◌, Some, sym, ◌∙◌, ap, rules, arith}
use Rattle.tracer_base.proofs.NumberLemmas.{below_zero, one_number}
use Rattle.tracer_base.proofs.numbers.parse_i32.Goals as goal

pub returns-in_err-parse_u64-in-Some-clause-each :
    goal.returns-in_err-parse_u64-in-Some-clause-each
returns-in_err-parse_u64-in-Some-clause-each c =
    λ z small same.
    let found = below_zero z c.in-Some.digits.now small (same ∙ sym c.in-Some.ensures.some) in
    let parsed = c.parse_u64.ensures.each _ (omega (arith, found.1)) found.3 in
    absurd (search (rules, parsed))

pub returns-in_ok-parse_u64-in-Some-clause-each : goal.returns-in_ok-parse_u64-in-Some-clause-each
returns-in_ok-parse_u64-in-Some-clause-each c =
    λ z small same.
    let found = below_zero z c.in-Some.digits.now small (same ∙ sym c.in-Some.ensures.some) in
    let parsed = c.parse_u64.ensures.each _ (omega (arith, found.1)) found.3 in
    let there : found.0 + 1 ≡ c.in_ok-parse_u64-in-Some.field-0 = one_number _ _ _ parsed c.in_ok-parse_u64-in-Some.was in
    c.negated.ensures.each found.0 found.1 there ∙ ap Some (sym found.2)
