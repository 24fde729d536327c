use Rattle.std.proofs.Common.{◌<◌, sym, ◌∙◌, arith, subst, refl}
use Rattle.tracer_base.proofs.HexLemmas.{digit_value, value_in_values, digit_value-most, digit_value-small, digit_value-spelled, digit_value-hex_digit}
use Rattle.tracer_base.proofs.hexadecimal.value_of.Goals as goal

pub returns-clause-most : goal.returns-clause-most
returns-clause-most c =
    let found = value_in_values c.from.result (omega (arith, c.from.ensures)) in
    rw found (digit_value-most c.from.result)

pub returns-clause-spelled : goal.returns-clause-spelled
returns-clause-spelled c =
    λ below.
    let found = value_in_values c.from.result (omega (arith, c.from.ensures)) in
    let some : digit_value c.from.result < 256 = subst (λ n. n < 256) found below in
    let small = digit_value-small c.from.result some in
    rw found (small, digit_value-spelled c.from.result (digit_value c.from.result) refl small ∙ c.from.ensures)

pub returns-clause-each : goal.returns-clause-each
returns-clause-each c =
    λ value small same.
    let found = value_in_values c.from.result (omega (arith, c.from.ensures)) in
    found ∙ digit_value-hex_digit c.from.result value small (same ∙ sym c.from.ensures)
