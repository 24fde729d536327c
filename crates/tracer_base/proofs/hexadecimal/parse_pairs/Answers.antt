use Rattle.std.proofs.Common.{◌≡◌, ◌++◌, ◌<◌, [], ◌∷◌, length, rules, sym, ap, ◌∙◌, arith}
use Rattle.std.proofs.lemmas.List.Elements.{All-push}
use Rattle.tracer_base.specs.Text.{hex_digits}
use Rattle.tracer_base.proofs.HexLemmas.{reads_more, digits_left, first_byte, length-hex_digits}
use Rattle.tracer_base.proofs.hexadecimal.parse_pairs.Goals as goal

pub returns-in_err-byte-clause-each : goal.returns-in_err-byte-clause-each
returns-in_err-byte-clause-each c =
    λ all small same.
    let some : c.loop-rest.rest.now ≡ [] → ⊥ = search rules in
    let left = digits_left c.loop-rest.bytes.items all c.loop-rest.rest.now small (c.loop-rest.invariant.0 ∙ sym same) in
    let first = first_byte left.0 c.loop-rest.rest.now left.1 left.2 some in
    let found = c.split_pair.ensures.each first.0 first.1 first.2 first.3 in
    absurd (search (rules, found))

pub push_reserved-requires : goal.push_reserved-requires
push_reserved-requires c =
    let next : hex_digits (c.in_ok-byte.byte ∷ []) ++ c.in_ok-byte.others.now ≡ c.loop-rest.rest.now = search rules in
    omega (arith, ap length next, c.loop-rest.invariant.2)

pub loop-rest-preserved : goal.loop-rest-preserved
loop-rest-preserved c =
    let next : hex_digits (c.in_ok-byte.byte ∷ []) ++ c.in_ok-byte.others.now ≡ c.loop-rest.rest.now = search rules in
    let small : c.in_ok-byte.byte < 256 = search rules in
    rw c.push_reserved.ensures.items (
      reads_more c.loop-rest.bytes.items c.in_ok-byte.byte _ _ _ c.loop-rest.invariant.0 next,
      All-push (λ byte. byte < 256) c.loop-rest.bytes.items c.in_ok-byte.byte c.loop-rest.invariant.1 small,
      omega (arith, ap length next, c.loop-rest.invariant.2, c.push_reserved.ensures.len, c.push_reserved.ensures.capacity),
    )

pub returns-else-is_empty-clause-each : goal.returns-else-is_empty-clause-each
returns-else-is_empty-clause-each c =
    λ all small same.
    let left = digits_left c.loop-rest.bytes.items all c.loop-rest.rest.now small (c.loop-rest.invariant.0 ∙ sym same) in
    let some : 0 < length c.loop-rest.rest.now = search rules in
    let short : length c.loop-rest.rest.now < 2 = search rules in
    absurd (omega (arith, length-hex_digits left.0, ap length left.2, some, short))
