use Rattle.std.proofs.Common.{rules, ◌≡◌, ◌<◌, ◌+◌, ◌++◌, ◌∷◌, [], length, arith, ap, ◌∙◌, refl}
use Rattle.tracer_base.proofs.HexLemmas.{digits_fit, digits_more}
use Rattle.tracer_base.proofs.hexadecimal.push_digits.Goals as goal

pub push-requires : goal.push-requires
push-requires c =
    let low : c.loop-byte.byte-index < length c.args.bytes.now = omega arith in
    let room = digits_fit c.args.line.now.items c.args.bytes.now c.loop-byte.byte-index c.loop-byte.line.items low c.requires c.loop-byte.invariant in
    let less : length c.loop-byte.line.items < 73 = omega (arith, room) in
    search (rules, less)

pub push-requires-in-loop-byte : goal.push-requires-in-loop-byte
push-requires-in-loop-byte c =
    let low : c.loop-byte.byte-index < length c.args.bytes.now = omega arith in
    let room = digits_fit c.args.line.now.items c.args.bytes.now c.loop-byte.byte-index c.loop-byte.line.items low c.requires c.loop-byte.invariant in
    let count : length c.push.new.self.items ≡ length c.loop-byte.line.items + 1 = c.push.ensures.len in
    let less : length c.push.new.self.items < 73 = omega (arith, room, count) in
    search (rules, less)

pub loop-byte-preserved : goal.loop-byte-preserved
loop-byte-preserved c =
    let low : c.loop-byte.byte-index < length c.args.bytes.now = omega arith in
    let now = c.push-in-loop-byte.ensures.items ∙ ap (λ t. t ++ c.low_digit.result ∷ []) c.push.ensures.items in
    digits_more c.args.line.now.items c.args.bytes.now c.loop-byte.byte-index _ c.loop-byte.line.items c.push-in-loop-byte.new.self.items low refl c.loop-byte.invariant (search (rules, now))
