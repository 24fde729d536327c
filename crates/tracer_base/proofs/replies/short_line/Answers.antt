use Rattle.std.proofs.Common.{rules, ◌≡◌, ◌<◌, length, arith, ap, ◌∙◌}
use Rattle.std.proofs.lemmas.List.{length-append}
use Rattle.tracer_base.specs.Text.{hex_digits}
use Rattle.tracer_base.proofs.HexLemmas.{length-hex_digits}
use Rattle.tracer_base.proofs.replies.short_line.Goals as goal

pub push-requires : goal.push-requires
push-requires c =
    let keyword : length c.try_extend_from_slice.new.self.items ≡ 8 = search rules in
    let whole = ap length c.push_digits.ensures ∙ length-append c.try_extend_from_slice.new.self.items (hex_digits c.args.bytes.now) in
    let digits = length-hex_digits c.args.bytes.now in
    let less : length c.push_digits.new.line.items < 73 = omega (arith, keyword, whole, digits, c.requires.short) in
    search (rules, less)
