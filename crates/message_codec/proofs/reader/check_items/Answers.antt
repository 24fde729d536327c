use Rattle.std.proofs.Common.{false, ◌++◌, refl, arith}
use Rattle.std.specs.Option.{option_to_list}
use Rattle.message_codec.proofs.Walking.{walk-kept}
use Rattle.message_codec.proofs.reader.check_items.Goals as goal

pub loop-at-preserved : goal.loop-at-preserved
loop-at-preserved c =
    let item = c.in_ok-at.field-0 in
    let spans = c.loop-at.invariant.0 in
    (spans ++ option_to_list item.span, walk-kept c.args.bytes.now c.loop-at.at item.end item.span spans (spans ++ option_to_list item.span) 8 8 false c.loop-at.invariant.1 c.in_ok-at.ensures.ok refl (omega arith))
