use Rattle.std.proofs.Common.{refl, arith}
use Rattle.message_codec.proofs.FieldTexts.{all-step, all-whole, length-items_text-drop}
use Rattle.message_codec.proofs.writer.are_items.Goals as goal

pub loop-item-preserved : goal.loop-item-preserved
loop-item-preserved c =
    let xs = c.args.items.now in
    let i = c.loop-item.item-index in
    let x = c.item-item.result in
    record {
      so_far = all-step xs i x c.loop-item-test.true c.item-item.is (c.if-not-is_item.ensures.0 refl) c.loop-item.invariant.so_far;
      small = omega (arith, c.loop-item.invariant.small, length-items_text-drop xs i x c.loop-item-test.true c.item-item.is);
    }

pub returns : goal.returns
returns c = ((λ h. all-whole c.args.items.now c.loop-item.item-index (omega (arith, c.loop-item-test.false)) c.loop-item.invariant.so_far), (λ h. refl))
