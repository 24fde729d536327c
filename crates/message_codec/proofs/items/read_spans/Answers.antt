use Rattle.message_codec.proofs.Walking.{walk-kept, walk-lacks, fact_at_err, fact_at_ok}
use Rattle.message_codec.proofs.items.read_spans.Goals as goal

pub loop-at-preserved-then-is_err : goal.loop-at-preserved-then-is_err
loop-at-preserved-then-is_err c =
    let item = c.in_ok-item.item in
    let full = fact_at_err c.keep.result _ c.if-is_err.ensures.value c.keep.ensures.err in
    walk-lacks c.args.bytes.now c.loop-at.at item.end item.span c.loop-at.spans.items c.keep.new.spans.items c.loop-at.spans.capacity c.keep.new.spans.capacity c.loop-at.lacks_memory
    c.loop-at.invariant c.in_ok-item.ensures.ok full.0 full.1 c.keep.ensures.capacity

pub loop-at-preserved : goal.loop-at-preserved
loop-at-preserved c =
    let item = c.in_ok-item.item in
    let kept = fact_at_ok c.keep.result _ c.if-is_err.ensures.value c.keep.ensures.ok in
    walk-kept c.args.bytes.now c.loop-at.at item.end item.span c.loop-at.spans.items c.keep.new.spans.items c.loop-at.spans.capacity c.keep.new.spans.capacity c.loop-at.lacks_memory
    c.loop-at.invariant c.in_ok-item.ensures.ok kept c.keep.ensures.capacity
