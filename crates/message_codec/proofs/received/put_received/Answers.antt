use Rattle.std.proofs.Common.{◌≡◌, length, ◌∙◌, refl}
use Rattle.message_codec.specs.Received.{header_text}
use Rattle.message_codec.specs.Spans.{SpansFit}
use Rattle.message_codec.proofs.PutSpans.{laid_out-fit, laid_out-received}
use Rattle.message_codec.proofs.received.put_received.Goals as goal

pub put_spans-requires-clause-room : goal.put_spans-requires-clause-room
put_spans-requires-clause-room c =
    let spans = c.args.spans.now in
    let fit : SpansFit (length c.args.bytes.now) spans = laid_out-fit c.args.bytes.now spans c.requires.laid_out.0 c.requires.laid_out.1 in
    let same : length c.put_header.new.bytes ≡ length c.args.bytes.now = c.put_header.auto.bytes in
    rw same fit

pub returns : goal.returns
returns c = λ written laid.
    let spans = c.args.spans.now in
    c.put_spans.ensures
    ∙ rw c.put_header.ensures.bytes (laid_out-received c.args.bytes.now spans c.args.names.now (header_text c.args.header.now) written laid refl c.requires.named)
