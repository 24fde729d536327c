use Rattle.std.proofs.Common.{◌≡◌, length, drop}
use Rattle.message_codec.specs.Putting.{with_spans}
use Rattle.message_codec.specs.Spans.{word_count, SpansFit}
use Rattle.message_codec.proofs.received.put_spans.Given as goal

abbrev pub invariant-loop-span : goal.invariant-loop-span
invariant-loop-span l = record {
  named : length l.names ≡ word_count (drop l.span-index l.spans);
  fit : SpansFit (length l.bytes) (drop l.span-index l.spans);
  rest : with_spans (drop l.span-index l.spans) l.names l.bytes ≡ with_spans l.spans l.initial.names l.initial.bytes;
}
