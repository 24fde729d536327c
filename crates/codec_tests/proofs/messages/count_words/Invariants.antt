use Rattle.std.proofs.Common.{◌≡◌, ◌+◌, ◌*◌, ◌^◌, ◌≤◌, drop}
use Rattle.message_codec.specs.Spans.{word_count}
use Rattle.codec_tests.proofs.messages.count_words.Given as goal

abbrev pub invariant-loop-span : goal.invariant-loop-span
invariant-loop-span l = record {
  counted : l.count + word_count (drop l.span-index l.spans) ≡ word_count l.spans;
  small : l.count ≤ l.span-index * 2 ^ 32;
}
