use Rattle.std.proofs.Common.{◌≡◌, ◌+◌, drop}
use Rattle.message_codec.specs.Spans.{word_count}
use Rattle.message_codec.proofs.words.count_words.Given as goal

abbrev pub invariant-loop-span : goal.invariant-loop-span
invariant-loop-span l = record {
  counted : l.count + word_count (drop l.span-index l.spans) ≡ word_count l.spans;
}
