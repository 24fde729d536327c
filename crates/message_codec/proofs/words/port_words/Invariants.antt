use Rattle.std.proofs.Common.{◌≤◌, ◌+◌, drop}
use Rattle.smallvec.specs.SmallVec.{small_vec_len}
use Rattle.message_codec.specs.Spans.{word_count}
use Rattle.message_codec.proofs.ReadWords.{IsRead}
use Rattle.message_codec.proofs.words.port_words.Given as goal

abbrev pub invariant-loop-span : goal.invariant-loop-span
invariant-loop-span l = record {
  room : small_vec_len l.words + word_count (drop l.span-index l.spans) ≤ l.words.capacity;
  read : IsRead l.bytes l.spans (drop l.span-index l.spans) l.words.items;
}
