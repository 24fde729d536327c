use Rattle.std.proofs.Common.{ℕ, List, ◌≡◌, ◌+◌, ◌++◌, length, take}
use Rattle.smallvec.specs.SmallVec.{small_vec_len}
use Rattle.message_codec.specs.Spans.{words_place}
use Rattle.message_codec.specs.Words.{named, StandsAt}
use Rattle.message_codec.proofs.words.read_words.Given as goal

abbrev pub invariant-loop-index : goal.invariant-loop-index
invariant-loop-index l = record {
  capacity : l.words.capacity ≡ l.initial.words.capacity;
  so_far : small_vec_len l.words ≡ small_vec_len l.initial.words + l.index;
  read : (names : List ℕ) → StandsAt l.bytes (words_place l.span) names → length names ≡ l.span.number
      → l.words.items ≡ l.initial.words.items ++ named l.disposition (take l.index names);
}
