use Rattle.std.proofs.Common.{ℕ, ◌<◌, ◌≢◌, get_or}
use Rattle.message_codec.specs.declared.words.PortWord.{PortWord}
use Rattle.message_send.proofs.any_moves_receive.Given as goal

abbrev pub invariant-loop-word : goal.invariant-loop-word
invariant-loop-word l = (k : ℕ) → k < l.word-index → (d : PortWord) → (get_or l.words k d).disposition ≢ 16
