use Rattle.std.proofs.Common.{◌≡◌, ◌++◌, map, length, decimal, All, ◌<◌, ◌^◌}
use Rattle.text_reader.proofs.replies.read_members.Given as goal

-- the words read so far are those of the names
abbrev pub invariant-loop-words : goal.invariant-loop-words
invariant-loop-words l = All (λ name. name < 2 ^ 32) l.names.items × (map decimal l.names.items ++ l.words ≡ l.fn.words)

abbrev pub decreases-loop-words : goal.decreases-loop-words
decreases-loop-words l = length l.words
