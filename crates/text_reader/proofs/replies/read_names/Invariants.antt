use Rattle.std.proofs.Common.{◌≡◌, ◌++◌, map, length, All}
use Rattle.tracer_base.specs.Replies.{typed_name_text, FitsTypedName}
use Rattle.text_reader.proofs.replies.read_names.Given as goal

-- the words read so far are those of the names
abbrev pub invariant-loop-words : goal.invariant-loop-words
invariant-loop-words l = All FitsTypedName l.names.items × (map typed_name_text l.names.items ++ l.words ≡ l.fn.words)

abbrev pub decreases-loop-words : goal.decreases-loop-words
decreases-loop-words l = length l.words
