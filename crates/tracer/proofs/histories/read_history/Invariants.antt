use Rattle.std.proofs.Common.{◌≡◌, ◌++◌, All, length}
use Rattle.tracer.specs.Histories.{history_text, FitsLine}
use Rattle.tracer.proofs.histories.read_history.Given as goal

-- what is read so far is the history of the entries made
abbrev pub invariant-loop-rest : goal.invariant-loop-rest
invariant-loop-rest l = All FitsLine l.entries.items × (history_text l.profile l.entries.items ++ l.rest ≡ l.fn.text)

abbrev pub decreases-loop-rest : goal.decreases-loop-rest
decreases-loop-rest l = length l.rest
