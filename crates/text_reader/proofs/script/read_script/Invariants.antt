use Rattle.std.proofs.Common.{◌≡◌, ◌++◌, All, length, flat_map}
use Rattle.tracer_base.specs.Calls.{Fits, line_text}
use Rattle.text_reader.proofs.script.read_script.Given as goal

-- what is read so far is the lines of the calls made
abbrev pub invariant-loop-rest : goal.invariant-loop-rest
invariant-loop-rest l = All Fits l.events.items × (flat_map line_text l.events.items ++ l.rest ≡ l.fn.text)

abbrev pub decreases-loop-rest : goal.decreases-loop-rest
decreases-loop-rest l = length l.rest
