use Rattle.std.proofs.Common.{◌≡◌, ◌+◌, ◌*◌, ◌++◌, ◌<◌, ◌≤◌, All, length}
use Rattle.std.specs.Vec.{vec_len, vec_capacity}
use Rattle.tracer_base.specs.Text.{hex_digits}
use Rattle.tracer_base.proofs.hexadecimal.parse_pairs.Given as goal

-- what is read so far is the text of the bytes made, and there is room for the others
abbrev pub invariant-loop-rest : goal.invariant-loop-rest
invariant-loop-rest l = (hex_digits l.bytes.items ++ l.rest ≡ l.fn.text) × All (λ byte. byte < 256) l.bytes.items × (vec_len l.bytes * 2 + length l.rest ≤ vec_capacity l.bytes * 2 + 1)

abbrev pub decreases-loop-rest : goal.decreases-loop-rest
decreases-loop-rest l = length l.rest
