use Rattle.std.proofs.Common.{ℕ, List, ◌≡◌, ◌++◌, length}
use Rattle.std.specs.Io.KnownBytes.{Appends}
use Rattle.tracer_base.specs.Text.{hex_digits}
use Rattle.tracer_base.proofs.hexadecimal.write_pairs.Given as goal

-- the digits of the bytes before those that are left are written
abbrev pub invariant-loop-block : goal.invariant-loop-block
invariant-loop-block g l =
    (done : List ℕ) × (done ++ l.rest ≡ l.fn.bytes) × Appends (g.W.Write.contents l.fn.out) (g.W.Write.contents l.out) (hex_digits done)

abbrev pub decreases-loop-block : goal.decreases-loop-block
decreases-loop-block g l = length l.rest
