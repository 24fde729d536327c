-- A set of numbers below 256 as four words of 64 bits. No public clause cites this module.
use Rattle.std.specs.Prelude.{ℕ, ◌/◌, ◌%◌, ◌==◌, Bool, List, slice_index_or}
use Rattle.std.specs.Int.{bit_at}

-- whether the number's bit is set
abbrev pub has : List ℕ → ℕ → Bool
has words number = bit_at (slice_index_or words (number / 64) 0) (number % 64) == 1
