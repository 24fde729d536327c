-- What is told of turns, part after part: as many as there are, or as many as 64 bits hold.
use Rattle.std.proofs.Common.{◌≡◌, ℕ, ◌+◌, ◌-◌, ◌^◌, arith}
use Rattle.std.specs.Prelude.{min}
use Rattle.destroy.specs.Stages.{IsCount}

pub count_none : (n : ℕ) → IsCount n n 0
count_none n = (0, omega arith, omega arith)

pub count_one : (n m : ℕ) → m ≡ n + 1 → IsCount n m 1
count_one n m is = (1, is, omega arith)

pub count_joined : (a b c t n m : ℕ) → IsCount a b t → IsCount b c n → m ≡ min (t + n) (2 ^ 64 - 1) → IsCount a c m
count_joined a b c t n m (d, is, told) (e, is_too, told_too) sum = (d + e, omega (arith, is, is_too), omega (arith, told, told_too, sum))
