use Rattle.std.proofs.Common.{◌≡◌, ◌*◌, ◌<◌, ℕ, true}
use Rattle.name_space_base.specs.Bits.{has}
use Rattle.name_space_base.proofs.bits.Bits.first_absent.Given as goal

abbrev pub invariant-loop-index : goal.invariant-loop-index
invariant-loop-index l = (i : ℕ) → i < 64 * l.index → has l.self.words i ≡ true
