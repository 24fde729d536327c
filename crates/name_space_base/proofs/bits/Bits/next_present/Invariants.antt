use Rattle.std.proofs.Common.{◌≡◌, ◌+◌, ◌*◌, ◌<◌, ◌≤◌, ℕ, false}
use Rattle.name_space_base.specs.Bits.{has}
use Rattle.name_space_base.proofs.bits.Bits.next_present.Given as goal

abbrev pub invariant-loop-index : goal.invariant-loop-index
invariant-loop-index l = record {
  place : l.place < 64;
  start : l.from ≤ 64 * l.index + l.place;
  between : (i : ℕ) → l.from ≤ i → i < 64 * l.index + l.place → has l.self.words i ≡ false;
}
