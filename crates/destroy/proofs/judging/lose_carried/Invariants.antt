use Rattle.std.proofs.Common.{◌≡◌, Some, length}
use Rattle.copyin_base.specs.Kept.{Kept}
use Rattle.destroy.specs.Judging.{CarriesAmong, LosesAmong, last_destroyed}
use Rattle.destroy.proofs.judging.lose_carried.Given as goal

abbrev pub invariant-loop-place : goal.invariant-loop-place
invariant-loop-place l = (m : Kept) → last_destroyed l.fn.world ≡ Some m → (l.place-end ≡ length m.rights) × LosesAmong (CarriesAmong m l.place) l.fn.world l.world
