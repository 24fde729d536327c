use Rattle.std.proofs.Common.{◌≡◌, ◌==◌, ◌&&◌, ℕ}
use Rattle.std.specs.Bool.{Decides}
use Rattle.std.proofs.lemmas.Bool.Decides.{Decides-eqb, Decides-and, Decides-like}
use Rattle.std.proofs.lemmas.Slice.Eq.{slice_eq-Decides}
use Rattle.kernel_lock.proofs.same.are_same_names.Goals as goal

pairs_Decide : (a b : ℕ × ℕ) → Decides (a.0 == b.0 && a.1 == b.1) (a ≡ b)
pairs_Decide a b = Decides-like _ (λ same i. (same.0 i, same.1 i)) (λ same. (λ i. (same i).0, λ i. (same i).1)) (Decides-and _ _ (Decides-eqb _ _) (Decides-eqb _ _))

pub returns-clause-same : goal.returns-clause-same
returns-clause-same c = (slice_eq-Decides pairs_Decide c.args.one.now c.args.other.now _ c.eq.ensures).0

pub returns-clause-other : goal.returns-clause-other
returns-clause-other c = (slice_eq-Decides pairs_Decide c.args.one.now c.args.other.now _ c.eq.ensures).1
