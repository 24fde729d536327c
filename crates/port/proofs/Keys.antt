-- A finite map at a key, and at another: what `member_lists` proves, and two lemmas more.
use Rattle.std.proofs.Common.{◌≡◌, ℕ, true, refl, sym, ◌∙◌, Option, Some, None, eqb}
use Rattle.member_lists.proofs.Times.{eqb_same}
pub use Rattle.member_lists.proofs.Times.{same_some, equal_or_not}
pub use Rattle.member_lists.proofs.Sound.{put_here, put_other, out_here, out_other, same_gets}

pub some_or_none : {A : Type 0} (x : A) (o : Option A) → o ≡ Some x → o ≡ None → ⊥
some_or_none x o a b = let e : Some x ≡ None = sym a ∙ b in cc

pub eqb-same : (k : ℕ) → eqb k k ≡ true
eqb-same k = eqb_same k k refl
