-- The steps on the place of the kernel keep its rule.
use Rattle.std.proofs.Common.{◌≡◌, ℕ, List, [], ◌∷◌, length, set, refl, sym, ap, ◌∙◌, subst, arith, Some}
use Rattle.std.specs.Prelude.{slice_index}
use Rattle.std.specs.declared.option.Option as maybe
use mathlib.Core.Logic.{dite}
use native.Mathlib.Decide.{ℕ_discrete}
use mathlib.Core.Option.{Option, some}
use lib.ListN.{get_elem?}
use Rattle.atomic_table.specs.Table.{Me, keeps, takes, gives, Allows, Arrives}
use Rattle.kernel_lock.specs.Replays.{Stored}
use Rattle.kernel_lock.specs.Berth.{IsLike, IsMoored, Takes}

one_home : {A : Type 0} (hs : List A) (x : A) → length hs ≡ 1 → set hs 0 x ≡ x ∷ []
one_home [] x e = absurd (omega arith)
one_home (y ∷ []) x e = refl
one_home (y ∷ z ∷ zs) x e = absurd (omega arith)

module _ {K : Type 0} where
  pub arrives : (key : K) (b : Stored) (slots : ℕ) → Arrives {S = maybe.Option Stored} {V = K} (IsMoored b) slots 0 (λ _. 0) (λ found w. Takes b found w.1)
  arrives key b slots s h homes small =
      let found : slice_index s.words 0 ≡ h.0 = ap (λ (ws : List ℕ). slice_index ws 0) h.1 in
      let words : set s.words 0 0 ≡ 0 ∷ [] = ap (λ (ws : List ℕ). set ws 0 0) h.1 in
      dite (ℕ_discrete h.0 0)
      (λ z. (key, keeps, tt, (0, words, λ ne. absurd (ne refl)), λ ne. absurd (ne (found ∙ z))))
      (λ nz. let m = h.2 nz in (key, takes 0 (Some m.0), ap (λ (hs : List (Option (maybe.Option Stored))). get_elem? hs 0) m.1, (0, words, λ ne. absurd (ne refl)), λ _. (m.0, refl, m.2)))

  pub puts : (b : Stored) (slots id : ℕ) (me : Me (maybe.Option Stored) K) (v : K) (k : Stored) → me ≡ (v, (0, Some k) ∷ []) → slots ≡ 1 → IsLike b k
      → Allows {S = maybe.Option Stored} {V = K} (IsMoored b) slots id me 0 (λ _. 1) (λ _ w. Unit {0})
  puts b slots id me v k is one tied = subst (λ (m : Me (maybe.Option Stored) K). Allows {S = maybe.Option Stored} {V = K} (IsMoored b) slots id m 0 (λ _. 1) (λ _ w. Unit {0})) (sym is)
      (λ s h homes at small. (v, gives, tt, (1, ap (λ (ws : List ℕ). set ws 0 1) h.1, λ _. (k, one_home s.homes (some (Some k)) (homes ∙ one), tied)), tt))
