-- Asking of a task's names, one after another, whether they stand for send rights and dead names alone.
use Rattle.std.proofs.Common.{◌≡◌, ℕ, ◌+◌, ◌<◌, ◌≤◌, Option, Some, None, sym, ap, subst, ◌∙◌, arith, true, false, inl, inr}
use Rattle.std.specs.Prelude.{◌≢◌, ◌-◌, ◌^◌}
use Rattle.std.specs.FinMap as map
use Rattle.std.proofs.lemmas.Bool.{cases_lt}
use Rattle.std.proofs.lemmas.Bool.Decides.{eqb_tells}
use Rattle.mach_types.specs.Numbers.{null_word, dead_word}
use Rattle.name_space.specs.declared.Entry.{Entry}
use Rattle.name_space.specs.Names.{Names, SpaceView, IsNextName}
use Rattle.copyin_base.specs.Stands.{Stands}
use Rattle.copyin_base.specs.Worlds.{WorldView, entry_at, entry_in, space_at}
use Rattle.copyin_base.proofs.Tied.{stands_tied}
use Rattle.kernel_change.specs.Changing.{is_send_or_dead, HasSendsAlone}

-- Those below this one do.
pub record AreSends (names : Names) (below : ℕ) : Type 0 where
  pub only : (name : ℕ) (e : Entry) → name < below → map.get names name ≡ Some e → is_send_or_dead e ≡ true

none_some : {A : Type 0} (x : A) → None ≡ Some x → ⊥
none_some x e = cc

not_sent : (e : Entry) → is_send_or_dead e ≡ false → is_send_or_dead e ≡ true → ⊥
not_sent e other sends = let f : true ≡ false = sym sends ∙ other in cc

same_entry : (a b : Entry) → Some a ≡ Some b → a ≡ b
same_entry a b e = cc

below_dead : (n : ℕ) → n < 2 ^ 32 → n ≢ dead_word → n + 1 < 2 ^ 32
below_dead n small other = elim (cases_lt (n + 1) (2 ^ 32)) [
  | inl h ↦ h
  | inr h ↦ absurd (other (omega (arith, h, small)))
]

pub none_below : (names : Names) (from : ℕ) → from ≡ null_word → AreSends names from
none_below names from is = record { only = λ name e less found. absurd (omega (arith, less, is)) }

module _ (w : WorldView) (task : ℕ) (space : SpaceView) (there : space_at w task ≡ Some space) (from : ℕ) (asked : AreSends space.names from) where
  at_name : (name : ℕ) → entry_at w task name ≡ map.get space.names name
  at_name name = ap (λ (o : Option SpaceView). entry_in o name) there

  module _ (name : ℕ) (next : IsNextName space.names from name) (e : Entry) (found : map.get space.names name ≡ Some e) where
    pub one_sent : is_send_or_dead e ≡ true → (after : ℕ) → after ≡ name + 1 → AreSends space.names after
    one_sent sends after is = record {
      only = λ n x less at. elim (cases_lt n from) [
        | inl h ↦ asked.only n x h at
        | inr h ↦ elim (cases_lt n name) [
          | inl g ↦ absurd (none_some x (sym (next.least n h g) ∙ at))
          | inr g ↦
              let same : n ≡ name = omega (arith, g, less, is) in
              let entry : e ≡ x = same_entry e x (sym found ∙ subst (λ (k : ℕ). map.get space.names k ≡ Some x) same at) in
              subst (λ (y : Entry). is_send_or_dead y ≡ true) entry sends
        ]
      ];
    }

    pub one_other : is_send_or_dead e ≡ false → HasSendsAlone w task → ⊥
    one_other other sends = not_sent e other (sends.only name e (at_name name ∙ found))

    not_dead : Stands w → name ≢ dead_word
    not_dead stands is = none_some e (sym (subst (λ (k : ℕ). map.get space.names k ≡ None) (sym is) (stands_tied w task space stands there).not_dead) ∙ found)

    -- the number behind it
    pub fits : Stands w → (number : ℕ) → number ≡ name → number < 2 ^ 32 → number + 1 < 2 ^ 32
    fits stands number is small = elim (eqb_tells name dead_word) [
      | inl h ↦ absurd (not_dead stands h.1)
      | inr h ↦ below_dead number small (λ e. h.1 (sym is ∙ e))
    ]

    pub less_to_come : (after : ℕ) → after ≡ name + 1 → after < 2 ^ 32 → 2 ^ 32 - after < 2 ^ 32 - from
    less_to_come after is small = let before = next.from in omega (arith, is, small, before)

  pub all_sent : ((name : ℕ) → from ≤ name → map.get space.names name ≡ None) → HasSendsAlone w task
  all_sent none = record {
    only = λ name e at. let found : map.get space.names name ≡ Some e = sym (at_name name) ∙ at in elim (cases_lt name from) [
      | inl h ↦ asked.only name e h found
      | inr h ↦ absurd (none_some e (sym (none name h) ∙ found))
    ];
  }
