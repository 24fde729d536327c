-- A port was noted in the tables that are kept.
use Rattle.std.proofs.Common.{◌≡◌, ℕ, List, [], ◌∷◌, ◌++◌, Option, refl, sym, ap, subst, ◌∙◌, ◌⊎◌, inl, inr, arith}
use Rattle.std.specs.Prelude.{Contains}
use Rattle.std.proofs.lemmas.List.Elements.{Contains-append_left, Contains-append_right, Contains-append_cases}
use Rattle.mach_types.specs.declared.profiles.Profile.{Profile}
use Rattle.name_space.specs.Names.{SpaceView}
use Rattle.port.specs.Ports.{PortsView, IsLive}
use Rattle.port_set.specs.Sets.{SetsView}
use Rattle.rights.specs.Ledger.{LedgerView}
use Rattle.tables_base.specs.Kept.{Kept}
use Rattle.copyin_base.specs.Changes.{IsSenderless, NotesSenderless}
use Rattle.copyin_base.specs.Reading.{AreGiven}
use Rattle.request_table.specs.Tables.{RequestTablesView}
use Rattle.copyin_base.specs.Worlds.{WorldView}
use Rattle.copyin_base.proofs.Listed.{is_listed, listed_one}
use Rattle.copyin_base.proofs.Reading.{SamePorts, same_given}
use Rattle.copyin_base.proofs.Written.{tables, noted_ports, ports_written}

-- where it isn't senderless nothing changes
pub notes_none : (w : WorldView) (p : ℕ) → (IsSenderless w p → ⊥) → NotesSenderless w p w
notes_none w p none = record { noted = w.ports.noted; rest = refl; notes = λ s. absurd (none s); stay = λ q c. c; only = λ q c. inl c }

-- The port is noted now; each that was still is, and no other.
pub record NotedAlso (ports : PortsView Kept) (p : ℕ) (new : PortsView Kept) : Type 0 where
  pub noted : List ℕ
  pub rest : new ≡ record ports { noted = noted }
  pub own : Contains noted p
  pub stay : (q : ℕ) → Contains ports.noted q → Contains noted q
  pub only : (q : ℕ) → Contains noted q → Contains ports.noted q ⊎ (q ≡ p)

also_noted : (ports : PortsView Kept) (p : ℕ) (new : PortsView Kept) → IsLive ports p →
    (IsLive ports p → ¬ (Contains ports.noted p) → new ≡ record ports { noted = ports.noted ++ p ∷ [] }) → (Contains ports.noted p → new ≡ ports) → NotedAlso ports p new
also_noted ports p new live fresh again = elim (is_listed ports.noted p) [
  | inl c ↦ record { noted = ports.noted; rest = again c; own = c; stay = λ q d. d; only = λ q d. inl d }
  | inr none ↦ record {
    noted = ports.noted ++ p ∷ [];
    rest = fresh live none;
    own = Contains-append_right ports.noted (p ∷ []) p (0, omega arith, refl);
    stay = λ q d. Contains-append_left ports.noted (p ∷ []) q d;
    only = λ q d. elim (Contains-append_cases ports.noted (p ∷ []) q d) [
      | inl x ↦ inl x
      | inr x ↦ inr (listed_one p q x)
    ];
  }
]

module _ (old : WorldView) {profile : Profile} (spaces : List (Option SpaceView)) (ports : PortsView Kept) (ledger : LedgerView) (sets : SetsView) (requests : RequestTablesView) (view : tables profile spaces ports ledger sets requests ≡ old)
    (p : ℕ) (senderless : IsSenderless old p) (new : PortsView Kept)
    (fresh : IsLive ports p → ¬ (Contains ports.noted p) → new ≡ record ports { noted = ports.noted ++ p ∷ [] }) (again : Contains ports.noted p → new ≡ ports) where
  are : ports ≡ old.ports
  are = ap (λ (w : WorldView). w.ports) view

  also : NotedAlso ports p new
  also = also_noted ports p new (subst (λ (x : PortsView Kept). IsLive x p) (sym are) senderless.live) fresh again

  same : SamePorts ports new
  same = subst (SamePorts ports) (sym also.rest) (noted_ports ports also.noted)

  pub noted_given : AreGiven spaces ports → AreGiven spaces new
  noted_given = same_given spaces ports new same

  pub noted_written : NotesSenderless old p (tables profile spaces new ledger sets requests)
  noted_written = record {
    noted = also.noted;
    rest = ports_written old spaces ports ledger sets requests view new same
        ∙ ap (λ (x : PortsView Kept). record old { ports = x }) (also.rest ∙ ap (λ (x : PortsView Kept). record x { noted = also.noted }) are);
    notes = λ s. also.own;
    stay = λ q c. also.stay q (subst (λ (x : PortsView Kept). Contains x.noted q) (sym are) c);
    only = λ q c. elim (also.only q c) [
      | inl x ↦ inl (subst (λ (y : PortsView Kept). Contains y.noted q) are x)
      | inr same ↦ inr (same, senderless)
    ];
  }
