-- A notice was posted, or a receive right lost: what that writes of the tables.
use Rattle.std.proofs.Common.{◌≡◌, ℕ, ◌<◌, ◌-◌, ◌++◌, [], ◌∷◌, List, Option, Some, None, refl, sym, ap, subst, ◌∙◌, Bool, true, false, is_some}
use Rattle.std.specs.FinMap as map
use Rattle.std.specs.Prelude.{MatchBool}
use Rattle.mach_types.specs.declared.profiles.Profile.{Profile}
use Rattle.name_space.specs.Names.{SpaceView}
use Rattle.port.specs.declared.Holder.TheVariants.{Nobody}
use Rattle.port.specs.Holding.{held, CanHold}
use Rattle.port.specs.Ports.{PortView, PortsView, with_port}
use Rattle.port.proofs.Keys.{same_some}
use Rattle.port_set.specs.Sets.{SetsView, removed, IsDisbanded}
use Rattle.rights.specs.declared.RightKind.TheVariants.{Receive}
use Rattle.rights.specs.Ledger.{LedgerView, IsEntered, counts_of, shifted, taken}
use Rattle.tables_base.specs.Kept.{Kept}
use Rattle.copyin_base.specs.Losing.{CanLose, LosesPort, DropsSet}
use Rattle.copyin_base.specs.Reading.{AreGiven}
use Rattle.request_table.specs.Tables.{RequestTablesView}
use Rattle.copyin_base.specs.Worlds.{WorldView, port_at}
use Rattle.copyin_base.proofs.Reading.{SamePorts, same_put}
use Rattle.copyin_base.proofs.Written.{tables, changed_given, changed_written}

-- a message more is queued
abbrev pub with_message : PortsView Kept → (p : ℕ) → PortView Kept → Kept → PortsView Kept
with_message ports p v m = record (with_port ports p (record v { queue = v.queue ++ m ∷ [] })) { spare = ports.spare - 1 }

-- nobody holds the port's receive right
abbrev pub with_lost : PortsView Kept → (p : ℕ) → PortView Kept → PortsView Kept
with_lost ports p v = record (with_port ports p (held v Nobody)) { lost = ports.lost ++ p ∷ [] }

pub message_keeps : (p : ℕ) (v : PortView Kept) (m : Kept) (x : PortsView Kept) → map.get x.ports p ≡ Some v → SamePorts x (with_message x p v m)
message_keeps p v m x at = record { live = same_put x p v (record v { queue = v.queue ++ m ∷ [] }) at; made = refl }

pub lost_keeps : (p : ℕ) (v : PortView Kept) (x : PortsView Kept) → map.get x.ports p ≡ Some v → SamePorts x (with_lost x p v)
lost_keeps p v x at = record { live = same_put x p v (held v Nobody) at; made = refl }

module _ (old : WorldView) {profile : Profile} (spaces : List (Option SpaceView)) (ports : PortsView Kept) (ledger : LedgerView) (sets : SetsView) (requests : RequestTablesView)
    (view : tables profile spaces ports ledger sets requests ≡ old) (p : ℕ) where
  -- ---- a notice was posted

  module _ (v : PortView Kept) (m : Kept) (new : PortsView Kept) (there : map.get old.ports.ports p ≡ Some v) (is : map.get ports.ports p ≡ Some v → new ≡ with_message ports p v m) where
    pub posted_given : AreGiven spaces ports → AreGiven spaces new
    posted_given = changed_given old spaces ports ledger sets requests view p v (λ x. with_message x p v m) (message_keeps p v m) new there is

    pub posted_written : (counts : LedgerView) → counts ≡ shifted ledger p → tables profile spaces new counts sets requests ≡ record old { ports = with_message old.ports p v m; ledger = shifted old.ledger p }
    posted_written counts e =
        ap (λ (w : WorldView). record w { ledger = counts }) (changed_written old spaces ports ledger sets requests view p v (λ x. with_message x p v m) (message_keeps p v m) new there is)
        ∙ ap (λ (l : LedgerView). record old { ports = with_message old.ports p v m; ledger = l }) (e ∙ ap (λ (w : WorldView). shifted w.ledger p) view)

  -- ---- a receive right was lost

  module _ (v : PortView Kept) (new : PortsView Kept) (there : map.get old.ports.ports p ≡ Some v) (is : map.get ports.ports p ≡ Some v → new ≡ with_lost ports p v) where
    pub lost_given : AreGiven spaces ports → AreGiven spaces new
    lost_given = changed_given old spaces ports ledger sets requests view p v (λ x. with_lost x p v) (lost_keeps p v) new there is

    pub lost_written : (counts : LedgerView) → counts ≡ taken ledger p Receive 1 → tables profile spaces new counts sets requests ≡ record old { ports = with_lost old.ports p v; ledger = taken old.ledger p Receive 1 }
    lost_written counts e =
        ap (λ (w : WorldView). record w { ledger = counts }) (changed_written old spaces ports ledger sets requests view p v (λ x. with_lost x p v) (lost_keeps p v) new there is)
        ∙ ap (λ (l : LedgerView). record old { ports = with_lost old.ports p v; ledger = l }) (e ∙ ap (λ (w : WorldView). taken w.ledger p Receive 1) view)

  -- ... or wasn't, as its port is gone
  module _ (can : is_some (port_at old p) ≡ true → CanLose old p) where
    now : (o : Option (PortView Kept)) → map.get ports.ports p ≡ o → port_at old p ≡ o
    now o h = sym (ap (λ (w : WorldView). map.get w.ports.ports p) view) ∙ h

    pub there_held : (q : PortView Kept) → map.get ports.ports p ≡ Some q → CanHold q.attributes.holder
    there_held q h =
        let r = can (ap is_some (now (Some q) h)) in
        subst (λ (x : PortView Kept). CanHold x.attributes.holder) (same_some r.v q (sym r.there ∙ now (Some q) h)) r.held

    module _ (new : PortsView Kept) (there : (q : PortView Kept) → map.get ports.ports p ≡ Some q → new ≡ with_lost ports p q) (gone : map.get ports.ports p ≡ None → new ≡ ports)
        (b : Bool) (told : b ≡ is_some (map.get ports.ports p)) where
      pub there_given : AreGiven spaces ports → AreGiven spaces new
      there_given given = by_cases (map.get ports.ports p) refl
        where
          by_cases : (o : Option (PortView Kept)) → map.get ports.ports p ≡ o → AreGiven spaces new
          by_cases (Some q) h = lost_given q new (now (Some q) h) (there q) given
          by_cases None h = subst (AreGiven spaces) (sym (gone h)) given

      live : is_some (port_at old p) ≡ b
      live = ap is_some (now (map.get ports.ports p) refl) ∙ sym told

      pub there_entered : b ≡ true → IsEntered ledger p
      there_entered is = subst (λ (w : WorldView). IsEntered w.ledger p) (sym view) (can (live ∙ is)).entered

      pub there_counted : b ≡ true → 0 < (counts_of ledger p).receive
      there_counted is = subst (λ (w : WorldView). 0 < (counts_of w.ledger p).receive) (sym view) (can (live ∙ is)).counted

      pub there_lost : b ≡ true → (counts : LedgerView) → counts ≡ taken ledger p Receive 1 →
          MatchBool (is_some (port_at old p)) (LosesPort old p (tables profile spaces new counts sets requests)) (tables profile spaces new counts sets requests ≡ old)
      there_lost is counts e =
          let r = can (live ∙ is) in
          let lost : LosesPort old p (tables profile spaces new counts sets requests) = record { v = r.v; there = r.there; rest = lost_written r.v new r.there (there r.v) counts e } in
          subst (λ (c : Bool). MatchBool c (LosesPort old p (tables profile spaces new counts sets requests)) (tables profile spaces new counts sets requests ≡ old)) (sym (live ∙ is)) lost

      pub there_gone : b ≡ false → MatchBool (is_some (port_at old p)) (LosesPort old p (tables profile spaces new ledger sets requests)) (tables profile spaces new ledger sets requests ≡ old)
      there_gone is = subst (λ (c : Bool). MatchBool c (LosesPort old p (tables profile spaces new ledger sets requests)) (tables profile spaces new ledger sets requests ≡ old)) (sym (live ∙ is)) (by_cases (map.get ports.ports p) refl)
        where
          no : false ≡ true → ⊥
          no e = cc

          by_cases : (o : Option (PortView Kept)) → map.get ports.ports p ≡ o → tables profile spaces new ledger sets requests ≡ old
          by_cases (Some q) h = absurd (no (sym is ∙ told ∙ ap is_some h))
          by_cases None h = ap (λ (x : PortsView Kept). tables profile spaces x ledger sets requests) (gone h) ∙ view

-- ---- a set was lost

pub set_dropped : (old x : WorldView) (set : ℕ) (ports : PortsView Kept) (sets : SetsView) → x ≡ old → sets ≡ removed x.sets set → IsDisbanded x.ports ports set →
    DropsSet old set (record x { ports = ports; sets = sets })
set_dropped old x set ports sets view gone disbanded = record {
  disbanded = subst (λ (y : WorldView). IsDisbanded y.ports ports set) view disbanded;
  rest = λ i. record (view i) { ports = ports; sets = (gone ∙ ap (λ (y : WorldView). removed y.sets set) view) i };
}
