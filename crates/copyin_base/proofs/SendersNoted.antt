-- Ports that lost their last send right are noted: what each change of the tables does to that.
use Rattle.std.proofs.Common.{◌≡◌, ℕ, ◌<◌, ◌≤◌, List, [], Some, Option, refl, sym, ap, subst, ◌∙◌, arith, ◌⊎◌, inl, inr, true}
use Rattle.std.specs.Prelude.{Contains}
use Rattle.std.specs.Option.{unwrap_or}
use Rattle.std.specs.FinMap as map
use Rattle.std.proofs.lemmas.Bool.Decides.{eqb_tells}
use Rattle.mach_model.specs.State.{State}
use Rattle.number_map.specs.Maps.{MapView}
use Rattle.rights.specs.declared.Counts.{Counts}
use Rattle.rights.specs.declared.RightKind.{RightKind}
use Rattle.rights.specs.declared.RightKind.TheVariants as right
use Rattle.rights.specs.Counts.{no_rights, with_more, with_fewer, one_shifted}
use Rattle.rights.specs.Ledger.{LedgerView, counts_of, made, taken, shifted}
use Rattle.copyin_base.specs.Changes.{IsSenderless, NotesSenderless, NotesSenders, SameButNaming}
use Rattle.copyin_base.specs.Wanted.{KeepsSpares}
use Rattle.copyin_base.specs.Worlds.{WorldView, NoneLost}
use Rattle.copyin_base.specs.Shows.{Agrees, HoldersAgree, CarriersAgree, SlotsSuffice, RequestsStand}
use Rattle.copyin_base.proofs.Listed.{none_listed}
use Rattle.copyin_base.proofs.Requested.{requested_ports}
use Rattle.copyin_base.proofs.Putting.{put_own, put_other}
use Rattle.copyin_base.proofs.Spares.{keeps_names}

-- ---- what does not speak of the noted ports

module _ (w : WorldView) (noted : List ℕ) where
  abbrev pub with_noted : WorldView
  with_noted = record w { ports = record w.ports { noted = noted } }

  with_noted_agrees : (s : State) → Agrees w s → Agrees with_noted s
  with_noted_agrees s a = assumption (a)

  with_noted_requested : RequestsStand w → RequestsStand with_noted
  with_noted_requested r = requested_ports w with_noted r (λ p lives. lives) refl refl

module _ (old new : WorldView) (p : ℕ) (n : NotesSenderless old p new) where
  pub noted_agrees : (s : State) → Agrees old s → Agrees new s
  noted_agrees s a = subst (λ (x : WorldView). Agrees x s) (sym n.rest) (with_noted_agrees old n.noted s a)

  pub noted_holders : HoldersAgree old → HoldersAgree new
  noted_holders h = subst HoldersAgree (sym n.rest) (record { held = h.held })

  pub noted_carriers : CarriersAgree old → CarriersAgree new
  noted_carriers h = subst CarriersAgree (sym n.rest) (record { given = h.given; carried = h.carried })

  pub noted_slots : SlotsSuffice old → SlotsSuffice new
  noted_slots enough = subst SlotsSuffice (sym n.rest) enough

  pub noted_requested : RequestsStand old → RequestsStand new
  noted_requested r = subst RequestsStand (sym n.rest) (with_noted_requested old n.noted r)

  pub noted_none_lost : NoneLost old → NoneLost new
  noted_none_lost none = subst NoneLost (sym n.rest) (record { lost = none.lost; doomed = none.doomed; destroyed = none.destroyed })

  pub noted_keeps : KeepsSpares old new
  noted_keeps = keeps_names old new (ap (λ (w : WorldView). w.spaces) n.rest) (ap (λ (w : WorldView). w.ports.spare) n.rest)

  pub noted_senderless : (q : ℕ) → IsSenderless new q → IsSenderless old q
  noted_senderless q s = go (subst (λ (x : WorldView). IsSenderless x q) n.rest s)
    where
      go : IsSenderless (with_noted old n.noted) q → IsSenderless old q
      go x = record { live = x.live; asked = x.asked; none = x.none }

-- ---- the counts of send rights

module _ (l : LedgerView) (p : ℕ) (v : Counts) (l2 : LedgerView) (is : l2.counts ≡ map.insert l.counts p v) where
  pub counts_own : counts_of l2 p ≡ v
  counts_own = ap (λ m. unwrap_or (map.get m p) no_rights) is ∙ ap (λ (o : Option Counts). unwrap_or o no_rights) (put_own l.counts p (Some v))

  pub counts_other : (q : ℕ) → (q ≡ p → ⊥) → counts_of l2 q ≡ counts_of l q
  counts_other q not = ap (λ m. unwrap_or (map.get m q) no_rights) is ∙ ap (λ (o : Option Counts). unwrap_or o no_rights) (put_other l.counts p (Some v) q not)

  -- A port that has none now had none.
  sends_more : (counts_of l p).send ≤ v.send → (q : ℕ) → (counts_of l2 q).send ≡ 0 → (counts_of l q).send ≡ 0
  sends_more more q none = elim (eqb_tells q p) [
    | inl h ↦
        let own = ap (λ (c : Counts). c.send) counts_own in
        let at : (counts_of l2 p).send ≡ 0 = subst (λ (x : ℕ). (counts_of l2 x).send ≡ 0) h.1 none in
        subst (λ (x : ℕ). (counts_of l x).send ≡ 0) (sym h.1) (omega (arith, more, own, at))
    | inr h ↦ ap (λ (c : Counts). c.send) (sym (counts_other q h.1)) ∙ none
  ]

-- Where no port has lost send rights, each that has none had none.
abbrev pub KeepsSends : LedgerView → LedgerView → Type 0
KeepsSends l l2 = (q : ℕ) → (counts_of l2 q).send ≡ 0 → (counts_of l q).send ≡ 0

pub sends_made : (l : LedgerView) (p : ℕ) (kind : RightKind) (n : ℕ) → KeepsSends l (made l p kind n)
sends_made l p kind n = sends_more l p (with_more kind n (counts_of l p)) (made l p kind n) refl (go kind)
  where
    go : (k : RightKind) → (counts_of l p).send ≤ (with_more k n (counts_of l p)).send
    go right.Receive = omega arith
    go right.Send = omega arith
    go right.SendOnce = omega arith
    go right.Destination = omega arith

pub sends_shifted : (l : LedgerView) (p : ℕ) → KeepsSends l (shifted l p)
sends_shifted l p = sends_more l p (one_shifted (counts_of l p)) (shifted l p) refl (omega arith)

pub sends_taken : (l : LedgerView) (p : ℕ) (kind : RightKind) (n : ℕ) → (kind ≡ right.Send → ⊥) → KeepsSends l (taken l p kind n)
sends_taken l p kind n not = sends_more l p (with_fewer kind n (counts_of l p)) (taken l p kind n) refl (go kind not)
  where
    go : (k : RightKind) → (k ≡ right.Send → ⊥) → (counts_of l p).send ≤ (with_fewer k n (counts_of l p)).send
    go right.Receive none = omega arith
    go right.Send none = absurd (none refl)
    go right.SendOnce none = omega arith
    go right.Destination none = omega arith

-- no port has more where some went
pub sends_fewer : (l : LedgerView) (p : ℕ) (kind : RightKind) (n : ℕ) (q : ℕ) → (counts_of (taken l p kind n) q).send ≤ (counts_of l q).send
sends_fewer l p kind n q = elim (eqb_tells q p) [
  | inl h ↦
      let own = ap (λ (c : Counts). c.send) (counts_own l p (with_fewer kind n (counts_of l p)) (taken l p kind n) refl) in
      let at : (counts_of (taken l p kind n) q).send ≡ (counts_of (taken l p kind n) p).send = ap (λ (x : ℕ). (counts_of (taken l p kind n) x).send) h.1 in
      let was : (counts_of l q).send ≡ (counts_of l p).send = ap (λ (x : ℕ). (counts_of l x).send) h.1 in
      let less = go kind in omega (arith, own, at, was, less)
  | inr h ↦ (let e = ap (λ (c : Counts). c.send) (counts_other l p (with_fewer kind n (counts_of l p)) (taken l p kind n) refl q h.1) in omega (arith, e))
]
  where
    go : (k : RightKind) → (with_fewer k n (counts_of l p)).send ≤ (counts_of l p).send
    go right.Receive = omega arith
    go right.Send = omega arith
    go right.SendOnce = omega arith
    go right.Destination = omega arith

-- of another port as many are there
pub sends_elsewhere : (l : LedgerView) (p : ℕ) (kind : RightKind) (n : ℕ) (q : ℕ) → (q ≡ p → ⊥) → (counts_of (taken l p kind n) q).send ≡ (counts_of l q).send
sends_elsewhere l p kind n q not = ap (λ (c : Counts). c.send) (counts_other l p (with_fewer kind n (counts_of l p)) (taken l p kind n) refl q not)

-- ---- what a call notes, one change after the other

-- before anything changed
pub senders_same : (w : WorldView) → w.ports.noted ≡ [] → NotesSenders w w
senders_same w none = record {
  noted = λ p some s. let zero = s.none in absurd (omega (arith, some, zero));
  had = λ p c. absurd (none_listed w.ports.noted none p c);
}

-- No port lost its last send right, and none was noted.
pub record KeepsSenders (old new : WorldView) : Type 0 where
  pub senderless : (p : ℕ) → IsSenderless new p → IsSenderless old p
  pub noted : new.ports.noted ≡ old.ports.noted

pub keeps_senders : (old new : WorldView) → RequestsStand old → new.requests.no_senders ≡ old.requests.no_senders → KeepsSends old.ledger new.ledger → new.ports.noted ≡ old.ports.noted → KeepsSenders old new
keeps_senders old new requested requests sends noted = record {
  senderless = λ p s.
      let asked : map.contains_key old.requests.no_senders.map p ≡ true = subst (λ (x : MapView ℕ). map.contains_key x.map p ≡ true) requests s.asked in
      record { live = requested.no_senders p asked; asked = asked; none = sends p s.none };
  noted = noted;
}

-- ... as where the rights and the requests for no senders are as they were
pub keeps_senders_same : (old new : WorldView) → RequestsStand old → new.requests.no_senders ≡ old.requests.no_senders → new.ledger ≡ old.ledger → new.ports.noted ≡ old.ports.noted → KeepsSenders old new
keeps_senders_same old new requested requests ledger noted =
    keeps_senders old new requested requests (λ q none. ap (λ (l : LedgerView). (counts_of l q).send) (sym ledger) ∙ none) noted

-- ... as where only names' places and counts changed
pub naming_senders : (w v : WorldView) → SameButNaming w v → RequestsStand w → KeepsSenders w v
naming_senders w v same requested = keeps_senders_same w v requested (ap (λ x. x.no_senders) same.requests) same.ledger (ap (λ x. x.noted) same.ports)

pub keeps_senders_refl : (w : WorldView) → KeepsSenders w w
keeps_senders_refl w = record { senderless = λ p s. s; noted = refl }

pub keeps_senders_trans : (a b c : WorldView) → KeepsSenders a b → KeepsSenders b c → KeepsSenders a c
keeps_senders_trans a b c x y = record { senderless = λ p s. x.senderless p (y.senderless p s); noted = y.noted ∙ x.noted }

module _ (old before after : WorldView) (n : NotesSenders old before) where
  pub senders_kept : KeepsSenders before after → NotesSenders old after
  senders_kept k = record {
    noted = λ p some s. subst (λ (xs : List ℕ). Contains xs p) (sym k.noted) (n.noted p some (k.senderless p s));
    had = λ p c. n.had p (subst (λ (xs : List ℕ). Contains xs p) k.noted c);
  }

  -- Send rights of a port went, after which it was noted where it has none.
  module _ (p : ℕ) (fallen : WorldView) (requests : fallen.requests.no_senders ≡ before.requests.no_senders) (noted : fallen.ports.noted ≡ before.ports.noted)
      (requested : RequestsStand before) (others : (q : ℕ) → (q ≡ p → ⊥) → (counts_of fallen.ledger q).send ≡ (counts_of before.ledger q).send)
      (had : (counts_of fallen.ledger p).send ≡ 0 → 0 < (counts_of old.ledger p).send) (notes : NotesSenderless fallen p after) where
    is_noted : after.ports.noted ≡ notes.noted
    is_noted = ap (λ (w : WorldView). w.ports.noted) notes.rest

    was : (q : ℕ) → (q ≡ p → ⊥) → IsSenderless fallen q → IsSenderless before q
    was q not s =
        let asked : map.contains_key before.requests.no_senders.map q ≡ true = subst (λ (x : MapView ℕ). map.contains_key x.map q ≡ true) requests s.asked in
        record { live = requested.no_senders q asked; asked = asked; none = sym (others q not) ∙ s.none }

    pub senders_fallen : NotesSenders old after
    senders_fallen = record {
      noted = λ q some s.
          let now = noted_senderless fallen after p notes q s in
          subst (λ (xs : List ℕ). Contains xs q) (sym is_noted) (elim (eqb_tells q p) [
            | inl h ↦ subst (λ (x : ℕ). Contains notes.noted x) (sym h.1) (notes.notes (subst (λ (x : ℕ). IsSenderless fallen x) h.1 now))
            | inr h ↦ notes.stay q (subst (λ (xs : List ℕ). Contains xs q) (sym noted) (n.noted q some (was q h.1 now)))
          ]);
      had = λ q c. from q (notes.only q (subst (λ (xs : List ℕ). Contains xs q) is_noted c));
    }
      where
        from : (q : ℕ) → Contains fallen.ports.noted q ⊎ (q ≡ p) × IsSenderless fallen p → 0 < (counts_of old.ledger q).send
        from q (inl c) = n.had q (subst (λ (xs : List ℕ). Contains xs q) noted c)
        from q (inr (same, s)) = subst (λ (x : ℕ). 0 < (counts_of old.ledger x).send) (sym same) (had s.none)
