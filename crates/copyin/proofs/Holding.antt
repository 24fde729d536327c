-- The queue of a message's destination holds the receive rights that it carries: each of their ports knows that, and all else of the
-- tables is as it was.
use Rattle.std.proofs.Common.{◌≡◌, ℕ, zero, ◌+◌, ◌<◌, get_or, drop, length, Option, Some, None, List, [], ◌∷◌, refl, sym, ap, subst, ◌∙◌, inl, inr, arith}
use Rattle.std.specs.Prelude.{Contains, MatchOption}
use Rattle.std.specs.FinMap as map
use Rattle.std.specs.Ordering.{nat_cmp}
use Rattle.std.proofs.lemmas.Bool.Decides.{eqb_tells}
use Rattle.std.proofs.lemmas.List.{drop_more}
use Rattle.std.proofs.lemmas.List.Elements.{Contains-append_cases}
use Rattle.mach_model.specs.State.{State}
use Rattle.name_space.specs.Names.{SpaceView}
use Rattle.port.specs.declared.Holder.TheVariants as by
use Rattle.port.specs.Ports.{PortView, IsLive, with_port}
use Rattle.copyin_base.specs.declared.Carried.{Carried}
use Rattle.copyin_base.specs.Changes.{SetsHolder}
use Rattle.copyin_base.specs.Kept.{Kept, receive_of}
use Rattle.copyin_base.specs.Shows.{Agrees, HoldersAgree, CarriersAgree, RequestsStand}
use Rattle.copyin_base.specs.Worlds.{WorldView, NoneLost, space_in, entry_in, entry_at, port_at}
use Rattle.copyin_base.proofs.AttributesSet.{holder_agrees}
use Rattle.copyin_base.proofs.Carriers.{KeepQueues, IsCarried, same_queues, put_queue, carriers_held}
use Rattle.copyin_base.proofs.Holders.{ReceivesAt, ChangesHolder, same_receives, put_holder, holder_set}
use Rattle.copyin_base.proofs.Idle.{none_lost_held}
use Rattle.copyin_base.proofs.KeptEntries.{receive_right, moved_is}
use Rattle.copyin_base.proofs.Listed.{none_listed, listed_one, listed_later}
use Rattle.copyin_base.proofs.Requested.{requested_held}
use Rattle.copyin.specs.Loops.{HoldsRight, HoldsRights}
use Rattle.copyin.specs.Planned.{CanHoldAll}
use Rattle.copyin.proofs.Keeping.{still}

pub receive_is : (c : Carried) (p : ℕ) → receive_of c ≡ Some p → c ≡ receive_right p
receive_is c p e = moved_is c.given c.mark p e

-- ---- one holder after the other

module _ (queue : ℕ) where
  -- What is true, and stays so where the queue is made the holder of a port among these, is true in the end.
  pub over_held : (P : WorldView → Type 0) (cs : List Carried) (old new : WorldView) →
      ((p : ℕ) (w w2 : WorldView) → Contains cs (receive_right p) → SetsHolder w p (by.QueueOf queue) w2 → P w → P w2) → HoldsRights old queue cs new → P old → P new
  over_held P [] old new kept same h = subst P (sym same) h
  over_held P (c ∷ cs) old new kept more h =
      over_held P cs more.0 new (λ p w w2 among. kept p w w2 (listed_later c cs (receive_right p) among)) more.2 (one (receive_of c) refl more.1)
    where
      one : (o : Option ℕ) → receive_of c ≡ o → MatchOption o (more.0 ≡ old) (λ p. SetsHolder old p (by.QueueOf queue) more.0) → P more.0
      one None is same = subst P (sym same) h
      one (Some p) is set = kept p old more.0 (zero, omega arith, receive_is c p is) set h

  -- The port knows that the queue holds its receive right, where it is there.
  abbrev pub IsHeld : ℕ → WorldView → Type 0
  IsHeld p w = (v : PortView Kept) → port_at w p ≡ Some v → v.attributes.holder ≡ by.QueueOf queue

  set_own : (p : ℕ) (w w2 : WorldView) → SetsHolder w p (by.QueueOf queue) w2 → IsHeld p w2
  set_own p w w2 set = subst (IsHeld p) (sym set.rest) (put_holder w.ports.ports p (record set.v { attributes = record set.v.attributes { holder = by.QueueOf queue } })).own

  set_other : (p q : ℕ) (w w2 : WorldView) → SetsHolder w q (by.QueueOf queue) w2 → IsHeld p w → IsHeld p w2
  set_other p q w w2 set held = subst (IsHeld p) (sym set.rest) (λ v at. elim (eqb_tells p q) [
    | inl h ↦ changed.own v (subst (λ (x : ℕ). map.get now x ≡ Some v) h.1 at)
    | inr h ↦ let b = changed.others p v h.1 at in sym b.is ∙ held b.v b.there
  ])
    where
      v2 : PortView Kept
      v2 = record set.v { attributes = record set.v.attributes { holder = by.QueueOf queue } }

      now : map.FinMap nat_cmp (PortView Kept)
      now = map.insert w.ports.ports q v2

      changed : ChangesHolder w.ports.ports now q (by.QueueOf queue)
      changed = put_holder w.ports.ports q v2

  pub all_held : (cs : List Carried) (old new : WorldView) → HoldsRights old queue cs new → (p : ℕ) → Contains cs (receive_right p) → IsHeld p new
  all_held [] old new same p among = absurd (none_listed [] refl (receive_right p) among)
  all_held (c ∷ cs) old new more p among = elim (Contains-append_cases (c ∷ []) cs (receive_right p) among) [
    | inl own ↦
        let set : SetsHolder old p (by.QueueOf queue) more.0 = subst (λ (x : Carried). HoldsRight old queue x more.0) (sym (listed_one c (receive_right p) own)) more.1 in
        over_held (IsHeld p) cs more.0 new (λ q w w2 in_rest. set_other p q w w2) more.2 (set_own p old more.0 set)
    | inr later ↦ all_held cs more.0 new more.2 p later
  ]

-- ---- what stays

module _ (queue : ℕ) (cs : List Carried) (old new : WorldView) (holds : HoldsRights old queue cs new) where
  -- what holders are of no account to
  same_by : {A : Type 0} (f : WorldView → A) → ((w : WorldView) (p : ℕ) (v : PortView Kept) → f (record w { ports = with_port w.ports p v }) ≡ f w) → f new ≡ f old
  same_by f same = over_held queue (λ w. f w ≡ f old) cs old new (λ p w w2 among set is. ap f set.rest ∙ same w p _ ∙ is) holds refl

  pub held_spaces : new.spaces ≡ old.spaces
  held_spaces = same_by (λ w. w.spaces) (λ w p v. refl)

  pub held_ledger : new.ledger ≡ old.ledger
  held_ledger = same_by (λ w. w.ledger) (λ w p v. refl)

  pub held_requests : new.requests ≡ old.requests
  held_requests = same_by (λ w. w.requests) (λ w p v. refl)

  pub held_made : new.ports.made ≡ old.ports.made
  held_made = same_by (λ w. w.ports.made) (λ w p v. refl)

  pub held_spare : new.ports.spare ≡ old.ports.spare
  held_spare = same_by (λ w. w.ports.spare) (λ w p v. refl)

  pub held_noted : new.ports.noted ≡ old.ports.noted
  held_noted = same_by (λ w. w.ports.noted) (λ w p v. refl)

  pub held_lives : (p : ℕ) → IsLive old.ports p → IsLive new.ports p
  held_lives p = over_held queue (λ w. IsLive w.ports p) cs old new (λ q w w2 among set lives. subst (λ (x : WorldView). IsLive x.ports p) (sym set.rest) (still w.ports.ports q p _ lives)) holds

  pub held_queues : KeepQueues old.ports.ports new.ports.ports
  held_queues = over_held queue (λ w. KeepQueues old.ports.ports w.ports.ports) cs old new (λ p w w2 among set kept q v m there queued.
      let i = subst (λ (x : WorldView). KeepQueues w.ports.ports x.ports.ports) (sym set.rest) (put_queue w.ports.ports p set.v _ set.there (λ n c. c)) q v m there queued in
      kept q i.v m i.there i.queued) holds (same_queues old.ports.ports)

  pub held_requested : RequestsStand old → RequestsStand new
  held_requested = over_held queue RequestsStand cs old new (λ p w w2 among set r. requested_held w w2 r p (by.QueueOf queue) set) holds

  pub held_none_lost : NoneLost old → NoneLost new
  held_none_lost = over_held queue NoneLost cs old new (λ p w w2 among set none. none_lost_held w w2 none p (by.QueueOf queue) set) holds

  pub held_agrees : (s : State) → Agrees old s → Agrees new s
  held_agrees s = over_held queue (λ w. Agrees w s) cs old new (λ p w w2 among set a. holder_agrees w w2 s a p (by.QueueOf queue) set) holds

  -- where no name has one of these receive rights
  pub held_holders : ((p : ℕ) → Contains cs (receive_right p) → (task : ℕ) → ReceivesAt old task p → ⊥) → HoldersAgree old → HoldersAgree new
  held_holders gone a = (over_held queue (λ w. HoldersAgree w × (w.spaces ≡ old.spaces)) cs old new (λ p w w2 among set h. (
    holder_set w w2 h.0 p (by.QueueOf queue) set (λ task r. absurd (gone p among task
        (same_receives (λ n. entry_at old task n) (λ n. entry_at w task n) (λ n. ap (λ (xs : List (Option SpaceView)). entry_in (space_in xs task) n) h.1) p r))),
    ap (λ (x : WorldView). x.spaces) set.rest ∙ h.1,
  )) holds (a, refl)).0

  -- where no queue has one
  pub held_carriers : ((p : ℕ) → Contains cs (receive_right p) → (q : ℕ) → IsCarried old q p → ⊥) → CarriersAgree old → CarriersAgree new
  held_carriers free a = (over_held queue (λ w. CarriersAgree w × KeepQueues old.ports.ports w.ports.ports) cs old new (λ p w w2 among set h. (
    carriers_held w w2 h.0 p (by.QueueOf queue) set (λ q carried.
        let i = h.1 q carried.u carried.message carried.there carried.queued in
        absurd (free p among q (record { u = i.v; there = i.there; message = carried.message; queued = i.queued; carries = carried.carries }))),
    λ q v m there queued.
        let i = subst (λ (x : WorldView). KeepQueues w.ports.ports x.ports.ports) (sym set.rest) (put_queue w.ports.ports p set.v _ set.there (λ n c. c)) q v m there queued in
        h.1 q i.v m i.there i.queued,
  )) holds (a, same_queues old.ports.ports)).0

-- ---- in a loop

-- The first of the rights are held, and what holding those that are left leads to is what holding all leads to.
pub record IsHolding (old now : WorldView) (queue : ℕ) (rights left : List Carried) : Type 0 where
  pub can : CanHoldAll now rights
  pub none_lost : NoneLost now
  pub whole : (final : WorldView) → HoldsRights now queue left final → HoldsRights old queue rights final

-- one of them can be held
pub holds_next : (w : WorldView) (rights : List Carried) (i : ℕ) (c : Carried) → i < length rights → c ≡ get_or rights i c → CanHoldAll w rights → (p : ℕ) → receive_of c ≡ Some p → IsLive w.ports p
holds_next w rights i c below is can = subst (λ (x : Carried). (p : ℕ) → receive_of x ≡ Some p → IsLive w.ports p) (sym is) (can i c below)

pub holding_more : (old now new : WorldView) (queue : ℕ) (rights : List Carried) (i : ℕ) (c : Carried) → i < length rights → c ≡ get_or rights i c →
    IsHolding old now queue rights (drop i rights) → HoldsRight now queue c new → IsHolding old new queue rights (drop (i + 1) rights)
holding_more old now new queue rights i c below is h one = record {
  can = λ k d at p moved. held_lives queue (c ∷ []) now new (new, one, refl) p (h.can k d at p moved);
  none_lost = held_none_lost queue (c ∷ []) now new (new, one, refl) h.none_lost;
  whole = λ final more. h.whole final (subst (λ (cs : List Carried). HoldsRights now queue cs final) (sym parts) (new, one, more));
}
  where
    parts : drop i rights ≡ c ∷ drop (i + 1) rights
    parts = drop_more rights i c below ∙ ap (λ (x : Carried). x ∷ drop (i + 1) rights) (sym is)
