-- What is made under a name keeps what is true of the tables alone, and so does a task that is made.
use Rattle.std.proofs.Common.{arith, ◌≡◌, ℕ, ◌-◌, Option, Some, None, refl, sym, ap, subst, ◌∙◌, inl, inr}
use Rattle.std.specs.Option.{unwrap_or}
use Rattle.std.specs.FinMap as map
use Rattle.std.proofs.lemmas.Bool.Decides.{eqb_tells}
use Rattle.name_space.specs.declared.Entry.{Entry}
use Rattle.name_space.specs.declared.Entry.TheVariants as entry_of
use Rattle.name_space.specs.Names.{SpaceView}
use Rattle.port.specs.Ports.{PortsView, IsLive}
use Rattle.rights.specs.declared.Counts.{Counts}
use Rattle.rights.specs.declared.RightKind.TheVariants as right
use Rattle.rights.specs.Counts.{no_rights}
use Rattle.rights.specs.Ledger.{LedgerView, counts_of, entered, made}
use Rattle.copyin_base.specs.Changes.{SameButRoom}
use Rattle.copyin_base.specs.Kept.{Kept}
use Rattle.copyin_base.specs.Shows.{CarriersAgree, RequestsStand}
use Rattle.copyin_base.specs.Worlds.{WorldView, NoneLost, entry_at, space_at, with_space}
use Rattle.copyin_base.proofs.Carriers.{carriers_same, carriers_made}
use Rattle.copyin_base.proofs.Idle.{none_lost_by, none_lost_same}
use Rattle.copyin_base.proofs.Requested.{requested_inserted, requested_kept, requested_ports, requested_put}
use Rattle.copyin_base.proofs.SendersNoted.{KeepsSends, counts_other, sends_made, KeepsSenders, keeps_senders, keeps_senders_same, naming_senders}
use Rattle.copyin_base.proofs.Spaces.{space-push_other, space-end}
use Rattle.kernel_core_base.specs.declared.names.NewRight.{NewRight}
use Rattle.kernel_core_base.specs.declared.names.NewRight.TheVariants as new_right
use Rattle.copyin_base.specs.Coming.{first_port, with_new_task}
use Rattle.kernel_core_base.specs.Names.{Adds}

-- ---- what is made under a name

-- a port that wasn't counted has no send rights
entered_sends : (l : LedgerView) (p : ℕ) → map.get l.counts p ≡ None → KeepsSends l (entered l p)
entered_sends l p unknown q none = elim (eqb_tells q p) [
  | inl h ↦ subst (λ (x : ℕ). (counts_of l x).send ≡ 0) (sym h.1) (ap (λ (o : Option Counts). (unwrap_or o no_rights).send) unknown)
  | inr h ↦ ap (λ (c : Counts). c.send) (sym (counts_other l p no_rights (entered l p) refl q h.1)) ∙ none
]

port_sends : (l : LedgerView) (p : ℕ) → map.get l.counts p ≡ None → KeepsSends l (made (entered l p) p right.Receive 1)
port_sends l p unknown q none = entered_sends l p unknown q (sends_made (entered l p) p right.Receive 1 q none)

module _ (w v : WorldView) (task name : ℕ) where
  pub made_carriers : (r : NewRight) → Adds w task r name v → CarriersAgree w → CarriersAgree v
  made_carriers new_right.Port adds a = grind (arith, carriers_made)
  made_carriers new_right.Set adds a = carriers_same w v a (ap (λ (x : WorldView). x.ports.made) adds.rest) (ap (λ (x : WorldView). x.ports.ports) adds.rest)
  made_carriers new_right.DeadName adds a = carriers_same w v a (ap (λ (x : WorldView). x.ports.made) adds.rest) (ap (λ (x : WorldView). x.ports.ports) adds.rest)

  pub made_none_lost : (r : NewRight) → Adds w task r name v → NoneLost w → NoneLost v
  made_none_lost new_right.Port adds n = grind (arith, none_lost_by)
  made_none_lost new_right.Set adds n = none_lost_same w v n (ap (λ (x : WorldView). x.ports) adds.rest)
  made_none_lost new_right.DeadName adds n = none_lost_same w v n (ap (λ (x : WorldView). x.ports) adds.rest)

  -- the name alone
  abbrev named : SpaceView → Entry → WorldView
  named space e = with_space w task (record space { names = map.insert space.names name e; room = space.room - 1 })

  module _ (requested : RequestsStand w) where
    named_requested : (unused : entry_at w task name ≡ None) (space : SpaceView) → space_at w task ≡ Some space → (e : Entry) → RequestsStand (named space e)
    named_requested unused space there e = requested_inserted w (named space e) requested task name e (record { space = space; there = there; rest = refl }) unused

    live : v.ports ≡ w.ports → (p : ℕ) → IsLive w.ports p → IsLive v.ports p
    live same p lives = subst (λ (x : PortsView Kept). IsLive x p) (sym same) lives

    pub made_requested : (r : NewRight) → Adds w task r name v → entry_at w task name ≡ None → RequestsStand v
    made_requested new_right.Port adds unused = requested_put (named adds.space (entry_of.Receive w.ports.made)) v (named_requested unused adds.space adds.there (entry_of.Receive w.ports.made))
        w.ports.made (first_port task) (ap (λ (x : WorldView). x.ports.ports) adds.rest) (ap (λ (x : WorldView). x.requests) adds.rest) (ap (λ (x : WorldView). x.spaces) adds.rest)
    made_requested new_right.Set adds unused = requested_ports (named adds.space (entry_of.Set w.sets.made)) v (named_requested unused adds.space adds.there (entry_of.Set w.sets.made))
        (live (ap (λ (x : WorldView). x.ports) adds.rest)) (ap (λ (x : WorldView). x.requests) adds.rest) (ap (λ (x : WorldView). x.spaces) adds.rest)
    made_requested new_right.DeadName adds unused = grind (arith, requested_ports, named_requested, live)

    pub made_senders : (r : NewRight) → Adds w task r name v → map.get w.ledger.counts w.ports.made ≡ None → KeepsSenders w v
    made_senders new_right.Port adds unknown = grind (arith, keeps_senders, port_sends)
    made_senders new_right.Set adds unknown = grind (arith, keeps_senders_same)
    made_senders new_right.DeadName adds unknown = grind (arith, keeps_senders_same)

-- ---- only room

-- places that were made leave the ports without senders as they were
pub room_senders : (w v : WorldView) → SameButRoom w v → RequestsStand w → KeepsSenders w v
room_senders w v same requested = naming_senders w v same.naming requested

-- ---- a task

module _ (w : WorldView) where
  no_entry : (e : Entry) → None ≡ Some e → ⊥
  no_entry e f = cc

  pub task_requested : RequestsStand w → RequestsStand (with_new_task w)
  task_requested requested = grind (arith, requested_kept, no_entry, space-end, space-push_other)

  pub task_carriers : CarriersAgree w → CarriersAgree (with_new_task w)
  task_carriers a = carriers_same w (with_new_task w) a refl refl

  pub task_senders : RequestsStand w → KeepsSenders w (with_new_task w)
  task_senders requested = keeps_senders_same w (with_new_task w) requested refl refl refl
