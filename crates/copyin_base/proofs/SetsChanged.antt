-- The sets of one port were changed, in the tables and in the machine alike.
use Rattle.std.proofs.Common.{◌≡◌, ℕ, List, [], ◌∷◌, Option, Some, None, true, refl, sym, ap, subst, ◌∙◌}
use Rattle.std.specs.Prelude.{is_some}
use Rattle.mach_types.specs.declared.calls.Event.{Event}
use Rattle.mach_types.specs.declared.calls.Reply.{Reply}
use Rattle.mach_model.specs.Acts.{Does}
use Rattle.mach_model.specs.Machine.{Judged}
use Rattle.mach_model.specs.State.{State, at}
use Rattle.mach_model.proofs.Midway.{LosesNone}
use Rattle.mach_model.proofs.Names.{at_own, at_other}
use Rattle.port.specs.Ports.{PortView, sets_in, with_port, with_sets}
use Rattle.tables_base.specs.Kept.{Kept}
use Rattle.copyin_base.specs.Worlds.{WorldView, port_at, sets_at}
use Rattle.copyin_base.specs.Shows.{Agrees, Shows}
use Rattle.copyin_base.specs.Wanted.{KeepsSpares}
use Rattle.copyin_base.proofs.Acting.{Does-so}
use Rattle.copyin_base.proofs.Agreeing.{live_put, ports_put}
use Rattle.copyin_base.proofs.Carriers.{carriers_fewer}
use Rattle.copyin_base.proofs.Holders.{KeepHolders, holders_ports, put_holders}
use Rattle.copyin_base.proofs.Idle.{none_lost_by}
use Rattle.copyin_base.proofs.InSets.{sets_are}
use Rattle.copyin_base.proofs.Requested.{requested_put}
use Rattle.copyin_base.proofs.SendersNoted.{keeps_senders_same, senders_kept, senders_same}
use Rattle.copyin_base.proofs.Slots.{slots_kept}
use Rattle.copyin_base.proofs.Spares.{keeps_names}

-- The port is in these sets now; all else stays.
pub record PutsIn (old : WorldView) (p : ℕ) (sets : List ℕ) (new : WorldView) : Type 0 where
  pub v : PortView Kept
  pub there : port_at old p ≡ Some v
  pub rest : new ≡ record old { ports = with_port old.ports p (with_sets v sets) }

-- as the verbs say it, by the sets that it was in
pub puts_in : (w new : WorldView) (p : ℕ) (sets : List ℕ → List ℕ) → is_some (port_at w p) ≡ true → ((v : PortView Kept) → port_at w p ≡ Some v → new ≡ record w { ports = with_port w.ports p (with_sets v (sets (sets_in v))) }) →
    PutsIn w p (sets (sets_at w p)) new
puts_in w new p sets there changed = go (port_at w p) refl there
  where
    go : (o : Option (PortView Kept)) → port_at w p ≡ o → is_some o ≡ true → PutsIn w p (sets (sets_at w p)) new
    go None e there = absurd (cc)
    go (Some v) e there = subst (λ (xs : List ℕ). PutsIn w p (sets xs) new) (sym (sets_are w p v e)) record { v = v; there = e; rest = changed v e }

pub in_these : (v : PortView Kept) (sets : List ℕ) → sets_in (with_sets v sets) ≡ sets
in_these v [] = refl
in_these v (set ∷ sets) = refl

module _ (w w2 : WorldView) (p : ℕ) (sets : List ℕ) (put : PutsIn w p sets w2) where
  pub sets_agree : (s : State) → Agrees w s → Agrees w2 (record s { sets_of = at s.sets_of p sets })
  sets_agree s a = subst (λ (y : WorldView). Agrees y t) (sym put.rest) record {
    spaces = a.spaces;
    rights = a.rights;
    live_port = live_put w.ports.ports p (with_sets put.v sets) s.live_port (sym (a.live_port p) ∙ ap is_some put.there) a.live_port;
    ports_made = a.ports_made;
    ports = ports_put w.ports.ports p (with_sets put.v sets) t
        (let b = a.ports p put.v put.there in record { waiting = b.waiting; limit = b.limit; make_send = b.make_send; sequence = b.sequence; sets = in_these put.v sets ∙ sym (at_own s.sets_of p sets) })
        (λ q y not is. let b = a.ports q y is in record {
          waiting = b.waiting;
          limit = b.limit;
          make_send = b.make_send;
          sequence = b.sequence;
          sets = b.sets ∙ sym (at_other s.sets_of p sets q not);
        });
    counts = a.counts;
    total = a.total;
    in_sets = a.in_sets;
    of_requests = a.of_requests;
  }
    where
      t : State
      t = record s { sets_of = at s.sets_of p sets }

  pub sets_keep : KeepsSpares w w2
  sets_keep = keeps_names w w2 (ap (λ (z : WorldView). z.spaces) put.rest) (ap (λ (z : WorldView). z.ports.spare) put.rest)

  -- A call does this.
  pub in_sets_so : (event : Event) (now : ℕ) (s : State) → Shows w s → (does : Does now s event (Reply.Code 0) (record s { sets_of = at s.sets_of p sets }) []) →
      Judged now s event (Reply.Code 0) (record s { sets_of = at s.sets_of p sets }) [] does → LosesNone s event (Reply.Code 0) → Does-so w event (Reply.Code 0) w2 now s
  in_sets_so event now s sh does judged none = record {
    mid = record s { sets_of = at s.sets_of p sets };
    owed = [];
    does = does;
    judged = judged;
    loses_none = none;
    none_owed = refl;
    agrees = sets_agree s sh.agrees;
    holders = holders_ports w w2 sh.holders (ap (λ (z : WorldView). z.spaces) put.rest)
        (subst (λ (z : WorldView). KeepHolders w.ports.ports z.ports.ports) (sym put.rest) (put_holders w.ports.ports p put.v (with_sets put.v sets) put.there refl));
    carriers = carriers_fewer w w2 sh.carriers p put.v (with_sets put.v sets) put.there (ap (λ (z : WorldView). z.ports.made) put.rest) (ap (λ (z : WorldView). z.ports.ports) put.rest) (λ m c. c) refl;
    slots = slots_kept w w2 sh.slots (ap (λ (z : WorldView). z.ledger.unused) put.rest) (ap (λ (z : WorldView). z.ports.spare) put.rest);
    requested = requested_put w w2 sh.requested p (with_sets put.v sets) (ap (λ (z : WorldView). z.ports.ports) put.rest) (ap (λ (z : WorldView). z.requests) put.rest) (ap (λ (z : WorldView). z.spaces) put.rest);
    notes = senders_kept w w w2 (senders_same w sh.idle.noted)
        (keeps_senders_same w w2 sh.requested (ap (λ (z : WorldView). z.requests.no_senders) put.rest) (ap (λ (z : WorldView). z.ledger) put.rest) (ap (λ (z : WorldView). z.ports.noted) put.rest));
    none_lost = none_lost_by w w2 sh.idle.none_lost (ap (λ (z : WorldView). z.ports.lost) put.rest) (ap (λ (z : WorldView). z.ports.doomed) put.rest) (ap (λ (z : WorldView). z.ports.destroyed) put.rest);
  }
