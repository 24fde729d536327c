-- Where the calls that receive want memory, and what they keep for names and messages to come.
use Rattle.std.proofs.Common.{◌≡◌, ◌≢◌, ℕ, ◌≤◌, ◌+◌, List, [], length, Ok, Some, refl, sym, ap, subst, arith, inl, inr, true, false, Bool}
use Rattle.std.specs.Option.{option_and_then}
use Rattle.std.specs.Prelude.{MatchBool, max}
use Rattle.name_space.proofs.Keys.{equal_or_not}
use Rattle.mach_types.specs.declared.calls.Event.{Event}
use Rattle.mach_types.specs.declared.calls.Reply.{Reply}
use Rattle.mach_types.specs.declared.calls.Waited.{Waited}
use Rattle.mach_types.specs.declared.codes.MsgReturn.TheVariants.{ReceiveBodyErrorMemory}
use Rattle.mach_types.specs.Guards.{FirstIs}
use Rattle.mach_types.specs.Codes.{msg_number}
use Rattle.mach_model.specs.Refusals.{again_guards}
use Rattle.mach_model.specs.State.{State}
use Rattle.mach_model.specs.Notices.{Owed}
use Rattle.mach_model.specs.Acts.{Does}
use Rattle.mach_model.specs.Receive.{Receipt}
use Rattle.mach_model.specs.Lawful.{IsLawful}
use Rattle.mach_model.specs.Midway.{MidLawful}
use Rattle.mach_model.proofs.StepLawful.{TakesFrom-live}
use Rattle.mach_laws.specs.Queued.{queued, unused_onces}
use Rattle.mach_laws.specs.Counts.{accepts, takes_from}
use Rattle.mach_laws.proofs.Counted.{Does-counted}
use Rattle.mach_laws.proofs.Onces.{destroyed_needs}
use Rattle.copyin_base.specs.Serving.{IsRefused}
use Rattle.copyin_base.specs.Shows.{SlotsSuffice}
use Rattle.copyin_base.specs.Stands.{Stands}
use Rattle.copyin_base.specs.Wanted.{room_of}
use Rattle.copyin_base.specs.Worlds.{WorldView, entry_at}
use Rattle.copyout.specs.Ready.{carried_by}
use Rattle.copyout.specs.Wanted.{ReturnsSlot}
use Rattle.notifications.specs.Destroying.{DestroysMessage}
use Rattle.kernel_core.specs.Receive.{named_guards, taken_by, waited_at, FreesSlot, IsFrom}
use Rattle.kernel_core.specs.Wanted.{LeavesSpares, Receives}
use Rattle.kernel_core.proofs.Freed.{destroyed_frees}
use Rattle.kernel_core.proofs.Taking.{named_takes, again_takes}
use Rattle.kernel_core.proofs.Unused.{shown_unused, midway_unused}

-- ---- a receipt

pub not_short_named : (w : WorldView) (task name code : ℕ) → Stands w → IsRefused w (λ s. named_guards s task name) code → code ≢ msg_number ReceiveBodyErrorMemory
not_short_named w task name code stands r e = go (r.refused stands.state stands.shown)
  where
    go : FirstIs (named_guards stands.state task name) code → ⊥
    go (inl h) = let f = h.1 in omega (arith, e, f)
    go (inr (not, inl h)) = let f = h.1 in omega (arith, e, f)
    go (inr (not, inr h)) = h.1

pub not_short_again : (w : WorldView) (task : ℕ) (waited : Waited) (code : ℕ) → Stands w → IsRefused w (λ s. again_guards s task waited) code → code ≢ msg_number ReceiveBodyErrorMemory
not_short_again w task waited code stands r e = go waited (r.refused stands.state stands.shown)
  where
    go : (x : Waited) → FirstIs (again_guards stands.state task x) code → ⊥
    go (Waited.Port p) (inl h) = let f = h.1 in omega (arith, e, f)
    go (Waited.Port p) (inr (not, inl h)) = let f = h.1 in omega (arith, e, f)
    go (Waited.Port p) (inr (not, inr h)) = h.1
    go (Waited.Set s) (inl h) = let f = h.1 in omega (arith, e, f)
    go (Waited.Set s) (inr (not, inl h)) = let f = h.1 in omega (arith, e, f)
    go (Waited.Set s) (inr (not, inr h)) = h.1

-- nothing was taken
pub none_freed : (w : WorldView) (receiver : ℕ) (waited : Waited) (n : ℕ) → FreesSlot w receiver waited true (Reply.TooLarge n) w
none_freed w receiver waited n = record { rooms = λ task. (1, inl refl, omega arith); slots = omega arith; uses = omega arith }

pub empty_freed : (w : WorldView) (receiver : ℕ) (large : Bool) (waited : Waited) → FreesSlot w receiver waited large (Reply.Empty waited) w
empty_freed w receiver large waited = record { rooms = λ task. (1, inl refl, omega arith); slots = omega arith; uses = omega arith }

pub one_freed : (old new : WorldView) (receiver : ℕ) (waited : Waited) (port : ℕ) (large : Bool) (bytes : List ℕ) → IsFrom old waited port → ReturnsSlot old receiver port new → new.ledger.unused ≡ old.ledger.unused → FreesSlot old receiver waited large (Reply.Message bytes) new
one_freed old new receiver waited port large bytes from r unused = record {
  rooms = λ task. elim (equal_or_not task receiver) [
    | inl same ↦ (
      length (carried_by r.front),
      inr (record { is_receiver = same; bytes = bytes; answer = refl; brings = record { port = port; from = from; message = r.front; front = r.waits; count = refl } }),
      subst (λ (t : ℕ). room_of new t ≤ max (room_of old t) (length (carried_by r.front))) (sym same) r.room,
    )
    | inr not ↦ (1, inl refl, let few = r.others task not in omega (arith, few))
  ];
  slots = let s = r.slots in omega (arith, s);
  uses = let s = r.slots in omega (arith, s, unused);
}

-- a message was destroyed
lost_freed : (old new : WorldView) (receiver : ℕ) (waited : Waited) (port n : ℕ) → SlotsSuffice old → DestroysMessage old port new → FreesSlot old receiver waited false (Reply.TooLarge n) new
lost_freed old new receiver waited port n enough d = let f = destroyed_frees old new port enough d in record {
  rooms = λ task. let same = f.rooms task in (1, inl refl, omega (arith, same));
  slots = f.slots;
  uses = f.uses;
}

pub large_freed : (old new : WorldView) (receiver : ℕ) (waited : Waited) (large : Bool) (port n : ℕ) → SlotsSuffice old → MatchBool large (new ≡ old) (DestroysMessage old port new) → FreesSlot old receiver waited large (Reply.TooLarge n) new
large_freed old new receiver waited true port n enough same = subst (λ (x : WorldView). FreesSlot old receiver waited true (Reply.TooLarge n) x) (sym same) (none_freed old receiver waited n)
large_freed old new receiver waited false port n enough d = lost_freed old new receiver waited port n enough d

-- what a receipt takes is spare again, but for what it owes
module _ (old new : WorldView) (s mid : State) (owed : Owed) (l : IsLawful s) (m : MidLawful mid owed) (was : old.ledger.unused ≡ unused_onces s) (is : new.ledger.unused ≡ unused_onces mid) (task room : ℕ) (waited : Waited) where
  abbrev Spares : Bool → Reply → Type 0
  Spares large reply = new.ports.spare ≤ old.ports.spare + taken_by large reply

  owes_none : (large : Bool) (reply : Reply) → Spares large reply → owed ≡ [] → new.ports.spare + length owed ≤ old.ports.spare + taken_by large reply
  owes_none large reply spare none = let zero : length owed ≡ 0 = ap length none in omega (arith, spare, zero)

  receipt_slots : (large : Bool) (reply : Reply) → Spares large reply → new.ports.spare + old.ledger.unused ≤ old.ports.spare + new.ledger.unused + taken_by large reply →
      queued mid + taken_by large reply ≡ queued s → Receipt s task waited room large reply mid owed → new.ports.spare + length owed ≤ old.ports.spare + taken_by large reply
  receipt_slots large (Reply.Message bytes) spare uses counted x = owes_none large (Reply.Message bytes) spare x.3
  receipt_slots large (Reply.Empty told) spare uses counted x = owes_none large (Reply.Empty told) spare x.3
  receipt_slots true (Reply.TooLarge n) spare uses counted x = owes_none true (Reply.TooLarge n) spare x.6.1
  receipt_slots false (Reply.TooLarge n) spare uses counted x =
      let needs = destroyed_needs s mid owed x.0 x.1 l m (TakesFrom-live s l task waited x.0 x.2) x.6 in
      omega (arith, needs, uses, counted, was, is)
  receipt_slots large reply spare uses counted x = absurd x

freed_spares : (old : WorldView) (event : Event) (large : Bool) (reply : Reply) (new : WorldView) (receiver room : ℕ) (from : Waited) → FreesSlot old receiver from large reply new →
    ((task : ℕ) → task ≡ receiver → Receives old event task from) → accepts event reply ≡ 0 → takes_from event reply ≡ taken_by large reply →
    ((now : ℕ) (s mid : State) (owed : Owed) → Does now s event reply mid owed → (waited : Waited) × Receipt s receiver waited room large reply mid owed) → LeavesSpares old event (Ok reply) new
freed_spares old event large reply new receiver room from f receives none taken does = record {
  rooms = λ task. let r = f.rooms task in (
    r.0,
    elim r.1 [
      | inl one ↦ inl one
      | inr t ↦ inr (record { bytes = t.bytes; answer = ap Ok t.answer; waited = from; receives = receives task t.is_receiver; brings = t.brings })
    ],
    r.2,
  );
  slots = λ before after now s sh d. inl (
      let counted = Does-counted now s event reply d.mid d.owed sh.lawful d.unrefused d.does d.judged in
      let was = shown_unused old s sh before in
      let is = midway_unused now old new d.mid d.owed d.shows after in
      let x = does now s d.mid d.owed d.does in
      let spare = receipt_slots old new s d.mid d.owed sh.lawful d.shows.lawful was is receiver room x.0 large reply f.slots f.uses (omega (arith, counted, none, taken)) x.1 in
      omega (arith, spare, none, taken));
}

pub named_spares : (old : WorldView) (task name room : ℕ) (large : Bool) (reply : Reply) (new : WorldView) (waited : Waited) → option_and_then waited_at (entry_at old task name) ≡ Some waited →
    FreesSlot old task waited large reply new → LeavesSpares old (Event.Receive task name room large) (Ok reply) new
named_spares old task name room large reply new waited found f =
    freed_spares old (Event.Receive task name room large) large reply new task room waited f (λ t same. (same, found)) refl (named_takes task name room large reply) (λ now s mid owed d. (d.0, d.2))

pub again_spares : (old : WorldView) (task : ℕ) (waited : Waited) (room : ℕ) (large : Bool) (reply : Reply) (new : WorldView) → FreesSlot old task waited large reply new →
    LeavesSpares old (Event.ReceiveAgain task waited room large) (Ok reply) new
again_spares old task waited room large reply new f =
    freed_spares old (Event.ReceiveAgain task waited room large) large reply new task room waited f (λ t same. (same, refl)) refl (again_takes task waited room large reply) (λ now s mid owed d. (waited, d))
