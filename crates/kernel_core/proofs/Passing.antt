-- A receipt by a set passes a turn, of which no state knows: what holds of the tables before holds after, and the other way.
use Rattle.std.proofs.Common.{◌≡◌, ℕ, ◌<◌, ◌+◌, ◌%◌, ◌^◌, ◌++◌, inl, inr, List, Option, Some, Bool, true, false, length, refl, sym, ap, subst, ◌∙◌}
use Rattle.std.specs.Prelude.{min, MatchBool}
use Rattle.std.specs.Option.{option_to_list}
use Rattle.mach_types.specs.declared.calls.Reply.{Reply}
use Rattle.mach_types.specs.declared.calls.Waited.{Waited}
use Rattle.mach_types.specs.Numbers.{most_bytes}
use Rattle.mach_model.specs.State.{State}
use Rattle.mach_model.specs.Refusals.{again_guards}
use Rattle.port.specs.Ports.{with_port}
use Rattle.port.specs.Turns.{ReadyLists}
use Rattle.rights.specs.Ledger.{taken}
use Rattle.copyin_base.specs.declared.Carried.{Carried}
use Rattle.copyin_base.specs.Changes.{NotesSenderless}
use Rattle.copyin_base.specs.Kept.{Kept}
use Rattle.copyin_base.specs.Serving.{IsAllowed}
use Rattle.copyin_base.specs.Shows.{Shows, SlotsSuffice}
use Rattle.copyin_base.specs.Worlds.{WorldView, HasTask}
use Rattle.copyout.specs.Ready.{HasFront}
use Rattle.copyout.specs.Takes.{TakesFront, destination_right}
use Rattle.notifications.specs.Destroying.{CanDestroy, CanLoseAll, DestroysMessage}
use Rattle.kernel_core.specs.Choices.{SameButTurns}
use Rattle.kernel_core.specs.InTurn.{PassesIn}
use Rattle.kernel_core.specs.Receive.{IsFrom, IsReceipt, FreesSlot}
use Rattle.kernel_core.proofs.Chosen.{with_turns, agrees-turns, holders-turns, carriers-turns, requested-turns, shows-turns, passes-in}
use Rattle.kernel_core.proofs.Receiving.{large_ended}
use Rattle.kernel_core.proofs.Sparing.{large_freed}

-- ---- a receipt, and then the turn

module _ (old : WorldView) (task room : ℕ) (waited : Waited) (large : Bool) (from : Option ℕ) (reply : Reply) where
  after_turns : (new : WorldView) (turns : ReadyLists) → IsReceipt old task waited room large from reply new → IsReceipt old task waited room large from reply (with_turns new turns)
  after_turns new turns r = record {
    receipt = λ now s sh.
        let x = r.receipt now s sh in
        record {
          mid = x.mid;
          owed = x.owed;
          receipt = x.receipt;
          takes = x.takes;
          agrees = agrees-turns new turns _ x.agrees;
          holders = holders-turns new turns x.holders;
          carriers = carriers-turns new turns x.carriers;
          slots = x.slots;
          requested = requested-turns new turns x.requested;
          notes = record { noted = λ port had less. x.notes.noted port had (record { live = less.live; asked = less.asked; none = less.none }); had = x.notes.had };
          makes = x.makes;
          left = record { doomed = x.left.doomed; destroyed = x.left.destroyed; lost = x.left.lost; orphans = x.left.orphans };
        };
  }

  pub receipt_after : (mid new : WorldView) → SameButTurns mid new → IsReceipt old task waited room large from reply mid → IsReceipt old task waited room large from reply new
  receipt_after mid new same r = subst (IsReceipt old task waited room large from reply) (sym same) (after_turns mid new.ports.ready r)

  -- the turn, and then a receipt
  receipt_before : (turns : ReadyLists) (new : WorldView) → IsReceipt (with_turns old turns) task waited room large from reply new → IsReceipt old task waited room large from reply new
  receipt_before turns new r = record {
    receipt = λ now s sh.
        let x = r.receipt now s (shows-turns old turns s sh) in
        record {
          mid = x.mid;
          owed = x.owed;
          receipt = x.receipt;
          takes = x.takes;
          agrees = x.agrees;
          holders = x.holders;
          carriers = x.carriers;
          slots = x.slots;
          requested = x.requested;
          notes = record { noted = x.notes.noted; had = x.notes.had };
          makes = x.makes;
          left = x.left;
        };
  }

pub freed_after : (old mid new : WorldView) (receiver : ℕ) (waited : Waited) (large : Bool) (reply : Reply) → SameButTurns mid new → FreesSlot old receiver waited large reply mid → FreesSlot old receiver waited large reply new
freed_after old mid new receiver waited large reply same f = subst (FreesSlot old receiver waited large reply) (sym same) (record { rooms = f.rooms; slots = f.slots; uses = f.uses })

-- ---- the turn passes, and then the message is destroyed

shows-before : (w : WorldView) (turns : ReadyLists) (s : State) → Shows (with_turns w turns) s → Shows w s
shows-before w turns s sh = shows-turns (with_turns w turns) w.ports.ready s sh

destroys_after : (w passed new : WorldView) (port : ℕ) → SameButTurns w passed → DestroysMessage passed port new → DestroysMessage (with_turns w passed.ports.ready) port new
destroys_after w passed new port same d = subst (λ (x : WorldView). DestroysMessage x port new) same d

module _ (w : WorldView) (task : ℕ) (below : HasTask w task) (waited : Waited) (good : IsAllowed w (λ s. again_guards s task waited)) (room port : ℕ) (f : IsFrom w waited port) (m : Kept) (h : HasFront w port m) where
  pub large_passed : (ready : Option ℕ) → ready ≡ Some port → (large : Bool) (n : ℕ) → n ≡ length m.bytes → min room most_bytes < length m.bytes → (new : WorldView) →
      MatchBool large (new ≡ w) ((mid : WorldView) × PassesIn w waited port mid × DestroysMessage mid port new) → IsReceipt w task waited room large ready (Reply.TooLarge n) new
  large_passed ready is_ready true n is above new same = large_ended w task below waited good room port f m h ready is_ready true n is above new same
  large_passed ready is_ready false n is above new (mid, passes, d) =
      let turns : ReadyLists = mid.ports.ready in
      receipt_before w task room waited false ready (Reply.TooLarge n) turns new
      (large_ended (with_turns w turns) task below waited (record { allowed = λ s sh. good.allowed s (shows-before w turns s sh) }) room port (record { v = f.v; there = f.there; is_of = f.is_of }) m
      (record { v = h.v; there = h.there; behind = h.behind; queue = h.queue }) ready is_ready false n is above new (destroys_after w mid new port (passes-in w mid waited port passes) d))

pub passed_freed : (w new : WorldView) (receiver : ℕ) (waited : Waited) (large : Bool) (port n : ℕ) → SlotsSuffice w → MatchBool large (new ≡ w) ((mid : WorldView) × PassesIn w waited port mid × DestroysMessage mid port new) → FreesSlot w receiver waited large (Reply.TooLarge n) new
passed_freed w new receiver waited true port n enough same = large_freed w new receiver waited true port n enough same
passed_freed w new receiver waited false port n enough (mid, passes, d) =
    let f = large_freed (with_turns w mid.ports.ready) new receiver waited false port n enough (destroys_after w mid new port (passes-in w mid waited port passes) d) in
    record {
      rooms = λ task. let r = f.rooms task in (r.0, elim r.1 [ inl one ↦ inl one | inr h ↦ absurd (let e : Reply.TooLarge n ≡ Reply.Message h.bytes = h.answer in cc) ], r.2);
      slots = f.slots;
      uses = f.uses;
    }

-- ---- what that asks

module _ (w : WorldView) (turns : ReadyLists) (port : ℕ) where
  can_lose_turned : (rights : List Carried) (v : WorldView) (ready : ReadyLists) → CanLoseAll v rights → CanLoseAll (with_turns v ready) rights
  can_lose_turned rights v ready c = record { entered = c.entered; slots = c.slots; receivers = c.receivers; one_each = c.one_each; senders = c.senders; onces = c.onces; held = c.held }

  note_turned : (t : WorldView) (ready : ReadyLists) (v : WorldView) → (n : NotesSenderless (with_turns t ready) port v) → NotesSenderless t port (record t { ports = record t.ports { noted = n.noted } })
  note_turned t ready v n = record {
    noted = n.noted;
    rest = refl;
    notes = λ less. n.notes (record { live = less.live; asked = less.asked; none = less.none });
    stay = n.stay;
    only = λ q in_it. elim (n.only q in_it) [ inl a ↦ inl a | inr a ↦ inr (a.0, (let less = a.1 in record { live = less.live; asked = less.asked; none = less.none })) ];
  }

  later_turned : (rights : List Carried) (b : Bool) (t0 t v : WorldView) (ready : ReadyLists) → t ≡ with_turns t0 ready → MatchBool b (v ≡ t) (NotesSenderless t port v) →
      ((x : WorldView) → MatchBool b (x ≡ t0) (NotesSenderless t0 port x) → CanLoseAll x rights) → CanLoseAll v rights
  later_turned rights true t0 t v ready is same later = subst (λ (x : WorldView). CanLoseAll x rights) (sym (same ∙ is)) (can_lose_turned rights t0 ready (later t0 refl))
  later_turned rights false t0 t v ready is notes later =
      let n : NotesSenderless (with_turns t0 ready) port v = subst (λ (x : WorldView). NotesSenderless x port v) is notes in
      let x : WorldView = record t0 { ports = record t0.ports { noted = n.noted } } in
      subst (λ (y : WorldView). CanLoseAll y rights) (sym n.rest) (can_lose_turned rights x ready (later x (note_turned t0 ready v n)))

  destroyable_turned : CanDestroy w port → CanDestroy (with_turns w turns) port
  destroyable_turned c = record {
    waits =
        let x = c.waits in
        record {
          v = x.v;
          there = x.there;
          front = x.front;
          behind = x.behind;
          queue = x.queue;
          written = x.written;
          laid_out = x.laid_out;
          a_right_each = x.a_right_each;
          few = x.few;
          entered = x.entered;
          destination = x.destination;
          counted = x.counted;
          none_lost = record { lost = x.none_lost.lost; doomed = x.none_lost.doomed; destroyed = x.none_lost.destroyed };
        };
    later = λ t v takes notes.
        let t0 : WorldView = record w {
          ports = record (with_port w.ports port (record takes.v { queue = takes.behind; attributes = record takes.v.attributes { sequence = (takes.v.attributes.sequence + 1) % 2 ^ 32 } })) { spare = w.ports.spare + 1 };
          ledger = taken w.ledger port (destination_right takes.front) 1;
        } in
        let first : TakesFront w port t0 = record { v = takes.v; there = takes.there; front = takes.front; behind = takes.behind; queue = takes.queue; rest = refl } in
        let is : t ≡ with_turns t0 t.ports.ready = takes.rest ∙ ap (with_turns t0) (sym (ap (λ (x : WorldView). x.ports.ready) takes.rest)) in
        later_turned (option_to_list takes.front.reply ++ takes.front.rights) takes.front.by_once t0 t v t.ports.ready is notes (λ x n. c.later t0 x first n);
  }

pub destroyable_passed : (w new : WorldView) (waited : Waited) (port : ℕ) → PassesIn w waited port new → CanDestroy w port → CanDestroy new port
destroyable_passed w new waited port passes c = subst (λ (x : WorldView). CanDestroy x port) (sym (passes-in w new waited port passes)) (destroyable_turned w new.ports.ready port c)
