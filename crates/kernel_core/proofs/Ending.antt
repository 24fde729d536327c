-- The end of a step in tables: it makes slots only as they are needed.
use Rattle.std.proofs.Common.{◌≡◌, ℕ, ◌+◌, ◌≤◌, List, [], ◌∷◌, length, Option, Some, None, Ok, Err, refl, sym, ap, ◌∙◌, arith, true, false, inl, inr}
use Rattle.std.specs.Prelude.{max, is_some}
use Rattle.mach_types.specs.declared.calls.Event.{Event}
use Rattle.mach_types.specs.declared.calls.Reply.{Reply}
use Rattle.mach_types.specs.Messages.{Entry}
use Rattle.mach_model.specs.State.{State, queue}
use Rattle.mach_model.specs.Settles.{Settles}
use Rattle.mach_model.specs.Lawful.{IsLawful}
use Rattle.mach_laws.specs.Counts.{accepts, takes_from}
use Rattle.mach_laws.specs.Queued.{sum_below, waiting, queued, unused_onces, MakesAsNeeded}
use Rattle.mach_laws.proofs.Counted.{sum_same, Does-counted}
use Rattle.mach_laws.proofs.Slots.{ends_with_slots, ending_needs_all}
use Rattle.port.specs.Ports.{PortView}
use Rattle.rights.specs.Unused.{IsUnusedOfAll}
use Rattle.mach_types.specs.declared.codes.Code.{Code}
use Rattle.mach_types.specs.Codes.{code_number}
use Rattle.copyin_base.specs.Serving.{IsDone, Completes, Declines}
use Rattle.copyin_base.specs.Kept.{Kept}
use Rattle.copyin_base.specs.Shows.{AllKept, Shows}
use Rattle.copyin_base.specs.Stands.{Stands}
use Rattle.copyin_base.specs.Worlds.{WorldView, port_at}
use Rattle.copyin_base.proofs.Listed.{none_listed}
use Rattle.destroy.specs.Stages.{IsMidway, EndsIn, KeepsRooms, SettlesIn}
use Rattle.kernel_core.specs.Wanted.{UsesSlots, LeavesSlots, LeavesSpares, Spares}
use Rattle.kernel_core.proofs.Unused.{shown_unused, midway_unused}

-- ---- two states that the same tables show

kept_length : (p : ℕ) (ms : List Kept) (es : List Entry) → AllKept p ms es → length ms ≡ length es
kept_length p [] [] all = refl
kept_length p (m ∷ ms) (e ∷ es) all = let h = kept_length p ms es all.1 in omega (arith, h)
kept_length p [] (e ∷ es) all = absurd all
kept_length p (m ∷ ms) [] all = absurd all

module _ (w : WorldView) (s t : State) (a : Shows w s) (b : Shows w t) where
  same_waiting : (p : ℕ) (o : Option (PortView Kept)) → port_at w p ≡ o → waiting s p ≡ waiting t p
  same_waiting p None is =
      let c : s.live_port p ≡ false = sym (a.agrees.live_port p) ∙ ap is_some is in
      let d : t.live_port p ≡ false = sym (b.agrees.live_port p) ∙ ap is_some is in
      rw (c, d) refl
  same_waiting p (Some v) is =
      let c : s.live_port p ≡ true = sym (a.agrees.live_port p) ∙ ap is_some is in
      let d : t.live_port p ≡ true = sym (b.agrees.live_port p) ∙ ap is_some is in
      let e = kept_length p v.queue (queue s p) (a.agrees.ports p v is).waiting in
      let f = kept_length p v.queue (queue t p) (b.agrees.ports p v is).waiting in
      rw (c, d) (omega (arith, e, f))

  same_queued : queued s ≡ queued t
  same_queued =
      sum_same (waiting t) (waiting s) s.ports_made (λ p within. same_waiting p (port_at w p) refl) ∙ ap (sum_below (waiting t)) (sym a.agrees.ports_made ∙ b.agrees.ports_made)

-- ---- slots

module _ (old w new : WorldView) (event : Event) (reply : Reply) where
  -- from a state that the tables show, with an end of the step from the state midway
  step_slots : (now : ℕ) (s u : State) (d : IsDone now old s event reply w) (turns : ℕ) → IsLawful s → UsesSlots old event reply (length d.owed) w → IsUnusedOfAll w.ledger →
      Settles now s d.mid d.owed u → EndsIn s d.mid d.owed u w turns new → MakesAsNeeded old.ports.spare new.ports.spare s u
  step_slots now s u d turns l uses all x e = go uses
    where
      counted : queued d.mid + takes_from event reply ≡ queued s + accepts event reply
      counted = Does-counted now s event reply d.mid d.owed l d.unrefused d.does d.judged

      made : new.ports.spare + queued u ≤ w.ports.spare + queued d.mid + length d.owed
      made = ends_with_slots now s d.mid d.owed e.ending u d.shows.lawful e.reached e.done x w.ports.spare new.ports.spare e.slots

      go : UsesSlots old event reply (length d.owed) w → new.ports.spare + queued u ≤ max (old.ports.spare + queued s) (queued u + unused_onces u)
      go (inl few) = omega (arith, counted, made, few)
      go (inr (few, none)) =
          let needs = ending_needs_all now s d.mid d.owed u d.shows.lawful x (λ p o. none_listed w.ports.lost none p (d.shows.left.orphans p o)) in
          let midway = midway_unused now old w d.mid d.owed d.shows all in
          omega (arith, made, needs, few, midway)

  acted_slots : (turns : ℕ) → Completes old event reply w → SettlesIn w turns new → LeavesSlots old event (Ok reply) w → IsUnusedOfAll old.ledger → IsUnusedOfAll w.ledger → IsUnusedOfAll new.ledger →
      (s t : State) → Shows old s → Shows new t → MakesAsNeeded old.ports.spare new.ports.spare s t
  acted_slots turns a settles leaves before all after s t sh later =
      let d = a.acts 0 s sh in
      let e = settles 0 old s d.mid d.owed sh d.shows in
      let needs = step_slots 0 s e.0 d turns sh.lawful (leaves before all 0 s sh d) all e.1 e.3 in
      let same = same_queued new e.0 t e.2 later in
      let one = shown_unused new e.0 e.2 after in
      let two = shown_unused new t later after in
      omega (arith, needs, same, one, two)

-- ---- what a step keeps

pub acted_spares : (old w new : WorldView) (event : Event) (reply : Reply) (turns : ℕ) → Stands old → Completes old event reply w → SettlesIn w turns new → KeepsRooms w new → LeavesSpares old event (Ok reply) w →
    IsUnusedOfAll old.ledger → IsUnusedOfAll w.ledger → IsUnusedOfAll new.ledger → Spares old event reply new
acted_spares old w new event reply turns stands a settles rooms leaves before all after = record {
  rooms = λ task. let few = leaves.rooms task in let less = few.2 in let same = rooms task in (few.0, few.1, omega (arith, less, same));
  slots = acted_slots old w new event reply turns a settles leaves.slots before all after;
}

pub declined_spares : (old new : WorldView) (event : Event) (code : Code) (reply : Reply) → Declines old event (code_number code) new → LeavesSpares old event (Err code) new → IsUnusedOfAll new.ledger → Spares old event reply new
declined_spares old new event code reply d leaves all = record {
  rooms = λ task. let few = leaves.rooms task in (few.0, elim few.1 [ inl one ↦ inl one | inr h ↦ absurd (let ok : Err code ≡ Ok (Reply.Message h.bytes) = h.answer in cc) ], few.2);
  slots = λ s t sh later.
      let same = same_queued new s t (d.shows s sh) later in
      let needs = shown_unused new t later all in
      let few = leaves.slots in
      omega (arith, few, same, needs);
}

-- ---- midway

pub is_midway : (old w : WorldView) (event : Event) (reply : Reply) → Stands old → Completes old event reply w → IsMidway w
is_midway old w event reply stands a =
    let d = a.acts 0 stands.state stands.shown in
    record { now = 0; tables = old; old = stands.state; mid = d.mid; owed = d.owed; shown = stands.shown; shows = d.shows }
