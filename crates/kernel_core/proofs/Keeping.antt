-- What a call keeps, and which code it tells of want of memory by, made of what its parts promise.
use Rattle.std.proofs.Common.{◌≡◌, ◌≢◌, ℕ, ◌+◌, ◌<◌, ◌≤◌, List, [], length, Result, Ok, Err, IfErr, refl, sym, ap, subst, ◌∙◌, arith, inl, inr}
use Rattle.std.specs.Prelude.{max, OnOk, OnErr}
use Rattle.std.proofs.lemmas.Bool.Decides.{eqb_tells, leb_tells}
use Rattle.mach_types.specs.declared.calls.Event.{Event}
use Rattle.mach_types.specs.declared.calls.Reply.{Reply}
use Rattle.mach_types.specs.declared.touched.Touched.{Touched}
use Rattle.mach_types.specs.declared.codes.KernReturn.TheVariants.{InvalidTask, ResourceShortage}
use Rattle.mach_types.specs.Codes.{kern_number, code_number}
use Rattle.mach_model.specs.State.{State}
use Rattle.mach_model.specs.Notices.{Owed}
use Rattle.mach_model.specs.Acts.{Does}
use Rattle.mach_model.proofs.Midway.{LosesNone}
use Rattle.mach_model.proofs.StepReceives.{Does-receives}
use Rattle.mach_laws.specs.Counts.{accepts, MayNeedSlots}
use Rattle.mach_laws.proofs.Counted.{Does-counted}
use Rattle.mach_laws.proofs.Onces.{part_needs, request_needs}
use Rattle.mach_types.specs.declared.codes.Code.{Code}
use Rattle.mach_types.specs.declared.codes.Code.TheVariants.{Kern}
use Rattle.copyin_base.specs.Serving.{IsDone, Completes, Declines, Serves}
use Rattle.copyin_base.specs.Shows.{Shows}
use Rattle.copyin_base.specs.Stands.{Stands}
use Rattle.copyin_base.specs.Wanted.{KeepsSpares, UsesSpares, room_of}
use Rattle.copyin_base.specs.Worlds.{WorldView}
use Rattle.copyin_base.proofs.Listed.{listed_none}
use Rattle.copyin_base.proofs.Spares.{keeps_refl, keeps_same}
use Rattle.rights.specs.Unused.{IsUnusedOfAll}
use Rattle.notifications.specs.declared.request.Asked.{Asked}
use Rattle.notifications.specs.Wanted.{WantsToRequest, LeavesRequest, LeavesSlots as AskedSlots}
use Rattle.kernel_core.specs.InTurn.{KeepsTurns, told_by}
use Rattle.message_send.specs.Send.{UsesSlot}
use Rattle.kernel_core.specs.Touching.{RefusalTouchesNone}
use Rattle.transfer.specs.Room.{MakesSlots}
use Rattle.kernel_core.specs.Wanted.{memory_code, WantsMemory, Wanted, UsesSlots, LeavesRooms, LeavesSlots, LeavesSpares, Performs}
use Rattle.kernel_core.proofs.Taking.{IsNoReceipt, other_turns, other_takes}
use Rattle.kernel_core.proofs.Unused.{shown_unused, midway_unused}

-- ---- codes

-- it is told neither as success nor as a task that isn't there
code_apart : (event : Event) → (0 < memory_code event) × (memory_code event ≢ kern_number InvalidTask)
code_apart (Event.Send task bytes) = (omega arith, λ e. omega (arith, e))
code_apart (Event.Receive task name room large) = (omega arith, λ e. omega (arith, e))
code_apart (Event.ReceiveAgain task waited room large) = (omega arith, λ e. omega (arith, e))
code_apart event = (omega arith, λ e. omega (arith, e))

-- what is done is told by 0, or by another reply than a code
does_zero : (now : ℕ) (s : State) (event : Event) (code : ℕ) (mid : State) (owed : Owed) → Does now s event (Reply.Code code) mid owed → code ≡ 0
does_zero now s (Event.TaskTerminate task) code mid owed d = d.0
does_zero now s (Event.Deallocate task name) code mid owed d = d.0
does_zero now s (Event.Destroy task name) code mid owed d = d.0
does_zero now s (Event.ModRefs task name right delta) code mid owed d = d.0
does_zero now s (Event.Rename task o n) code mid owed d = d.0
does_zero now s (Event.SetQlimit task name n) code mid owed d = d.0
does_zero now s (Event.SetMscount task name n) code mid owed d = d.0
does_zero now s (Event.SetSeqno task name n) code mid owed d = d.0
does_zero now s (Event.MoveMember task member after) code mid owed d = d.0
does_zero now s (Event.InsertMember task member set) code mid owed d = d.0
does_zero now s (Event.ExtractMember task member set) code mid owed d = d.0
does_zero now s (Event.InsertRight task name from poly number) code mid owed d = d.0
does_zero now s (Event.Send task bytes) code mid owed d = d.0
does_zero now s (Event.Receive task name room large) code mid owed d = absurd d.2
does_zero now s event code mid owed d = absurd d

same_code : (a b : ℕ) → Reply.Code a ≡ Reply.Code b → a ≡ b
same_code a b e = cc

pub done_wanted : (w : WorldView) (event : Event) (reply : Reply) (new : WorldView) → Stands w → Completes w event reply new → Wanted w event reply
done_wanted w event reply new stands a = record {
  wanted = λ is. absurd (
      let d = a.acts 0 stands.state stands.shown in
      let zero = does_zero 0 stands.state event (memory_code event) d.mid d.owed (subst (λ (r : Reply). Does 0 stands.state event r d.mid d.owed) is d.does) in
      let some = (code_apart event).0 in omega (arith, zero, some));
}

-- what is done is no refusal
pub done_refuses_none : (w : WorldView) (event : Event) (reply : Reply) (new : WorldView) (touched : Touched) → Stands w → Completes w event reply new → RefusalTouchesNone reply touched
done_refuses_none w event reply new touched stands a = λ code is failed. absurd (
    let d = a.acts 0 stands.state stands.shown in
    failed (does_zero 0 stands.state event code d.mid d.owed (subst (λ (r : Reply). Does 0 stands.state event r d.mid d.owed) is d.does)))

pub refused_wanted : (w : WorldView) (event : Event) (code : ℕ) → (code ≡ memory_code event → WantsMemory w event) → Wanted w event (Reply.Code code)
refused_wanted w event code wants = record { wanted = λ is. wants (same_code code (memory_code event) is) }

-- where memory may always be wanted
pub always_wants : (result : Result Reply Code) (P : Code → Type 0) → IfErr result (λ code. P code → Unit {0})
always_wants (Ok reply) P = tt
always_wants (Err code) P = λ is. tt

-- ---- what is owed

-- These calls owe no notice.
abbrev pub OwesNone : Event → Type 0
OwesNone (Event.TaskTerminate task) = ⊥
OwesNone (Event.Deallocate task name) = ⊥
OwesNone (Event.Destroy task name) = ⊥
OwesNone (Event.ModRefs task name right delta) = ⊥
OwesNone (Event.RequestNotification task name variant sync notify number) = ⊥
OwesNone (Event.Receive task name room large) = ⊥
OwesNone (Event.ReceiveAgain task waited room large) = ⊥
OwesNone event = Unit {0}

owes_none : (now : ℕ) (old : State) (event : Event) (reply : Reply) (mid : State) (owed : Owed) → OwesNone event → Does now old event reply mid owed → owed ≡ []
owes_none now old Event.TaskCreate (Reply.Task task) mid owed none d = d.1
owes_none now old (Event.TaskTerminate task) reply mid owed none d = absurd none
owes_none now old (Event.Allocate task right) (Reply.Name name) mid owed none d = d.2
owes_none now old (Event.AllocateName task right name) (Reply.Name told) mid owed none d = d.2
owes_none now old (Event.Deallocate task name) reply mid owed none d = absurd none
owes_none now old (Event.Destroy task name) reply mid owed none d = absurd none
owes_none now old (Event.ModRefs task name right delta) reply mid owed none d = absurd none
owes_none now old (Event.GetRefs task name right) (Reply.Refs n) mid owed none d = d.1
owes_none now old (Event.NameType task name) (Reply.NameType n) mid owed none d = d.1
owes_none now old (Event.Names task) (Reply.Names entries) mid owed none d = d.1
owes_none now old (Event.Rename task o n) (Reply.Code code) mid owed none d = d.2
owes_none now old (Event.ReceiveStatus task name) (Reply.Status status) mid owed none d = d.1
owes_none now old (Event.SetQlimit task name n) (Reply.Code code) mid owed none d = d.2
owes_none now old (Event.SetMscount task name n) (Reply.Code code) mid owed none d = d.3
owes_none now old (Event.SetSeqno task name n) (Reply.Code code) mid owed none d = d.3
owes_none now old (Event.SetStatus task name) (Reply.Members members) mid owed none d = d.1
owes_none now old (Event.MoveMember task member after) (Reply.Code code) mid owed none d = d.2
owes_none now old (Event.InsertMember task member set) (Reply.Code code) mid owed none d = d.2
owes_none now old (Event.ExtractMember task member set) (Reply.Code code) mid owed none d = d.2
owes_none now old (Event.InsertRight task name from poly number) (Reply.Code code) mid owed none d = d.2
owes_none now old (Event.ExtractRight task name number to) (Reply.Right new_name kind) mid owed none d = d.1
owes_none now old (Event.RequestNotification task name variant sync notify number) reply mid owed none d = absurd none
owes_none now old (Event.Send task bytes) (Reply.Code code) mid owed none d = d.2
owes_none now old (Event.Receive task name room large) reply mid owed none d = absurd none
owes_none now old (Event.ReceiveAgain task waited room large) reply mid owed none d = absurd none
owes_none now old event reply mid owed none d = absurd d

-- it posts none
pub posts_none : (now : ℕ) (old : WorldView) (s : State) (event : Event) (reply : Reply) (new : WorldView) → OwesNone event → (d : IsDone now old s event reply new) → length d.owed ≡ 0
posts_none now old s event reply new none d = ap length (owes_none now s event reply d.mid d.owed none d.does)

-- ---- room and slots

at_most_one : (event : Event) (reply : Reply) → accepts event reply ≤ 1
at_most_one (Event.Send task bytes) (Reply.Code code) = elim (eqb_tells code 0) [
  | inl h ↦ rw h.0 (omega arith)
  | inr h ↦ rw h.0 (omega arith)
]
at_most_one event reply = omega arith

-- no port is lost where no right is
lost_none : (now : ℕ) (old : WorldView) (s : State) (event : Event) (reply : Reply) (new : WorldView) → Shows old s → LosesNone s event reply → IsDone now old s event reply new → new.ports.lost ≡ []
lost_none now old s event reply new sh none d =
    let unlost = Does-receives now s event reply d.mid d.owed none d.unrefused d.does sh.lawful in
    listed_none new.ports.lost (λ p c. unlost p (d.shows.left.lost p c))

-- slots were made, so far
made_slots : (now : ℕ) (old : WorldView) (s : State) (event : Event) (reply : Reply) (new : WorldView) → Shows old s → OwesNone event → LosesNone s event reply →
    new.ports.spare + accepts event reply ≤ max old.ports.spare (new.ledger.unused + accepts event reply) → (d : IsDone now old s event reply new) → UsesSlots old event reply (length d.owed) new
made_slots now old s event reply new sh owes none few d =
    let z = posts_none now old s event reply new owes d in
    elim (leb_tells new.ports.spare new.ledger.unused) [
      | inl h ↦ inr (let a = h.1 in omega (arith, a), lost_none now old s event reply new sh none d)
      | inr h ↦ inl (let a = h.1 in omega (arith, a, few, z))
    ]

-- room for one name more is left at most
pub one_left : (old : WorldView) (event : Event) (result : Result Reply Code) (new : WorldView) → ((task : ℕ) → room_of new task ≤ max (room_of old task) 1) → LeavesRooms old event result new
one_left old event result new few task = (1, inl refl, few task)

spared : (old : WorldView) (event : Event) (result : Result Reply Code) (new : WorldView) → KeepsSpares old new → OwesNone event → ((reply : Reply) → accepts event reply ≡ 0) → LeavesSpares old event result new
spared old event result new k owes none = record { rooms = one_left old _ _ new k.rooms; slots = kept result }
  where
    kept : (r : Result Reply Code) → LeavesSlots old event r new
    kept (Ok reply) = λ before after now s sh d. inl (let s' = k.slots in let a = none reply in let z = posts_none now old s event reply new owes d in omega (arith, s', a, z))
    kept (Err code) = let s' = k.slots in omega (arith, s')

-- a right that was lost, and may have paid for a notice
used_spares : (old : WorldView) (event : Event) (result : Result Reply Code) (new : WorldView) → UsesSpares old new → ¬ (MayNeedSlots event) → LeavesSpares old event result new
used_spares old event result new u few = record { rooms = one_left old _ _ new u.rooms; slots = used result }
  where
    used : (r : Result Reply Code) → LeavesSlots old event r new
    used (Ok reply) = λ before after now s sh d. inl (
        let part = part_needs now s event reply d.mid d.owed sh.lawful d.unrefused d.does d.judged few in
        let counted = Does-counted now s event reply d.mid d.owed sh.lawful d.unrefused d.does d.judged in
        let was = shown_unused old s sh before in
        let is = midway_unused now old new d.mid d.owed d.shows after in
        let spare = u.slots in omega (arith, part, counted, was, is, spare))
    used (Err code) = let spare = u.slots in let less = u.fewer in omega (arith, spare, less)

-- a refusal that leaves the tables
pub refused_spares : (old : WorldView) (event : Event) (code : Code) (new : WorldView) → KeepsSpares old new → LeavesSpares old event (Err code) new
refused_spares old event code new k = record { rooms = one_left old _ _ new k.rooms; slots = let s' = k.slots in omega (arith, s') }

-- a right that was handed on
pub handed_spares : (old : WorldView) (event : Event) (result : Result Reply Code) (new : WorldView) → MakesSlots old new → ((reply : Reply) → accepts event reply ≡ 0) →
    ((s : State) (reply : Reply) → LosesNone s event reply) → OwesNone event → LeavesSpares old event result new
handed_spares old event result new k none loses owes = record { rooms = one_left old _ _ new k.rooms; slots = kept result }
  where
    kept : (r : Result Reply Code) → LeavesSlots old event r new
    kept (Ok reply) = λ before after now s sh d. made_slots now old s event reply new sh owes (loses s reply) (let m = k.slots in let a = none reply in omega (arith, m, a)) d
    kept (Err code) = k.slots

pub sent_spares : (old : WorldView) (task : ℕ) (bytes : List ℕ) (result : Result Reply Code) (new : WorldView) →
    OnOk result (UsesSlot old new) → OnErr result (new ≡ old) → LeavesSpares old (Event.Send task bytes) result new
sent_spares old task bytes (Ok reply) new uses same = record {
  rooms = one_left old _ (Ok reply) new (λ task. let e = uses.rooms task in omega (arith, e));
  slots = λ before after now s sh d. made_slots now old s (Event.Send task bytes) reply new sh tt tt (let u = uses.slots in let one = at_most_one (Event.Send task bytes) reply in omega (arith, u, one)) d;
}
sent_spares old task bytes (Err code) new uses same = refused_spares old (Event.Send task bytes) code new (keeps_same old new same)

-- the call that asks so
abbrev pub asks : (task name : ℕ) → Asked → Event
asks task name a = Event.RequestNotification task name a.variant a.sync a.notify a.disposition

-- ---- a call

-- a call that accepts no message
pub carried : (old : WorldView) (event : Event) (result : Result Reply Code) (new : WorldView) → Serves old event result new →
    IfErr result (λ code. code_number code ≡ memory_code event → WantsMemory old event) → KeepsSpares old new → OwesNone event → ((reply : Reply) → accepts event reply ≡ 0) → IsNoReceipt event → Performs old event result new
carried old event result new serves wanted keeps owes none other = record {
  serves = serves;
  wanted = wanted;
  spares = spared old event result new keeps owes none;
  turns = other_turns old event (told_by result) new other;
  takes = other_takes old event result new other serves;
}

-- a call that loses a right
pub lost : (old : WorldView) (event : Event) (result : Result Reply Code) (new : WorldView) → Serves old event result new →
    IfErr result (λ code. code_number code ≡ memory_code event → WantsMemory old event) → UsesSpares old new → ¬ (MayNeedSlots event) → IsNoReceipt event → Performs old event result new
lost old event result new serves wanted uses few other = record {
  serves = serves;
  wanted = wanted;
  spares = used_spares old event result new uses few;
  turns = other_turns old event (told_by result) new other;
  takes = other_takes old event result new other serves;
}

-- a call that hands a right on
pub handed_on : (old : WorldView) (event : Event) (result : Result Reply Code) (new : WorldView) → Serves old event result new →
    IfErr result (λ code. code_number code ≡ memory_code event → WantsMemory old event) → MakesSlots old new → ((reply : Reply) → accepts event reply ≡ 0) →
    ((s : State) (reply : Reply) → LosesNone s event reply) → OwesNone event → IsNoReceipt event → Performs old event result new
handed_on old event result new serves wanted keeps none loses owes other = record {
  serves = serves;
  wanted = wanted;
  spares = handed_spares old event result new keeps none loses owes;
  turns = other_turns old event (told_by result) new other;
  takes = other_takes old event result new other serves;
}

-- a request for a notice
asked_slots : (old : WorldView) (task name : ℕ) (a : Asked) (reply : Reply) (new : WorldView) (now : ℕ) (s : State) → Shows old s → IsUnusedOfAll old.ledger → IsUnusedOfAll new.ledger →
    AskedSlots old a (Ok reply) new → (d : IsDone now old s (asks task name a) reply new) → UsesSlots old (asks task name a) reply (length d.owed) new
asked_slots old task name a (Reply.Previous previous) new now s sh before after slots d = elim slots.0 [
  | inl few ↦ inl (
      let part = request_needs now s task name a.variant a.sync a.notify a.disposition previous d.mid d.owed sh.lawful d.unrefused d.does d.judged in
      let counted = Does-counted now s (asks task name a) (Reply.Previous previous) d.mid d.owed sh.lawful d.unrefused d.does d.judged in
      let was = shown_unused old s sh before in
      let is = midway_unused now old new d.mid d.owed d.shows after in omega (arith, part, counted, was, is, few))
  | inr few ↦ inr (few, slots.1 ∙ sh.idle.none_lost.lost)
]
asked_slots old task name a reply new now s sh before after slots d = absurd d.does

asked_spares : (old : WorldView) (task name : ℕ) (a : Asked) (result : Result Reply Code) (new : WorldView) → LeavesRequest old a result new → LeavesSpares old (asks task name a) result new
asked_spares old task name a (Ok reply) new l = record { rooms = one_left old _ _ new l.rooms; slots = λ before after now s sh d. asked_slots old task name a reply new now s sh before after l.slots d }
asked_spares old task name a (Err code) new l = record { rooms = one_left old _ _ new l.rooms; slots = l.slots }

pub asked : (old : WorldView) (task name : ℕ) (a : Asked) (result : Result Reply Code) (new : WorldView) → Serves old (asks task name a) result new →
    IfErr result (λ code. code_number code ≡ kern_number ResourceShortage → WantsToRequest old task name a) → LeavesRequest old a result new → Performs old (asks task name a) result new
asked old task name a result new serves wanted leaves =
    record { serves = serves; wanted = wanted; spares = asked_spares old task name a result new leaves; turns = tt; takes = other_takes old (asks task name a) result new tt serves }

-- a refusal that leaves the tables
refused_turns : (w : WorldView) (event : Event) (code : ℕ) → KeepsTurns w event (Reply.Code code) w
refused_turns w (Event.Receive task name room large) code = refl
refused_turns w (Event.ReceiveAgain task waited room large) code = refl
refused_turns w event code = tt

-- one of the tasks isn't there
pub no_task : (w : WorldView) (event : Event) → Declines w event (kern_number InvalidTask) w → Performs w event (Err (Kern InvalidTask)) w
no_task w event declines = record {
  serves = declines;
  wanted = λ is. absurd ((code_apart event).1 (sym is));
  spares = refused_spares w event (Kern InvalidTask) w (keeps_refl w);
  turns = refused_turns w event (kern_number InvalidTask);
  takes = tt;
}
