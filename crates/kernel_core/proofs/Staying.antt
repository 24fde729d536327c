-- Where a receipt may be refused for want of memory: a message that it may take stays for that alone.
use Rattle.std.proofs.Common.{◌≡◌, ℕ, ◌<◌, zero, suc, List, [], ◌∷◌, ◌++◌, Option, Some, None, Bool, true, false, refl, sym, ap, subst, ◌∙◌, inl, inr, arith, length}
use Rattle.std.specs.Prelude.{MatchBool, Contains, nat_lt}
use Rattle.std.specs.FinMap as map
use Rattle.std.proofs.lemmas.List.Elements.{Contains-push_cases}
use Rattle.mach_types.specs.declared.calls.Event.{Event}
use Rattle.mach_types.specs.declared.calls.Waited.{Waited}
use Rattle.mach_types.specs.declared.codes.MsgReturn.TheVariants.{ReceiveBodyErrorMemory}
use Rattle.mach_types.specs.Codes.{msg_number}
use Rattle.mach_types.specs.Messages.{Entry as LogEntry}
use Rattle.mach_types.specs.Tokens.{in_message}
use Rattle.mach_model.specs.State.{State}
use Rattle.mach_model.specs.Room.{MessageLacks}
use Rattle.mach_model.specs.ReceiptRefusals.{ReceiptRefuses}
use Rattle.mach_model.specs.ReceivedMeans.{message_length}
use Rattle.mach_model.specs.Refusals.{again_guards}
use Rattle.mach_laws.proofs.Playing.{one_waited}
use Rattle.mach_laws.proofs.Deciding.{one_entry, no_front}
use Rattle.port.specs.Ports.{PortView, PortsView, IsIn, sets_in}
use Rattle.copyin_base.specs.Serving.{IsRefused, IsAllowed}
use Rattle.copyin_base.specs.Kept.{Kept}
use Rattle.copyin_base.specs.Shows.{Shows}
use Rattle.copyin_base.specs.Stands.{Stands}
use Rattle.copyin_base.specs.Worlds.{WorldView, HasTask, port_at}
use Rattle.copyin_base.proofs.Acting.{tasks_live}
use Rattle.copyin_base.proofs.Told.{port_there}
use Rattle.copyout.specs.Ready.{HasFront, Waits, IsRefusedBy}
use Rattle.copyout.specs.declared.receipt.Refusal.TheVariants.{Memory}
use Rattle.copyout.proofs.Fronts.{shown_empty, shown_front, shown_is_front, kept_length, names_lack, waits}
use Rattle.kernel_core.specs.MemoryCodes.{NeverRefuses, TellsWant, NeverStays, IsReceivable}
use Rattle.kernel_core.specs.Receive.{named_guards, Sources, StaysFor, IsOf, IsFrom}
use Rattle.kernel_core.proofs.Lacking.{never_guarded, never_later}
use Rattle.kernel_core.proofs.Receiving.{sources_good, live, from_held, from_of, stays_for_memory}
use Rattle.receive_right.proofs.Holding.{held_lives}

-- ---- a port

abbrev Code : ℕ
Code = msg_number ReceiveBodyErrorMemory

first_of : (ms : List Kept) → 0 < length ms → (m : Kept) × (behind : List Kept) × (ms ≡ m ∷ behind)
first_of [] some = absurd (omega (arith, some))
first_of (m ∷ ms) some = (m, ms, refl)

-- a message in front waits
module _ (w : WorldView) (port n : ℕ) (live : (v : PortView Kept) → port_at w port ≡ Some v → n ≡ length v.queue) (gone : port_at w port ≡ None → n ≡ 0) (some : 0 < n) where
  pub fronted : (m : Kept) × HasFront w port m
  fronted = go (port_at w port) refl
    where
      go : (o : Option (PortView Kept)) → port_at w port ≡ o → (m : Kept) × HasFront w port m
      go (Some v) e =
          let many = live v e in
          let f = first_of v.queue (omega (arith, many, some)) in
          (f.0, record { v = v; there = e; behind = f.1; queue = f.2 })
      go None e = absurd (let none = gone e in omega (arith, none, some))

  pub fronted_waits : Stands w → Waits w port
  fronted_waits stands = let f = fronted.1 in waits w stands.state stands.shown port f.v f.there fronted.0 f.behind f.queue

-- what is told of it
module _ (w : WorldView) (task port room : ℕ) where
  pub unfronted : ((v : PortView Kept) → port_at w port ≡ Some v → length v.queue ≡ 0) → ¬ (IsReceivable w task port room)
  unfronted none r =
      let f = r.waits in
      let e = none f.v f.there in
      let l : length f.v.queue ≡ suc (length f.behind) = ap (λ (ms : List Kept). length ms) f.queue in omega (arith, e, l)

  pub receivable : (m : Kept) → HasFront w port m → (b : Bool) → ((now : Kept) → HasFront w port now → MatchBool b (IsRefusedBy w task now room Memory) (¬ (IsRefusedBy w task now room Memory))) →
      MatchBool b (IsReceivable w task port room) (¬ (IsReceivable w task port room))
  receivable m f true each = record { front = m; waits = f; only = each m f }
  receivable m f false each = λ r. each r.front r.waits r.only

-- the same, by how many messages are queued
module _ (w : WorldView) (port : ℕ) (ports : PortsView Kept) (same : ports ≡ w.ports) (n : ℕ) (live : (v : PortView Kept) → map.get ports.ports port ≡ Some v → n ≡ length v.queue) where
  same_port : map.get ports.ports port ≡ port_at w port
  same_port = ap (λ (x : PortsView Kept). map.get x.ports port) same

  live_here : (v : PortView Kept) → port_at w port ≡ Some v → n ≡ length v.queue
  live_here v there = live v (same_port ∙ there)

  pub unfronted_by : (task room : ℕ) → n ≡ 0 → ¬ (IsReceivable w task port room)
  unfronted_by task room none = unfronted w task port room (λ v there. let e = live_here v there in omega (arith, e, none))

  module _ (gone : map.get ports.ports port ≡ None → n ≡ 0) (some : 0 < n) where
    pub fronted_by : Stands w → Waits w port
    fronted_by stands = fronted_waits w port n live_here (λ e. gone (same_port ∙ e)) some stands

    pub receivable_by : (task room : ℕ) (b : Bool) → ((now : Kept) → HasFront w port now → MatchBool b (IsRefusedBy w task now room Memory) (¬ (IsRefusedBy w task now room Memory))) →
        MatchBool b (IsReceivable w task port room) (¬ (IsReceivable w task port room))
    receivable_by task room b each = let f = fronted w port n live_here (λ e. gone (same_port ∙ e)) some in receivable w task port room f.0 f.1 b each

-- none is queued
pub not_queued : {P : Type 0} (n : ℕ) → n ≡ 0 → ¬ P → MatchBool (nat_lt 0 n) P (¬ P)
not_queued zero is not = not
not_queued (suc n) is not = absurd (omega (arith, is))

-- one port more has none
pub none_more : (w : WorldView) (task room : ℕ) (before : List ℕ) (port : ℕ) → ((p : ℕ) → Contains before p → ¬ (IsReceivable w task p room)) → ¬ (IsReceivable w task port room) →
    (p : ℕ) → Contains (before ++ port ∷ []) p → ¬ (IsReceivable w task p room)
none_more w task room before port none not p c r = elim (Contains-push_cases before port p c) [
  | inl h ↦ none p h r
  | inr is ↦ not (subst (λ (n : ℕ). IsReceivable w task n room) (sym is) r)
]

-- ---- what is waited for

module _ (w : WorldView) (task : ℕ) (below : HasTask w task) (waited : Waited) (good : IsAllowed w (λ s. again_guards s task waited)) (room : ℕ) where
  -- a message that only want of memory keeps from the task stays for it
  pub stays : (port : ℕ) → IsFrom w waited port → IsReceivable w task port room → StaysFor w task waited room Code
  stays port from r = stays_for_memory w task below waited good room port from r.front r.waits r.only.0 r.only.1

  -- and where one stays, it is such a message
  stayed : (s : State) → Shows w s → ReceiptRefuses s task waited room Code → (port : ℕ) × (v : PortView Kept) × (port_at w port ≡ Some v) × IsOf waited port v × IsReceivable w task port room
  stayed s sh r =
      let found = port_there w s sh.agrees r.port (held_lives s sh.lawful task r.port (from_held w s sh task waited r.port r.from)) in
      (r.port, found.0, found.1, from_of w s sh task waited r.port r.from found.0 found.1, go found.0 found.1 found.0.queue refl)
    where
      go : (v : PortView Kept) → port_at w r.port ≡ Some v → (ms : List Kept) → v.queue ≡ ms → IsReceivable w task r.port room
      go v there [] e = absurd (no_front s r.port r.e (shown_empty w s sh.agrees r.port v there e) r.front)
      go v there (m ∷ behind) e =
          let front = shown_front w s sh.agrees r.port v there m behind e in
          let same : front.first ≡ r.e = one_entry _ front.first r.e (shown_is_front w s sh.agrees r.port v there m behind e) r.front in
          let long : message_length r.e.message ≡ length m.bytes = ap (λ (x : LogEntry). message_length x.message) (sym same) ∙ kept_length r.port m front.first.message front.keeps in
          let fits = r.fits in
          record {
            front = m;
            waits = record { v = v; there = there; behind = behind; queue = e };
            only = (
              omega (arith, long, fits),
              (λ lack. elim r.refused [
                | inl g ↦ let f = g.1 in omega (arith, f)
                | inr g ↦ g.0 (subst (λ (x : LogEntry). MessageLacks task (in_message r.port (s.taken r.port)) x.message s) same (names_lack w s sh task r.port (live w task below waited good room s sh) v there m behind e lack))
              ]),
            );
          }

  pub never_stays : ((port : ℕ) (v : PortView Kept) → port_at w port ≡ Some v → IsOf waited port v → ¬ (IsReceivable w task port room)) → NeverStays w task waited room
  never_stays none = record { never = λ s sh r. let x = stayed s sh r in none x.0 x.1 x.2 x.3 x.4 }

-- of a port
module _ (w : WorldView) (task : ℕ) (below : HasTask w task) (port room : ℕ) (good : IsAllowed w (λ s. again_guards s task (Waited.Port port))) where
  pub told_port : (b : Bool) → MatchBool b (IsReceivable w task port room) (¬ (IsReceivable w task port room)) →
      MatchBool b (StaysFor w task (Waited.Port port) room Code) (NeverStays w task (Waited.Port port) room)
  told_port true r = stays w task below (Waited.Port port) good room port (record { v = r.waits.v; there = r.waits.there; is_of = refl }) r
  told_port false not = never_stays w task below (Waited.Port port) good room (λ p v there is r. not (subst (λ (n : ℕ). IsReceivable w task n room) is r))

-- of a set, by its members
module _ (w : WorldView) (task : ℕ) (below : HasTask w task) (set room : ℕ) (good : IsAllowed w (λ s. again_guards s task (Waited.Set set))) (ports : PortsView Kept) (same : ports ≡ w.ports)
    (members : List ℕ) (only : (port : ℕ) → Contains members port → IsIn ports set port)
    (all : (port : ℕ) (p : PortView Kept) → map.get ports.ports port ≡ Some p → Contains (sets_in p) set → Contains members port) where
  at : (port : ℕ) → map.get ports.ports port ≡ port_at w port
  at port = ap (λ (x : PortsView Kept). map.get x.ports port) same

  pub told_set : (b : Bool) → MatchBool b ((port : ℕ) × Contains members port × IsReceivable w task port room) ((port : ℕ) → Contains members port → ¬ (IsReceivable w task port room)) →
      MatchBool b (StaysFor w task (Waited.Set set) room Code) (NeverStays w task (Waited.Set set) room)
  told_set true (port, member, r) =
      let i = only port member in
      stays w task below (Waited.Set set) good room port (record { v = i.view; there = sym (at port) ∙ i.there; is_of = i.member }) r
  told_set false none = never_stays w task below (Waited.Set set) good room (λ p v there is. none p (all p v (at p ∙ there) is))

-- ---- the calls

module _ (w : WorldView) (task room : ℕ) (below : HasTask w task) where
  module _ (name : ℕ) where
    pub never_named : (code : ℕ) → IsRefused w (λ s. named_guards s task name) code → (large : Bool) → NeverRefuses w (Event.Receive task name room large) Code
    never_named code r large = never_guarded w (Event.Receive task name room large) code record { refused = λ s sh. r.refused s sh }

    pub told_named : (waited : Waited) → Sources w task name waited → (b : Bool) → MatchBool b (StaysFor w task waited room Code) (NeverStays w task waited room) →
        (large : Bool) → TellsWant w (Event.Receive task name room large) b
    told_named waited x true stays large = record {
      refuses = λ s sh. inr ((tasks_live w s sh.agrees (Event.Receive task name room large) below, (sources_good w task name waited x).allowed s sh), (waited, x.waits s sh, stays.refuses s sh));
    }
    told_named waited x false none large = never_later w (Event.Receive task name room large) (λ s sh good later.
        none.never s sh (subst (λ (y : Waited). ReceiptRefuses s task y room Code) (one_waited s task name waited later.0 (x.waits s sh) later.1) later.2))

  module _ (waited : Waited) where
    pub never_again : (code : ℕ) → IsRefused w (λ s. again_guards s task waited) code → (large : Bool) → NeverRefuses w (Event.ReceiveAgain task waited room large) Code
    never_again code r large = never_guarded w (Event.ReceiveAgain task waited room large) code record { refused = λ s sh. r.refused s sh }

    pub told_again : IsAllowed w (λ s. again_guards s task waited) → (b : Bool) → MatchBool b (StaysFor w task waited room Code) (NeverStays w task waited room) →
        (large : Bool) → TellsWant w (Event.ReceiveAgain task waited room large) b
    told_again good true stays large = record { refuses = λ s sh. inr ((tasks_live w s sh.agrees (Event.ReceiveAgain task waited room large) below, good.allowed s sh), stays.refuses s sh) }
    told_again good false none large = never_later w (Event.ReceiveAgain task waited room large) (λ s sh unrefused later. none.never s sh later)
