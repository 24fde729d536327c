-- A request is judged, and what it leaves.
use Rattle.std.proofs.Common.{◌≡◌, ◌≢◌, ℕ, Option, Some, None, refl, sym, ap, ◌∙◌, ◌⊎◌, inl, inr, length, zero, suc, ◌-◌, ◌<◌, ◌^◌, List, [], ◌∷◌, subst, arith, Bool, true, false, ◌+◌, ◌≤◌, Ok}
use Rattle.std.specs.Option.{option_map}
use Rattle.std.specs.FinMap as map
use Rattle.std.specs.Prelude.{is_some, if◌then◌else◌, ◌==◌, ◌&&◌, max}
use Rattle.std.proofs.lemmas.Bool.{eq-eqb}
use Rattle.std.proofs.lemmas.Bool.Decides.{leb_tells}
use Rattle.mach_types.specs.declared.rights.Disposition.{Disposition}
use Rattle.mach_types.specs.declared.rights.Disposition.TheVariants.{MoveReceive, MoveSend, MoveSendOnce, CopySend, MakeSend, MakeSendOnce}
use Rattle.mach_types.specs.declared.codes.KernReturn.TheVariants.{InvalidCapability, NoSpace, InvalidValue, ResourceShortage}
use Rattle.mach_types.specs.Numbers.{disposition, most_names, most_rights, null_word, kind_sent, most_references}
use Rattle.mach_types.specs.Codes.{kern_number}
use Rattle.mach_types.specs.Guards.{NoneHolds, FirstIs}
use Rattle.mach_types.specs.Tokens.{Kind, send_once, Request, in_request, Token, count, is_of, receive, in_task, is_held, weigh, send}
use Rattle.mach_types.specs.declared.calls.Event.{Event}
use Rattle.mach_types.specs.Messages.{to_port}
use Rattle.mach_types.specs.declared.calls.Reply.{Reply}
use Rattle.mach_types.specs.Rights.{makes_right}
use Rattle.mach_model.specs.State.{State, Target, held, lookup}
use Rattle.mach_model.specs.NameGuards.{IsDeadName, IsLegalName}
use Rattle.mach_model.proofs.Moving.{moving, IsOutside, IsMoving}
use Rattle.mach_model.proofs.Names.{count_le, right_of, removed_own, length-weigh, held_le_of}
use Rattle.mach_model.specs.Death.{same_place}
use Rattle.mach_model.specs.Carried.{lying_among}
use Rattle.mach_model.specs.Room.{HasNoRoom}
use Rattle.mach_model.specs.Requests.{RequestOn}
use Rattle.mach_model.specs.RequestRefusals.{noted_guards, GivesRight}
use Rattle.mach_model.specs.CopyIn.{CopyRight}
use Rattle.mach_model.specs.Refusals.{call_guards}
use Rattle.mach_model.specs.Acts.{Does}
use Rattle.mach_model.specs.Machine.{Judged}
use Rattle.mach_model.specs.Notices.{Owed}
use Rattle.number_map.specs.Maps.{MapView}
use Rattle.rights.specs.declared.RightKind.TheVariants as right
use Rattle.rights.specs.Counts.{with_more}
use Rattle.rights.specs.Ledger.{counts_of, made, LedgerView}
use Rattle.name_space.specs.declared.Entry.{Entry}
use Rattle.name_space.specs.declared.Entry.TheVariants as entry
use Rattle.name_space.specs.Names.{SpaceView}
use Rattle.port.specs.Ports.{PortsView, PortView}
use Rattle.request_table.specs.declared.Request.{Request as NameRequest}
use Rattle.request_table.specs.Requests.{name_key, key_of}
use Rattle.copyin_base.specs.Serving.{IsRefused, Declines, IsAllowed, Completes}
use Rattle.copyin_base.specs.Shows.{target_of, Shows, Agrees, SlotsSuffice}
use Rattle.copyin_base.specs.Worlds.{WorldView, entry_in, entry_at, space_at, HasTask, port_at}
use Rattle.copyin_base.specs.declared.Mark.TheVariants as mark
use Rattle.copyin_base.proofs.Gets.{same_found}
use Rattle.copyin_base.proofs.Told.{found, names_port, space_there}
use Rattle.request_table.specs.Tables.{RequestTablesView}
use Rattle.copyin_base.specs.Requests.{notify_of, rights_kept}
use Rattle.copyin_base.specs.Asking.{taken_at}
use Rattle.copyin_base.proofs.Acting.{refused, refused_later, Leaves-so, done_leaving, makes_none, none_left}
use Rattle.copyin_base.specs.declared.Mark.{Mark}
use Rattle.copyin_base.specs.Stands.{Stands}
use Rattle.copyin_base.proofs.SendersNoted.{counts_own, KeepsSends}
use Rattle.copyin_base.proofs.Tied.{stands_is_tied}
use Rattle.copyin_base.specs.Kept.{Kept}
use Rattle.copyin_base.specs.Posted.{with_posted}
use Rattle.copyin_base.proofs.Listed.{none_listed}
use Rattle.copyin_base.proofs.Requesting.{requests_stay}
use Rattle.copyin_base.specs.declared.Notice.{Notice}
use Rattle.copyin_base.specs.Wanted.{room_of}
use Rattle.copyin_base.proofs.Spares.{keeps_names, keeps_space, left_keeps}
use Rattle.dispositions.specs.Copies.{copied_from}
use Rattle.copyin.specs.Copies.{ledger_copied, port_copied, ports_copied}
use Rattle.dispositions.specs.declared.Copied.{Copied}
use Rattle.copyin.proofs.Refused.{legal_copies}
use Rattle.copyin.specs.Slots.{once_made_by_mark}
use Rattle.copyin.proofs.Judging.{number_of}
use Rattle.copyin.proofs.Committing.{copied_once}
use Rattle.copyout.specs.Giving.{GivesMark, NoneLeft, free_names, free_room, MarkLacks}
use Rattle.copyout.specs.Ready.{CanGive}
use Rattle.copyout.proofs.GivenAll.{AreSound}
use Rattle.copyout.proofs.Delivered.{mark_unused}
use Rattle.copyout.proofs.Given.{given_keeps}
use Rattle.notifications.specs.Requesting.{GoesNot, capability_guards, variant_number, IsSubject, entry_left, names_left, rights_then, request_of, previous_in, ComesOut, LacksSpace, IsMisasked, Pays, names_in, subject_guards, MayRequest, CanPay}
use Rattle.notifications.specs.declared.request.Paying.{Paying}
use Rattle.notifications.specs.declared.request.Subject.{Subject}
use Rattle.notifications.specs.declared.request.Subject.TheVariants.{Receive, Senders, Live, Dead}
use Rattle.notifications.specs.declared.request.Variant.{Variant}
use Rattle.notifications.specs.Putting.{taken_away, mark_for, name_taken, IsNotKept, without, CanEnd, Ends, CanPut, Goes, CanRenew, KeepsNew, Puts, TellsDead, CarriesOut}
use Rattle.notifications.proofs.Away.{nothing_away}
use Rattle.notifications.proofs.RightBack.{Back, comes, none_noted, first_noted, full_noted, is_subject_live}
use Rattle.notifications.proofs.RequestBegun.{Begun, begun_none, begun_some, ready_shows, ready_ledger, pays_ready, none_kept, dead_keeps, tokens_at, copied_at, total_at, held_at, is_legal, is_alive, Paid, paid_world, paid_then, can_copy, lives as paying_lives, requests_changed}
use Rattle.notifications.specs.declared.request.Asked.{Asked}
use Rattle.notifications.specs.Room.{SameButRooms, HasPlace, Readies, made_by}
use Rattle.notifications.proofs.Rooms.{rooms_show}
use Rattle.copyin_base.specs.Losing.{CanPost, Posts}
use Rattle.notifications.specs.Wanted.{made_for, MakesSlotsFor, LeavesRequest}

-- ---- Which right may pay for a request, in the tables and in each state that they show.

-- what goes from an entry, and isn't for a port, goes from a dead name
dead_goes : (d : Disposition) (e : Entry) (c : Copied) → copied_from d e ≡ Some c → ((p : ℕ) → c.mark ≢ mark.Port p) → (n : ℕ) × (e ≡ entry.DeadName n)
dead_goes MoveReceive (entry.Receive p) c is not = absurd (not p (let f = is in cc))
dead_goes MoveReceive (entry.ReceiveAndSend p n) c is not = absurd (not p (let f = is in cc))
dead_goes MoveSend (entry.Send p n) c is not = absurd (not p (let f = is in cc))
dead_goes MoveSend (entry.ReceiveAndSend p n) c is not = absurd (not p (let f = is in cc))
dead_goes MoveSend (entry.DeadName n) c is not = (n, refl)
dead_goes MoveSendOnce (entry.SendOnce p) c is not = absurd (not p (let f = is in cc))
dead_goes MoveSendOnce (entry.DeadName n) c is not = (n, refl)
dead_goes CopySend (entry.Send p n) c is not = absurd (not p (let f = is in cc))
dead_goes CopySend (entry.ReceiveAndSend p n) c is not = absurd (not p (let f = is in cc))
dead_goes CopySend (entry.DeadName n) c is not = (n, refl)
dead_goes MakeSend (entry.Receive p) c is not = absurd (not p (let f = is in cc))
dead_goes MakeSend (entry.ReceiveAndSend p n) c is not = absurd (not p (let f = is in cc))
dead_goes MakeSendOnce (entry.Receive p) c is not = absurd (not p (let f = is in cc))
dead_goes MakeSendOnce (entry.ReceiveAndSend p n) c is not = absurd (not p (let f = is in cc))
dead_goes d e c is not = absurd (let f : None ≡ Some c = is in cc)

the_same : {A : Type 0} (x y : A) → Some x ≡ Some y → x ≡ y
the_same x y e = cc

module _ (w : WorldView) (task name number : ℕ) (d : Disposition) (given : disposition number ≡ Some d) (s : State) (sh : Shows w s) where
  space_of : (o : Option SpaceView) (e : Entry) → entry_in o name ≡ Some e → (space : SpaceView) × (o ≡ Some space) × (map.get space.names name ≡ Some e)
  space_of (Some space) e is = (space, refl, is)
  space_of None e is = absurd (let f : None ≡ Some e = is in cc)

  -- nothing stands under the name
  unused : entry_at w task name ≡ None → ¬ (IsLegalName s task name number)
  unused is legal = let f : Some legal.1 ≡ None = sym legal.3 ∙ sh.agrees.naming task name ∙ ap (option_map target_of) is in cc

  -- no right goes so
  none_goes : (e : Entry) → entry_at w task name ≡ Some e → copied_from d e ≡ None → ¬ (IsLegalName s task name number)
  none_goes e is none legal =
      let x = space_of (space_at w task) e is in
      let l = legal_copies w s 0 (length (s.log 0)) task x.0.names
      (record { agrees = sh.agrees; moving = moving s 0 (length (s.log 0)) sh.lawful; space = x.0; there = x.1; names_are = refl; requested = sh.requested }) name number legal in
      let c = l.2 in
      let same_entry : c.entry ≡ e = same_found (map.get x.0.names name) c.entry e c.found x.2 in
      let same_given : l.0.given ≡ d = the_same l.0.given d (sym c.is_given ∙ given) in
      no_copied c.copied (sym none ∙ sym (ap (λ (x : Entry). copied_from d x) same_entry) ∙ sym (ap (λ (x : Disposition). copied_from x c.entry) same_given) ∙ c.is)
    where
      no_copied : (x : Copied) → None ≡ Some x → ⊥
      no_copied x f = cc

  dead : (e : Entry) (c : Copied) → entry_at w task name ≡ Some e → copied_from d e ≡ Some c → ((p : ℕ) → c.mark ≢ mark.Port p) → IsDeadName s task name
  dead e c is goes not = let x = dead_goes d e c goes not in (x.0, found w s sh.agrees task name e is ∙ ap (λ (y : Entry). Some (target_of y)) x.1)

  refuses : GoesNot w task name d → (o : Option Entry) → entry_at w task name ≡ o → ¬ (IsLegalName s task name number) ⊎ IsDeadName s task name
  refuses none None is = inl (unused is)
  refuses none (Some e) is = goes (copied_from d e) refl
    where
      goes : (c : Option Copied) → copied_from d e ≡ c → ¬ (IsLegalName s task name number) ⊎ IsDeadName s task name
      goes None go = inl (none_goes e is go)
      goes (Some c) go = inr (dead e c is go (λ p. none e c p is go))

-- It is refused, where none goes.
pub none_pays : (w : WorldView) (task name number : ℕ) (d : Disposition) → disposition number ≡ Some d → GoesNot w task name d →
    IsRefused w (λ s. capability_guards s task name number) (kern_number InvalidCapability)
none_pays w task name number d given none = record {
  refused = λ s sh. inl (refuses w task name number d given s sh none (entry_at w task name) refl, refl);
}

-- ---- A request from when it was begun: its right can come out, and what is judged of it is what the machine judges.

-- ---- the machine's request

-- the request of a variant on a name is one
on_one : (x : State) (task name v : ℕ) (a b : Request) → RequestOn x task name v a → RequestOn x task name v b → a ≡ b
on_one x task name v a b (inl h) (inl i) = grind arith
on_one x task name v a b (inl h) (inr (inl i)) = absurd (let e = h.0 in let f = i.0 in omega (arith, e, f))
on_one x task name v a b (inl h) (inr (inr i)) = absurd (let e = h.0 in let f = i.0 in omega (arith, e, f))
on_one x task name v a b (inr (inl h)) (inl i) = absurd (let e = h.0 in let f = i.0 in omega (arith, e, f))
on_one x task name v a b (inr (inl h)) (inr (inl i)) = grind arith
on_one x task name v a b (inr (inl h)) (inr (inr i)) = absurd (let e = h.0 in let f = i.0 in omega (arith, e, f))
on_one x task name v a b (inr (inr h)) (inl i) = absurd (let e = h.0 in let f = i.0 in omega (arith, e, f))
on_one x task name v a b (inr (inr h)) (inr (inl i)) = absurd (let e = h.0 in let f = i.0 in omega (arith, e, f))
on_one x task name v a b (inr (inr h)) (inr (inr i)) = h.1 ∙ sym i.1

module _ (w : WorldView) (s : State) (sh : Shows w s) (task name : ℕ) (subject : Subject) (previous : Option ℕ) (previous_is : previous ≡ previous_in w.requests task name subject) where
  abbrev r : Request
  r = request_of task name subject

  stood : s.stands r ≡ is_some previous
  stood = sh.agrees.standing r ∙ ap is_some (sym previous_is)

  lay : (live : ℕ → Bool) → live ≡ s.live_port → (kind : Kind) (n : ℕ) → lying_among s.ledger kind n (in_request r) ≡ rights_kept live previous kind n
  lay live same kind n = grind arith

  -- where a right lies at the request it comes out
  comes_out : 0 < count (λ x. same_place (in_request r) x.place) s.ledger → ComesOut w previous
  comes_out some = by previous refl
    where
      nothing : ((kind : Kind) (n : ℕ) → rights_kept s.live_port previous kind n ≡ 0) → ⊥
      nothing none = let z = none_kept s.ledger r (λ kind n. lay s.live_port refl kind n ∙ none kind n) in omega (arith, z, some)

      by : (o : Option ℕ) → previous ≡ o → ComesOut w previous
      by None is = absurd (nothing (λ kind n. ap (λ (o : Option ℕ). rights_kept s.live_port o kind n) is))
      by (Some q) is = lives (s.live_port q) refl
        where
          lives : (b : Bool) → s.live_port q ≡ b → ComesOut w previous
          lives true e = (q, is, sh.agrees.live_port q ∙ e)
          lives false e = absurd (nothing (λ kind n. ap (λ (o : Option ℕ). rights_kept s.live_port o kind n) is ∙ dead_keeps s.live_port q e kind n))

  -- What the machine's state with these tokens lacks the tables lack.
  module _ (paying : Option Paying) (mid : WorldView) (t : State) (a : Agrees mid t) (space : SpaceView) (there : space_at mid task ≡ Some space) (names : map.len space.names ≡ names_left w task paying)
      (tokens : List Token) (total : length tokens ≡ rights_then w paying) (variant : Variant) (on : RequestOn (record t { ledger = tokens }) task name (variant_number variant) r) where
    abbrev Wants : Type 0
    Wants = (most_rights < length tokens) ⊎ HasNoRoom (record t { ledger = tokens }) task × GivesRight s (record t { ledger = tokens }) task name (variant_number variant)

    len : map.len (t.naming task) ≡ names_left w task paying
    len = sym (a.names_kept task space there) ∙ names

    pub space_from : Wants → LacksSpace w task paying previous
    space_from (inl h) = inl (omega (arith, h, total))
    space_from (inr h) =
        let same = on_one (record t { ledger = tokens }) task name (variant_number variant) h.1.0 r h.1.1 on in
        let full = h.0 in
        inr (omega (arith, full, len), comes_out (subst (λ (x : Request). 0 < count (λ y. same_place (in_request x) y.place) s.ledger) same h.1.2))

    pub space_to : LacksSpace w task paying previous → Wants
    space_to (inl h) = inl (omega (arith, h, total))
    space_to (inr h) = inr ((let full = h.0 in omega (arith, full, len)), (r, on, lies h.1))
      where
        lies : ComesOut w previous → 0 < count (λ x. same_place (in_request r) x.place) s.ledger
        lies out =
            let b = lay s.live_port refl send_once out.0 in
            let live : s.live_port out.0 ≡ true = sym (sh.agrees.live_port out.0) ∙ out.2 in
            let c : rights_kept s.live_port previous send_once out.0 ≡ (if out.0 == out.0 && s.live_port out.0 then 1 else 0) = ap (λ (o : Option ℕ). rights_kept s.live_port o send_once out.0) out.1 in
            let d : (if out.0 == out.0 && s.live_port out.0 then suc zero else zero) ≡ suc zero = rw (eq-eqb out.0 out.0 refl, live) refl in
            let le = count_le (λ y. is_of send_once out.0 y && same_place (in_request r) y.place) (λ y. same_place (in_request r) y.place) (λ y f. right_of (is_of send_once out.0 y) (same_place (in_request r) y.place) f) s.ledger in
            omega (arith, b, c, d, le)

  -- what a request is on, in the machine
  pub subject_on : (mid : WorldView) (t : State) → Agrees mid t → (tokens : List Token) (o : Option Entry) → entry_at mid task name ≡ o → (variant : Variant) (sync notify : ℕ) → IsSubject o variant sync notify subject →
      RequestOn (record t { ledger = tokens }) task name (variant_number variant) r
  subject_on mid t a tokens o stands variant sync notify is = grind (arith, names_port)

  -- ---- its right comes out

  module _ (below : HasTask w task) (paying : Option Paying) (mid : WorldView) (b : Begun w s task name subject previous paying mid) (e : Entry) (stands : entry_left w task paying name ≡ Some e)
      (space_good : ¬ (LacksSpace w task paying previous)) where
    abbrev t : State
    t = b.t

    abbrev k : ℕ
    k = length (s.log 0)

    abbrev pub away : WorldView
    away = record mid { requests = taken_away mid.requests task name subject }

    pub at_name : entry_at mid task name ≡ Some e
    at_name = b.left name ∙ stands

    pub small : name < 2 ^ 32
    small = (b.keeps.naming task).space.name_fits name (target_of e) (found mid t b.agrees task name e at_name)

    is_task : t.live_task task ≡ true
    is_task = ap (λ (x : State). x.live_task task) b.shaped ∙ sym (sh.agrees.live_task task) ∙ below

    same_live : t.live_port ≡ s.live_port
    same_live = ap (λ (x : State). x.live_port) b.shaped

    outside : IsOutside t 0 k
    outside = inr (let same : length (t.log 0) ≡ k = ap (λ (x : State). length (x.log 0)) b.shaped in omega (arith, same))

    live_out : (q : ℕ) → previous ≡ Some q → is_some (port_at away q) ≡ true → ComesOut w previous
    live_out q is live = (q, is, sh.agrees.live_port q ∙ sym (ap (λ (f : ℕ → Bool). f q) same_live) ∙ sym (b.agrees.live_port q) ∙ live)

    lacks : (free : SpaceView → ℕ) (o : Option ℕ) → previous ≡ o → MarkLacks free away task send_once (mark_for o) → ComesOut w previous × NoneLeft free away task
    lacks free None is h = absurd h
    lacks free (Some q) is h = (live_out q is h.0, h.1)

    can_give : CanGive away task (record { given = MoveSendOnce; mark = mark_for previous } ∷ [])
    can_give = record {
      space = b.space;
      there = b.there;
      enough = λ l. elim l [
        | inl h ↦
            let x = lacks free_names previous refl h in
            let same : x.1.0 ≡ b.space = same_found (space_at mid task) x.1.0 b.space x.1.1 b.there in
            let full : most_names - map.len b.space.names ≡ 0 = ap (λ (y : SpaceView). most_names - map.len y.names) (sym same) ∙ x.1.2 in
            let names = b.names in
            space_good (inr (omega (arith, full, names), x.0))
        | inr h ↦ h.2
      ];
      room = λ l. elim l [
        | inl h ↦
            let x = lacks free_room previous refl h in
            let same : x.1.0 ≡ b.space = same_found (space_at mid task) x.1.0 b.space x.1.1 b.there in
            let full : b.space.room ≡ 0 = ap (λ (y : SpaceView). y.room) (sym same) ∙ x.1.2 in
            let some = b.room x.0 in omega (arith, full, some)
        | inr h ↦ h.2
      ];
      entered = λ p live. (b.agrees.counts p).entered ∙ sym (b.agrees.live_port p) ∙ live;
      counted = λ p live. omega arith;
      none_lost = record { lost = b.sound.none_lost.lost; doomed = b.sound.none_lost.doomed; destroyed = b.sound.none_lost.destroyed };
    }

    pub may_end : CanEnd mid task name subject previous
    may_end = record { gives = can_give; nothing = λ none. ap (λ (v : RequestTablesView). record mid { requests = v }) (nothing_away mid.requests task name small subject (b.notify ∙ none)) }

    pub back : (word : ℕ) (out : WorldView) → GivesMark away task send_once (mark_for previous) word out → Back s t b.C b.X b.Y k task r away word out
    back word out g = comes s mid t b.agrees k b.keeps b.sound outside task name small subject b.unwent is_task previous b.notify stood (lay t.live_port same_live) b.C b.X b.Y b.rights b.more word out g

    -- the machine's judgement
    pub good_noted : (variant : Variant) (sync notify : ℕ) → IsSubject (Some e) variant sync notify subject → NoneHolds (noted_guards s (record t { ledger = b.C }) task name (variant_number variant) sync notify)
    good_noted variant sync notify is =
        let on = subject_on mid t b.agrees b.C (Some e) at_name variant sync notify is in
        none_noted s mid t b.agrees b.C task name b.held_same (Some e) at_name variant sync notify subject is
        (λ wants. space_good (space_from paying mid t b.agrees b.space b.there b.names b.C b.total variant on wants))

-- ---- A request that is refused, in each state that the tables show.

abbrev pub event_of : (task name : ℕ) → Asked → Event
event_of task name asked = Event.RequestNotification task name asked.variant asked.sync asked.notify asked.disposition

-- The machine's state once the right that pays was copied in, and lies with the task.
record Late (w : WorldView) (s : State) (task : ℕ) (asked : Asked) (paying : Option Paying) : Type 0 where
  mid : WorldView
  t : State
  agrees : Agrees mid t
  tokens : List Token
  held_same : (p : ℕ) → count (is_held task receive p) tokens ≡ held t task receive p
  total : length tokens ≡ rights_then w paying
  left : (n : ℕ) → entry_at mid task n ≡ entry_left w task paying n
  space : SpaceView
  there : space_at mid task ≡ Some space
  names : map.len space.names ≡ names_left w task paying
  copied : (asked.notify ≡ null_word) × (record t { ledger = tokens } ≡ s) ⊎ (asked.notify ≢ null_word) × ((q : ℕ) × CopyRight task (in_task task) asked.disposition asked.notify s (to_port q) (record t { ledger = tokens }))

module _ (w : WorldView) (task name : ℕ) (asked : Asked) (below : HasTask w task) where
  pub misasked : IsMisasked asked → Declines w (event_of task name asked) (kern_number InvalidValue) w
  misasked is = refused w (event_of task name asked) below (kern_number InvalidValue) record { refused = λ s sh. inl (is, refl) }

  module _ (good : ¬ (IsMisasked asked)) where
    pub incapable : (code : ℕ) → asked.notify ≢ null_word → IsRefused w (λ s. capability_guards s task asked.notify asked.disposition) code → Declines w (event_of task name asked) code w
    incapable code some r = grind (arith, refused)

    late : (s : State) → Shows w s → (paying : Option Paying) → Pays w task asked paying → Late w s task asked paying
    late s sh None pays =
        let x = space_there w task below in
        record {
          mid = w;
          t = s;
          agrees = sh.agrees;
          tokens = s.ledger;
          held_same = λ p. refl;
          total = (let a = sh.agrees.total in omega (arith, a));
          left = λ n. refl;
          space = x.0;
          there = x.1;
          names = sym (ap names_in x.1);
          copied = inl (pays, refl);
        }
    late s sh (Some g) pays =
        let paid : Paid w s task asked.disposition g (paid_world w s sh task asked.disposition g pays.2 pays.4) = paid_then w s sh task asked.disposition g pays.2 pays.4 in
        let mid = paid_world w s sh task asked.disposition g pays.2 pays.4 in
        record {
          mid = mid;
          t = paid.t;
          agrees = paid.agrees;
          tokens = tokens_at w s task asked.disposition g pays.3 mid paid (in_task task);
          held_same = held_at w s task asked.disposition g pays.3 mid paid (in_task task);
          total = total_at w s task asked.disposition g pays.3 mid paid (in_task task);
          left = paid.left;
          space = paid.space;
          there = paid.there;
          names = paid.names;
          copied = inr (
            pays.0,
            (
              g.port,
              subst (λ (n : ℕ). CopyRight task (in_task task) asked.disposition n s (to_port g.port) (record paid.t { ledger = tokens_at w s task asked.disposition g pays.3 mid paid (in_task task) })) pays.1
                  (copied_at w s task asked.disposition g pays.3 mid paid (in_task task)),
            ),
          );
        }

    module _ (paying : Option Paying) (pays : Pays w task asked paying) where
      capable : (s : State) → Shows w s → (o : Option Paying) → Pays w task asked o → (asked.notify ≢ null_word) × (¬ (IsLegalName s task asked.notify asked.disposition) ⊎ IsDeadName s task asked.notify) → ⊥
      capable s sh None none h = h.0 none
      capable s sh (Some g) p h =
          let mid = paid_world w s sh task asked.disposition g p.2 p.4 in
          let paid : Paid w s task asked.disposition g mid = paid_then w s sh task asked.disposition g p.2 p.4 in
          elim h.1 [
            | inl not ↦ not (subst (λ (n : ℕ). IsLegalName s task n asked.disposition) p.1 (is_legal w s task asked.disposition g p.3 mid paid))
            | inr dead ↦ is_alive w s task asked.disposition g p.3 mid paid (subst (λ (n : ℕ). IsDeadName s task n) (sym p.1) dead)
          ]

      pub allowed : IsAllowed w (λ s. call_guards s (event_of task name asked))
      allowed = record { allowed = λ s sh. (good, (capable s sh paying pays, tt)) }

      later : (code : ℕ) → ((s : State) (sh : Shows w s) → let l = late s sh paying pays in
          FirstIs (noted_guards s (record l.t { ledger = l.tokens }) task name asked.variant asked.sync asked.notify) code
          ⊎ NoneHolds (noted_guards s (record l.t { ledger = l.tokens }) task name asked.variant asked.sync asked.notify) × (code ≡ kern_number ResourceShortage)) → Declines w (event_of task name asked) code w
      later code why = refused_later w (event_of task name asked) below code record { allowed = λ s sh. allowed.allowed s sh } (λ s sh. let l = late s sh paying pays in (record l.t { ledger = l.tokens }, l.copied, why s sh))

      module _ (variant : Variant) (number : variant_number variant ≡ asked.variant) where
        pub unfit : (code : ℕ) → FirstIs (subject_guards (entry_left w task paying name) variant asked.sync asked.notify) code → Declines w (event_of task name asked) code w
        unfit code first = later code (λ s sh.
            let l = late s sh paying pays in
            inl (subst (λ (n : ℕ). FirstIs (noted_guards s (record l.t { ledger = l.tokens }) task name n asked.sync asked.notify) code) number
            (first_noted s l.mid l.t l.agrees l.tokens task name l.held_same (entry_left w task paying name) (l.left name) variant asked.sync asked.notify code first)))

        module _ (subject : Subject) (is : IsSubject (entry_left w task paying name) variant asked.sync asked.notify subject) (previous : Option ℕ) (previous_is : previous ≡ previous_in w.requests task name subject) where
          pub full : LacksSpace w task paying previous → Declines w (event_of task name asked) (kern_number NoSpace) w
          full lacks = later (kern_number NoSpace) (λ s sh.
              let l = late s sh paying pays in
              let on = subject_on w s sh task name subject previous previous_is l.mid l.t l.agrees l.tokens (entry_left w task paying name) (l.left name) variant asked.sync asked.notify is in
              inl (subst (λ (n : ℕ). FirstIs (noted_guards s (record l.t { ledger = l.tokens }) task name n asked.sync asked.notify) (kern_number NoSpace)) number
              (full_noted s l.mid l.t l.agrees l.tokens task name l.held_same (entry_left w task paying name) (l.left name) variant asked.sync asked.notify subject is
              (space_to w s sh task name subject previous previous_is paying l.mid l.t l.agrees l.space l.there l.names l.tokens l.total variant on lacks))))

          pub short : ¬ (LacksSpace w task paying previous) → Declines w (event_of task name asked) (kern_number ResourceShortage) w
          short space = later (kern_number ResourceShortage) (λ s sh.
              let l = late s sh paying pays in
              let on = subject_on w s sh task name subject previous previous_is l.mid l.t l.agrees l.tokens (entry_left w task paying name) (l.left name) variant asked.sync asked.notify is in
              inr (
                subst (λ (n : ℕ). NoneHolds (noted_guards s (record l.t { ledger = l.tokens }) task name n asked.sync asked.notify)) number
                    (none_noted s l.mid l.t l.agrees l.tokens task name l.held_same (entry_left w task paying name) (l.left name) variant asked.sync asked.notify subject is
                    (λ wants. space (space_from w s sh task name subject previous previous_is paying l.mid l.t l.agrees l.space l.there l.names l.tokens l.total variant on wants))),
                refl,
              ))

-- where it may be carried out, only want of memory refuses it
pub short_may : (w : WorldView) (task name : ℕ) (asked : Asked) (paying : Option Paying) (subject : Subject) (previous : Option ℕ) → HasTask w task → MayRequest w task name asked paying subject previous →
    Declines w (event_of task name asked) (kern_number ResourceShortage) w
short_may w task name asked paying subject previous below may = short w task name asked below may.good paying may.pays may.variant may.number subject may.is_on previous may.stood may.space

-- where memory is lacking, only room was made
pub short_of : (w : WorldView) (task name : ℕ) (asked : Asked) (paying : Option Paying) (subject : Subject) (previous : Option ℕ) → HasTask w task → MayRequest w task name asked paying subject previous →
    (new : WorldView) → SameButRooms w new → Declines w (event_of task name asked) (kern_number ResourceShortage) new
short_of w task name asked paying subject previous below may new rooms = record {
  refuses = (short_may w task name asked paying subject previous below may).refuses;
  shows = λ s sh. rooms_show w new s rooms sh;
}

-- ---- What is so before the new request is kept, or told at once.

-- ---- none is kept on the subject, and there is a place

port_gone : (m : MapView ℕ) (p : ℕ) (o : Option ℕ) → map.get m.map p ≡ o → map.get (taken_at m p o).map p ≡ None
port_gone m p None is = is
port_gone m p (Some n) is = removed_own m.map p

port_placed : (m : MapView ℕ) (p : ℕ) (o : Option ℕ) → 0 < m.room → 0 < (taken_at m p o).room
port_placed m p None some = some
port_placed m p (Some n) some = omega arith

module _ (v : RequestTablesView) (task name : ℕ) (own : (r : NameRequest) → map.get v.names.requests (name_key task name) ≡ Some r → key_of r ≡ name_key task name) where
  name_gone : (o : Option NameRequest) → map.get v.names.requests (name_key task name) ≡ o → map.get (name_taken v.names o).requests (name_key task name) ≡ None
  name_gone None is = is
  name_gone (Some r) is = subst (λ (key : ℕ). map.get (map.remove v.names.requests key) (name_key task name) ≡ None) (sym (own r is)) (removed_own v.names.requests (name_key task name))

  name_placed : (o : Option NameRequest) → 0 < v.names.room → 0 < (name_taken v.names o).room
  name_placed None some = some
  name_placed (Some r) some = omega arith

  pub none_kept_on : (subject : Subject) → IsNotKept (taken_away v task name subject) task name subject
  none_kept_on (Receive p) = port_gone v.port_destroyed p (map.get v.port_destroyed.map p) refl
  none_kept_on (Senders p) = port_gone v.no_senders p (map.get v.no_senders.map p) refl
  none_kept_on (Live p) = name_gone (map.get v.names.requests (name_key task name)) refl
  none_kept_on (Dead n) = name_gone (map.get v.names.requests (name_key task name)) refl

  pub placed_on : (subject : Subject) → HasPlace v subject → HasPlace (taken_away v task name subject) subject
  placed_on (Receive p) some = port_placed v.port_destroyed p (map.get v.port_destroyed.map p) some
  placed_on (Senders p) some = port_placed v.no_senders p (map.get v.no_senders.map p) some
  placed_on (Live p) some = name_placed (map.get v.names.requests (name_key task name)) some
  placed_on (Dead n) some = tt

-- ---- the right that pays is one that no queued message goes by

abbrev port_in : Mark → ℕ
port_in (mark.Port p) = p
port_in m = 0

abbrev is_port : Mark → Bool
is_port (mark.Port p) = true
is_port m = false

abbrev mark_in : Option Copied → Mark
mark_in (Some c) = c.mark
mark_in None = mark.Null

once_entry : (e : Entry) (left : Option Entry) (p : ℕ) → copied_from MoveSendOnce e ≡ Some (record { left = left; mark = mark.Port p }) → e ≡ entry.SendOnce p
once_entry (entry.SendOnce q) left p is = ap entry.SendOnce (ap (λ (o : Option Copied). port_in (mark_in o)) is)
once_entry (entry.DeadName n) left p is = absurd (let f : false ≡ true = ap (λ (o : Option Copied). is_port (mark_in o)) is in cc)
once_entry (entry.Receive q) left p is = absurd (cc)
once_entry (entry.Send q n) left p is = absurd (cc)
once_entry (entry.ReceiveAndSend q n) left p is = absurd (cc)
once_entry (entry.Set n) left p is = absurd (cc)

module _ (w : WorldView) (stands : Stands w) (task : ℕ) (g : Paying) (pays : CanPay w task g) (once : kind_sent g.given ≡ send_once) where
  in_space : (o : Option SpaceView) (e : Entry) → entry_in o g.name ≡ Some e → (space : SpaceView) × (o ≡ Some space) × (map.get space.names g.name ≡ Some e)
  in_space (Some space) e is = (space, refl, is)
  in_space None e is = absurd (let f : None ≡ Some e = is in cc)

  by_given : (d : Disposition) → kind_sent d ≡ send_once → copied_from d pays.entry ≡ Some (record { left = g.left; mark = mark.Port g.port }) → 0 < (counts_of (ledger_copied d (mark.Port g.port) w.ledger) g.port).send_once
  by_given MoveSendOnce e is =
      let x = in_space (space_at w task) pays.entry pays.found in
      (stands_is_tied w task stands).unused x.0 x.1 g.name g.port (x.2 ∙ ap Some (once_entry pays.entry g.left g.port is))
  by_given MakeSendOnce e is =
      let c = counts_own w.ledger g.port (with_more right.SendOnce 1 (counts_of w.ledger g.port)) (made w.ledger g.port right.SendOnce 1) refl in
      let n : (counts_of (made w.ledger g.port right.SendOnce 1) g.port).send_once ≡ (counts_of w.ledger g.port).send_once + 1 = ap (λ x. x.send_once) c in
      omega (arith, n)
  by_given MoveReceive e is = absurd (cc)
  by_given MoveSend e is = absurd (cc)
  by_given CopySend e is = absurd (cc)
  by_given MakeSend e is = absurd (cc)

  pub is_unused : 0 < (counts_of (ledger_copied g.given (mark.Port g.port) w.ledger) g.port).send_once
  is_unused = by_given g.given once pays.is

-- ---- A request is done: the tables agree with the state midway, and nothing is left but the notice that it owes.

-- the order of tokens is of no account
reordered : (w : WorldView) (t : State) (tokens : List Token) → Agrees w t → ((h : Token → ℕ) → weigh h tokens ≡ weigh h t.ledger) → Agrees w (record t { ledger = tokens })
reordered w t tokens a same = requests_changed w t w.requests tokens t.stands a
    (record {
      counts = λ kind q. same (λ x. if is_of kind q x then 1 else 0);
      held = λ task kind q _. same (λ x. if is_held task kind q x then 1 else 0);
      total = (let m = same (λ x. 1) in let b = length-weigh t.ledger in let c = length-weigh tokens in omega (arith, m, b, c));
    })
    (requests_stay (notify_of w.requests) w.requests.names.went w.ports.made w.ports.made t.stands t.stands t.live_port t.live_port t.ledger tokens a.of_requests (omega arith) (λ r_doing. refl) (λ n h. refl)
    (λ r_doing kind n. same (λ x. if is_of kind n x && same_place (in_request r_doing) x.place then 1 else 0)))

module _ (w : WorldView) (s : State) (task name : ℕ) (subject : Subject) (previous : Option ℕ) (paying : Option Paying) (mid : WorldView) (b : Begun w s task name subject previous paying mid) (word : ℕ) (out : WorldView)
    (bk : Back s b.t b.C b.X b.Y (length (s.log 0)) task (request_of task name subject) (without mid task name subject) word out) where
  pub out_slots : SlotsSuffice out
  out_slots =
      let a : out.ports.spare ≡ mid.ports.spare = ap (λ (p : PortsView Kept). p.spare) bk.ports in
      let c : out.ledger.unused ≡ mid.ledger.unused = ap (λ (l : LedgerView). l.unused) bk.ledger in
      let d = b.slots in omega (arith, a, c, d)

  -- the call leaves the tables so
  pub leaves : (event : Event) (reply : Reply) (now : ℕ) (new : WorldView) (after : State) (owed : Owed) → (d : Does now s event reply after owed) × Judged now s event reply after owed d →
      Agrees new (with_posted now after owed) → AreSound new → SlotsSuffice new →
      KeepsSends out.ledger new.ledger → new.ports.noted ≡ out.ports.noted → ((p : ℕ) → after.live_port p ≡ bk.t3.live_port p) → ((p : ℕ) → count (is_of receive p) after.ledger ≡ count (is_of receive p) bk.t3.ledger) →
      Leaves-so w event reply new now s
  leaves event reply now new after owed does agrees sound slots sends noted live receivers = record {
    mid = after;
    owed = owed;
    does = does.0;
    judged = does.1;
    agrees = agrees;
    holders = sound.holders;
    carriers = sound.carriers;
    slots = slots;
    requested = sound.requested;
    notes = record {
      noted = λ p some x.
          let z = b.sends p (ap (λ (l : LedgerView). (counts_of l p).send) (sym bk.ledger) ∙ sends p x.none) in absurd (omega (arith, some, z));
      had = λ p c. absurd (none_listed new.ports.noted (noted ∙ ap (λ (y : PortsView Kept). y.noted) bk.ports ∙ b.noted) p c);
    };
    makes = makes_none w new sound.none_lost;
    left = none_left new after sound.none_lost (λ p o. let one = bk.keeps.one_receive p (sym (live p) ∙ o.0) in let m = receivers p in let none = o.1 in omega (arith, one, m, none));
  }

-- ---- the request goes

module _ (w : WorldView) (task name : ℕ) (asked : Asked) (subject : Subject) (previous : Option ℕ) (below : HasTask w task) (may : MayRequest w task name asked None subject previous)
    (ready : WorldView) (rdy : Readies w task subject None previous ready) where
  abbrev r_doing : Request
  r_doing = request_of task name subject

  e : (e : Entry) × (entry_left w task None name ≡ Some e)
  e = is_subject_live (entry_left w task None name) may.variant asked.sync asked.notify subject may.is_on

  abbrev begun : (s : State) → Shows w s → Begun w s task name subject previous None ready
  begun s sh = begun_none w s sh task name subject previous may.stood ready below rdy

  pub can_end : Stands w → CanEnd ready task name subject previous
  can_end stands = may_end w stands.state stands.shown task name subject previous may.stood below None ready (begun stands.state stands.shown) e.0 e.1 may.space

  pub end_done : (word : ℕ) (new : WorldView) → Ends ready task name subject previous word new → Completes w (event_of task name asked) (Reply.Previous word) new
  end_done word new ends = done_leaving w (event_of task name asked) (Reply.Previous word) new below record { allowed = λ s sh. (allowed w task name asked below may.good None may.pays).allowed s sh } (λ now s sh.
      let b = begun s sh in
      let bk = back w s sh task name subject previous may.stood below None ready b e.0 e.1 may.space word new ends in
      let is = subst (λ (o : Option Entry). IsSubject o may.variant asked.sync asked.notify subject) e.1 may.is_on in
      leaves w s task name subject previous None ready b word new bk (event_of task name asked) (Reply.Previous word) now new bk.back [] (
        record {
          request = r_doing;
          copied = s;
          back = bk.back;
          copy = inl (may.pays, refl, refl, refl);
          on = subst (λ (n : ℕ). RequestOn s task name n r_doing) may.number (subject_on w s sh task name subject previous may.stood ready s b.agrees s.ledger (Some e.0) (b.left name ∙ e.1) may.variant asked.sync asked.notify is);
          given_back = bk.gives;
        },
        subst (λ (n : ℕ). NoneHolds (noted_guards s s task name n asked.sync asked.notify)) may.number
            (good_noted w s sh task name subject previous may.stood below None ready b e.0 e.1 may.space may.variant asked.sync asked.notify is),
      )
      (subst (λ (x : State). Agrees new x) (sym bk.rest) (reordered new bk.t3 bk.back.ledger bk.agrees (λ h. let m = bk.rights h in omega (arith, m))))
      bk.sound (out_slots w s task name subject previous None ready b word new bk) (λ q none. none) refl
      (λ p. ap (λ (x : State). x.live_port p) bk.rest)
      (λ p. let m = bk.rights (λ x. if is_of receive p x then 1 else 0) in omega (arith, m)))

-- ---- A request that is judged can be renewed, in tables where room was made.

-- a port's name is for one that is there
pub named_lives : (s : State) (o k : ℕ) → IsMoving s o k → (task name p : ℕ) → lookup s task name ≡ Some (Target.port p) → s.live_port p ≡ true
named_lives s o k l task name p is = grind (arith, (l.naming task).has_right name p is, held_le_of task receive p s.ledger, held_le_of task send p s.ledger)

module _ (w : WorldView) (task name : ℕ) (asked : Asked) (g : Paying) (subject : Subject) (previous : Option ℕ) (below : HasTask w task) (may : MayRequest w task name asked (Some g) subject previous)
    (ready : WorldView) (rdy : Readies w task subject (Some g) previous ready) where
  pub e_ready : (e_ready : Entry) × (entry_left w task (Some g) name ≡ Some e_ready)
  e_ready = is_subject_live (entry_left w task (Some g) name) may.variant asked.sync asked.notify subject may.is_on

  module _ (s : State) (sh : Shows w s) where
    abbrev shr : Shows ready s
    shr = ready_shows w s sh task name subject previous may.stood ready below rdy.same

    module _ (mid : WorldView) (c : Goes ready task g mid) where
      abbrev pub begun_ready : Begun w s task name subject previous (Some g) mid
      begun_ready = begun_some w s sh task name subject previous may.stood ready below g asked.disposition may.pays.2 may.pays.3 may.pays.4 rdy e_ready.0 e_ready.1 mid c

      module _ (word : ℕ) (out : WorldView) (ends : Ends mid task name subject previous word out) where
        abbrev pub bk : Back s begun_ready.t begun_ready.C begun_ready.X begun_ready.Y (length (s.log 0)) task (request_of task name subject) (without mid task name subject) word out
        bk = back w s sh task name subject previous may.stood below (Some g) mid begun_ready e_ready.0 e_ready.1 may.space word out ends

        own_key : (x : NameRequest) → map.get mid.requests.names.requests (name_key task name) ≡ Some x → key_of x ≡ name_key task name
        own_key x is = (begun_ready.sound.requested.on_names (name_key task name) x is).own

        pub alive : is_some (port_at mid g.port) ≡ true
        alive = begun_ready.agrees.live_port g.port ∙ ap (λ (x : State). x.live_port g.port) begun_ready.shaped
            ∙ paying_lives ready s shr task asked.disposition g may.pays.2 (pays_ready w s sh task name subject previous may.stood ready below g asked.disposition may.pays.2 may.pays.3 may.pays.4 rdy e_ready.0 e_ready.1)

        pub unused_mid : 0 < (counts_of mid.ledger g.port).send_once
        unused_mid = grind (
          arith,
          is_unused ready (record { state = s; shown = shr }) task g (pays_ready w s sh task name subject previous may.stood ready below g asked.disposition may.pays.2 may.pays.3 may.pays.4 rdy e_ready.0 e_ready.1) may.pays.3,
        )

        pub can_post : CanPost out g.port
        can_post = grind (arith, alive, unused_mid, out_slots)

        pub sender_lives : (p : ℕ) → subject ≡ Senders p → is_some (port_at out p) ≡ true
        sender_lives p is =
            let h : IsSubject (entry_left w task (Some g) name) may.variant asked.sync asked.notify (Senders p) = subst (IsSubject (entry_left w task (Some g) name) may.variant asked.sync asked.notify) is may.is_on in
            let look = names_port mid begun_ready.t begun_ready.agrees task name h.1.0 p (begun_ready.left name ∙ h.1.1) h.1.2 in
            ap (λ (x : PortsView Kept). is_some (map.get x.ports p)) bk.ports ∙ begun_ready.agrees.live_port p ∙ named_lives begun_ready.t 0 (length (s.log 0)) begun_ready.keeps task name p look

        dead_stands : (n : ℕ) → subject ≡ Dead n → (entry_at out task name ≡ Some (entry.DeadName n)) × (n < most_references)
        dead_stands n is =
            let h : IsSubject (entry_left w task (Some g) name) may.variant asked.sync asked.notify (Dead n) = subst (IsSubject (entry_left w task (Some g) name) may.variant asked.sync asked.notify) is may.is_on in
            (bk.entries name (entry.DeadName n) (begun_ready.left name ∙ h.1), h.4)

        pub can_put : CanPut out task name subject g.port
        can_put = record {
          none = subst (λ (v : RequestTablesView). IsNotKept v task name subject) (sym bk.requests) (none_kept_on mid.requests task name own_key subject);
          place = subst (λ (v : RequestTablesView). HasPlace v subject) (sym bk.requests) (placed_on mid.requests task name own_key subject (begun_ready.place refl));
          post = can_post;
          port = sender_lives;
          dead = dead_stands;
        }

  few : (s : State) → Shows w s → rights_then ready (Some g) ≤ most_rights
  few s sh = grind (arith, ready_ledger)

  pub can_renew : Stands w → CanRenew ready task name g subject previous
  can_renew stands =
      let s = stands.state in
      let sh = stands.shown in
      record {
        copies = can_copy ready s (shr s sh) task asked.disposition g may.pays.2 (pays_ready w s sh task name subject previous may.stood ready below g asked.disposition may.pays.2 may.pays.3 may.pays.4 rdy e_ready.0 e_ready.1) (few s sh);
        ends = λ mid c. may_end w s sh task name subject previous may.stood below (Some g) mid (begun_ready s sh mid c) e_ready.0 e_ready.1 may.space;
        puts = λ mid c word out ends. can_put s sh mid c word out ends;
      }

-- ---- What a request leaves of the room for names and of the spare slots.

-- ---- what is made

-- of a name's room one at most, of send-once rights so many, and no slot; and no port is lost
record Keeps (old new : WorldView) (made : ℕ) : Type 0 where
  rooms : (task : ℕ) → room_of new task ≤ max (room_of old task) 1
  spare : new.ports.spare ≡ old.ports.spare
  unused : new.ledger.unused ≡ old.ledger.unused + made
  lost : new.ports.lost ≡ old.ports.lost

-- ... or a slot and such a right are used, for a notice
record Uses (old new : WorldView) : Type 0 where
  rooms : (task : ℕ) → room_of new task ≤ max (room_of old task) 1
  slots : (new.ports.spare ≡ old.ports.spare) × (new.ledger.unused ≡ old.ledger.unused) ⊎ (new.ports.spare ≡ old.ports.spare - 1) × (new.ledger.unused ≡ old.ledger.unused - 1)
  lost : new.ports.lost ≡ old.ports.lost

-- ---- the right that pays goes

lost_at : (d : Disposition) (p : ℕ) (ports : PortsView Kept) (o : Option (PortView Kept)) → (port_copied d p ports o).lost ≡ ports.lost
lost_at d p ports (Some v) = refl
lost_at d p ports None = refl

lost_copied : (d : Disposition) (one : Mark) (ports : PortsView Kept) → (ports_copied d one ports).lost ≡ ports.lost
lost_copied MakeSend (mark.Port p) ports = lost_at MakeSend p ports (map.get ports.ports p)
lost_copied MoveReceive (mark.Port p) ports = lost_at MoveReceive p ports (map.get ports.ports p)
lost_copied d one ports = refl

goes : (old mid : WorldView) (task : ℕ) (g : Paying) → Goes old task g mid → Keeps old mid (once_made_by_mark g.given (mark.Port g.port))
goes old mid task g c =
    let once = copied_once old mid task g.given g.name (mark.Port g.port) c in
    let keeps = keeps_space old mid task c.space _ c.there (ap (λ (x : WorldView). x.spaces) c.rest) (omega arith) once.spare in
    record { rooms = keeps.rooms; spare = once.spare; unused = once.unused; lost = ap (λ (x : WorldView). x.ports.lost) c.rest ∙ lost_copied g.given c.copied.mark old.ports }

-- ---- the right of the request that stood there comes out

given_lost : (old new : WorldView) (task : ℕ) (one : Mark) (word : ℕ) → GivesMark old task send_once one word new → new.ports.lost ≡ old.ports.lost
given_lost old new task (mark.Port p) word h = grind arith
given_lost old new task mark.Null word h = ap (λ (x : WorldView). x.ports.lost) h.1
given_lost old new task mark.Dead word h = ap (λ (x : WorldView). x.ports.lost) h.1

ended : (old out : WorldView) (task name : ℕ) (subject : Subject) (previous : Option ℕ) (word : ℕ) → Ends old task name subject previous word out → Keeps old out 0
ended old out task name subject previous word e = grind (arith, given_keeps, mark_unused, given_lost)

-- ---- the new one is kept, or told at once

kept : (old new : WorldView) (task name : ℕ) (subject : Subject) (notify : ℕ) → KeepsNew old task name subject notify new → Uses old new
kept old new task name subject notify k = grind (arith, keeps_names)

posted : (old new : WorldView) (notify : ℕ) (notice : Notice) → Posts old notify notice new → Uses old new
posted old new notify notice p = grind arith

tells : (old new : WorldView) (task name references notify : ℕ) → TellsDead old task name references notify new → Uses old new
tells old new task name references notify t = grind (arith, left_keeps old t.mid task name _ t.more, posted t.mid new notify _ t.posts)

puts : (old new : WorldView) (task name sync : ℕ) (subject : Subject) (notify : ℕ) → Puts old task name sync subject notify new → Uses old new
puts old new task name sync (Receive p) notify k = kept old new task name (Receive p) notify k
puts old new task name sync (Live p) notify k = kept old new task name (Live p) notify k
puts old new task name sync (Dead n) notify t = tells old new task name n notify t
puts old new task name sync (Senders p) notify (inl t) = posted old new notify _ t.2
puts old new task name sync (Senders p) notify (inr k) = kept old new task name (Senders p) notify k.1

-- ---- how many send-once rights are made

module _ (asked : Asked) where
  none_for : asked.notify ≡ null_word → made_for asked ≡ 0
  none_for none = let e : (asked.notify == null_word) ≡ true = eq-eqb asked.notify null_word none in rw e refl

  abbrev by_number : ℕ → ℕ
  by_number n = if n == 21 then 1 else 0

  same_for : (d : Disposition) → asked.notify ≢ null_word → disposition asked.disposition ≡ Some d → kind_sent d ≡ send_once → made_for asked ≡ (if makes_right d then 1 else 0)
  same_for d some given once = grind (arith, number_of)

made_right : (g : Paying) → kind_sent g.given ≡ send_once → made_by (Some g) ≡ once_made_by_mark g.given (mark.Port g.port)
made_right g once = grind arith

same_made : (w : WorldView) (task : ℕ) (asked : Asked) (paying : Option Paying) → Pays w task asked paying → made_for asked ≡ made_by paying
same_made w task asked None none = none_for asked none
same_made w task asked (Some g) pays = same_for asked g.given pays.0 pays.2 pays.3

-- ---- the whole

-- so many slots there were before and so many such rights, of which more were made; so many are there now
module _ (before unused more now unused_now : ℕ) where
  abbrev IsBalanced : Type 0
  IsBalanced = (now + unused + more ≤ before + unused_now) ⊎ (now ≤ unused_now)

  -- none was used, or one
  balanced : (now ≡ max before (unused + more)) × (unused_now ≡ unused + more) ⊎ (now ≡ max before (unused + more) - 1) × (unused_now ≡ unused + more - 1) → IsBalanced
  balanced (inl h) = let a = h.0 in let b = h.1 in elim (leb_tells now unused_now) [ inl few ↦ inr few.1 | inr many ↦ (let m = many.1 in inl (omega (arith, a, b, m))) ]
  balanced (inr h) = let a = h.0 in let b = h.1 in elim (leb_tells now unused_now) [ inl few ↦ inr few.1 | inr many ↦ (let m = many.1 in inl (omega (arith, a, b, m))) ]

module _ (w ready : WorldView) (task name : ℕ) (asked : Asked) (same : SameButRooms w ready) where
  ready_unused : ready.ledger.unused ≡ w.ledger.unused
  ready_unused = ap (λ (l : LedgerView). l.unused) same.same.ledger

  ready_lost : ready.ports.lost ≡ w.ports.lost
  ready_lost = ap (λ (p : PortsView Kept). p.lost) same.same.ports

  -- where no right pays
  leaves_removed : (subject : Subject) (previous : Option ℕ) → MakesSlotsFor w 0 ready → made_for asked ≡ 0 → (word : ℕ) (new : WorldView) → Ends ready task name subject previous word new → LeavesRequest w asked (Ok (Reply.Previous word)) new
  leaves_removed subject previous made none word new e = grind (arith, ended, ready_unused, balanced, ready_lost)

  leaves_renewed : (g : Paying) (subject : Subject) (previous : Option ℕ) (more : ℕ) → MakesSlotsFor w more ready → more ≡ once_made_by_mark g.given (mark.Port g.port) → made_for asked ≡ more →
      (mid out : WorldView) (word : ℕ) (new : WorldView) → Goes ready task g mid → Ends mid task name subject previous word out → Puts out task name asked.sync subject g.port new → LeavesRequest w asked (Ok (Reply.Previous word)) new
  leaves_renewed g subject previous more made once for mid out word new c e p = grind (
    arith,
    goes ready mid task g c,
    ended mid out task name subject previous word e,
    puts out new task name asked.sync subject g.port p,
    ready_unused,
  )

-- A request that is carried out so leaves so much.
pub leaves_request : (w ready : WorldView) (task name : ℕ) (asked : Asked) (paying : Option Paying) (subject : Subject) (previous : Option ℕ) → Pays w task asked paying → SameButRooms w ready → MakesSlotsFor w (made_by paying) ready →
    (word : ℕ) (new : WorldView) → CarriesOut ready task name asked.sync paying subject previous word new → LeavesRequest w asked (Ok (Reply.Previous word)) new
leaves_request w ready task name asked None subject previous pays same made word new e =
    leaves_removed w ready task name asked same subject previous made (same_made w task asked None pays) word new e
leaves_request w ready task name asked (Some g) subject previous pays same made word new r =
    leaves_renewed w ready task name asked same g subject previous (made_by (Some g)) made (made_right g pays.3) (same_made w task asked (Some g) pays) r.mid r.out word new r.copies r.ends r.puts
