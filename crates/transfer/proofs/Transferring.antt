-- A right handed from a task to another: refused in each state that the tables show, or done.
use Rattle.std.proofs.Common.{◌≡◌, ◌≢◌, ℕ, ◌+◌, ◌<◌, ◌≤◌, List, [], ◌∷◌, ◌++◌, Option, Some, None, refl, sym, ap, subst, ◌∙◌, arith, true, false, Bool, ◌⊎◌, inl, inr, length}
use Rattle.std.specs.Prelude.{if◌then◌else◌, max, nat_lt, ◌==◌, ◌&&◌, MatchBool}
use Rattle.std.specs.Option.{option_map}
use Rattle.std.specs.FinMap as map
use Rattle.std.proofs.lemmas.Bool.{lt-ltb, le-ltb, ltb-true, ltb-false}
use Rattle.mach_types.specs.declared.calls.Event.{Event}
use Rattle.mach_types.specs.declared.calls.Reply.{Reply}
use Rattle.mach_types.specs.declared.codes.KernReturn.TheVariants.{ResourceShortage}
use Rattle.mach_types.specs.declared.rights.Disposition.{Disposition}
use Rattle.mach_types.specs.Guards.{FirstIs, NoneHolds}
use Rattle.mach_types.specs.Messages.{to_port}
use Rattle.mach_types.specs.Numbers.{disposition, kind_sent, kind_number, dead_word, most_references, most_rights}
use Rattle.mach_types.specs.Codes.{kern_number}
use Rattle.mach_types.specs.Tokens.{Kind, receive, send, send_once, in_task, in_message, Token, token, weigh}
use Rattle.mach_model.specs.State.{State, Target, lookup, held, with_name}
use Rattle.mach_model.specs.Carried.{lying}
use Rattle.mach_model.specs.CopyIn.{CopyRight}
use Rattle.mach_model.specs.CopyOut.{given_to, NamedOnce, NamedFor}
use Rattle.mach_model.proofs.Moving.{IsOutside}
use Rattle.mach_model.specs.Refusals.{insert_guards, extract_guards}
use Rattle.mach_model.specs.NameGuards.{IsNoName}
use Rattle.mach_model.specs.Acts.{Does}
use Rattle.mach_model.specs.Machine.{Judged}
use Rattle.mach_model.specs.Transfer.{target_for, pegged, Inserts, Extracts}
use Rattle.mach_model.specs.TransferRefusals.{extracted_guards, inserted_guards}
use Rattle.name_space.specs.declared.Entry.{Entry}
use Rattle.name_space.specs.Names.{Names, SpaceView, IsUsable}
use Rattle.rights.specs.Ledger.{LedgerView}
use Rattle.copyin_base.specs.Serving.{Completes, Declines, HasTasks, IsAllowed}
use Rattle.port.specs.Ports.{PortsView}
use Rattle.copyin_base.specs.Kept.{Kept}
use Rattle.copyin_base.specs.Changes.{KeepsPlace, SameButRoom, NotesSenders, with_slots}
use Rattle.copyin_base.specs.Shows.{target_of, Agrees, SlotsSuffice, Shows}
use Rattle.copyin_base.specs.Stands.{Stands}
use Rattle.copyin_base.specs.Worlds.{WorldView, space_at, HasTask}
use Rattle.copyin_base.specs.declared.Mark.TheVariants as mark
use Rattle.mach_model.proofs.Midway.{LosesNone}
use Rattle.copyin_base.proofs.Acting.{Does-so, refused_later, done}
use Rattle.copyin_base.proofs.Roomier.{room_made, place_kept, room_refl, room_entry, room_shows, slots_show}
use Rattle.copyin_base.proofs.SendersNoted.{senders_same, senders_kept, keeps_senders_trans}
use Rattle.copyin_base.proofs.Taking.{Without, take_lying}
use Rattle.copyin_base.proofs.Told.{space_there}
use Rattle.copyin.specs.Copies.{CopiesRight}
use Rattle.copyin.specs.Judging.{made_by_mark}
use Rattle.copyin.specs.Planned.{CanCopy}
use Rattle.copyin.specs.Slots.{once_made_by_mark}
use Rattle.copyin.proofs.Committing.{copied_once}
use Rattle.copyout.specs.Giving.{alone, GivesPort, GivesMark}
use Rattle.copyout.specs.Putting.{CanPut, PutsPort}
use Rattle.copyout.specs.Ready.{CanGive}
use Rattle.copyout.proofs.Given.{Put, port_put, Given, port_given}
use Rattle.copyout.proofs.Fronts.{notes_roomier}
use Rattle.copyout.proofs.GivenAll.{StaySound, port_put_sound, port_given_sound}
use Rattle.copyout.proofs.Delivered.{put_slots, mark_slots}
use Rattle.transfer.specs.declared.judge.Going.{Going}
use Rattle.transfer.specs.declared.judge.Handed.{Handed}
use Rattle.transfer.specs.declared.judge.TaskName.{TaskName}
use Rattle.transfer.specs.Transfer.{CanGo, WantsName, port_under, going_from, names_needed, MayInsert, MayExtract, left_at, names_in, fewer_if, names_left, rights_then, under_guards, out_guards, insert_later, extract_later}
use Rattle.transfer.specs.Room.{slots_needed, ReadiesInsert, ReadiesExtract, IsRoomier}
use Rattle.transfer.proofs.Going.{usable_name, insert_good, extract_good}
use Rattle.transfer.proofs.Judged.{lies, lives, copied_in, sends_are, few, none_inserted, first_inserted, none_extracted, first_extracted}
use Rattle.transfer.proofs.Left.{Left, is_left, went_world, went_left, can_copy}
use Rattle.transfer.proofs.Readied.{few_then, can_put, can_give}
use Rattle.copyin_base.proofs.Spaces.{space-set_same}

one_given : (o : Option Disposition) (a b : Disposition) → o ≡ Some a → o ≡ Some b → a ≡ b
one_given o a b x y = let e : Some a ≡ Some b = sym x ∙ y in cc

-- ---- refused, once the right was copied in

module _ (w : WorldView) (task number : ℕ) (g : Going) (goes : CanGo w number g) (below : HasTask w task) where
  abbrev from : ℕ
  from = g.from

  abbrev poly : ℕ
  poly = g.name

  abbrev late_kind : Kind
  late_kind = kind_sent g.given

  space : (x : SpaceView) × (space_at w task ≡ Some x)
  space = space_there w task below

  module _ (s : State) (sh : Shows w s) where
    abbrev gone : WorldView
    gone = went_world w s sh task number g goes

    late_left : Left w s task number g gone
    late_left = went_left w s sh task number g goes space.0 space.1

    late_others : Without (token late_kind g.port (in_message 0 (length (s.log 0)))) late_left.t.ledger
    late_others = take_lying 0 (length (s.log 0)) late_kind g.port late_left.t.ledger (lies w s task number g gone late_left)

    abbrev late : State
    late = record late_left.t { ledger = token late_kind g.port (in_task task) ∷ late_others.others }

    late_copy : CopyRight from (in_task task) number poly s (to_port g.port) late
    late_copy = copied_in w s task number g gone late_left late_others.others late_others.parts

  module _ (name : ℕ) (named : ¬ (IsNoName name)) (poly_named : ¬ (IsNoName poly)) where
    pub insert_allowed : IsAllowed w (λ s. insert_guards s task name from poly number)
    insert_allowed = record { allowed = λ s sh. insert_good s from poly number g.port (in_task task) (late s sh) (late_copy s sh) task name named poly_named }

    pub insert_refused : HasTasks w (Event.InsertRight task name from poly number) → (code : ℕ) → FirstIs (insert_later w task name g) code → Declines w (Event.InsertRight task name from poly number) code w
    insert_refused tasks code first = refused_later w (Event.InsertRight task name from poly number) tasks code record { allowed = λ s sh. insert_allowed.allowed s sh } (λ s sh.
        (g.port, late s sh, g.given, goes.given, late_copy s sh, inl (first_inserted w s task number g (gone s sh) (late_left s sh) (late_others s sh).others (late_others s sh).parts name code first)))

    pub insert_short : HasTasks w (Event.InsertRight task name from poly number) → NoneHolds (insert_later w task name g) →
        Declines w (Event.InsertRight task name from poly number) (kern_number ResourceShortage) w
    insert_short tasks none = refused_later w (Event.InsertRight task name from poly number) tasks (kern_number ResourceShortage) record { allowed = λ s sh. insert_allowed.allowed s sh } (λ s sh.
        (g.port, late s sh, g.given, goes.given, late_copy s sh, inr (none_inserted w s task number g (gone s sh) (late_left s sh) (late_others s sh).others (late_others s sh).parts name none, refl)))

  pub extract_allowed : IsAllowed w (λ s. extract_guards s from poly number task)
  extract_allowed = record { allowed = λ s sh. extract_good s from poly number g.port (in_task task) (late s sh) (late_copy s sh) task }

  pub extract_refused : HasTasks w (Event.ExtractRight from poly number task) → (code : ℕ) → FirstIs (extract_later w task g) code → Declines w (Event.ExtractRight from poly number task) code w
  extract_refused tasks code first = refused_later w (Event.ExtractRight from poly number task) tasks code record { allowed = λ s sh. extract_allowed.allowed s sh } (λ s sh.
      (g.port, late s sh, g.given, goes.given, late_copy s sh, inl (first_extracted w s task number g (gone s sh) (late_left s sh) (late_others s sh).others (late_others s sh).parts code first)))

  pub extract_short : HasTasks w (Event.ExtractRight from poly number task) → NoneHolds (extract_later w task g) → Declines w (Event.ExtractRight from poly number task) (kern_number ResourceShortage) w
  extract_short tasks none = refused_later w (Event.ExtractRight from poly number task) tasks (kern_number ResourceShortage) record { allowed = λ s sh. extract_allowed.allowed s sh } (λ s sh.
      (g.port, late s sh, g.given, goes.given, late_copy s sh, inr (none_extracted w s task number g (gone s sh) (late_left s sh) (late_others s sh).others (late_others s sh).parts none, refl)))

-- ---- done, in tables where room was made

-- as many names, where they are the same
as_many : (o q : Option SpaceView) → option_map (λ (x : SpaceView). x.names) o ≡ option_map (λ (x : SpaceView). x.names) q → names_in o ≡ names_in q
as_many None None e = refl
as_many (Some x) (Some y) e = let same : x.names ≡ y.names = cc in ap (λ (m : Names). map.len m) same
as_many None (Some y) e = absurd (cc)
as_many (Some x) None e = absurd (cc)

-- where the right needs a name more there is room for it
some_room : {P : Type 0} (is_new : Bool) (room : ℕ) → MatchBool is_new P (¬ P) → P → 0 < max room (if is_new then 1 else 0)
some_room true room needs p = omega arith
some_room false room needs p = absurd (needs p)

-- The tables after a place and slots were made: all is as before, so many more slots are spare than there are send-once rights that no
-- queued message goes by, and this is so of the task's names.
pub record Readies (w : WorldView) (task more : ℕ) (Placed : SpaceView → Type 0) (ready : WorldView) : Type 0 where
  pub spare : ℕ
  pub same : SameButRoom (with_slots w spare) ready
  pub enough : w.ledger.unused + more ≤ spare
  pub space : SpaceView
  pub there : space_at ready task ≡ Some space
  pub placed : Placed space

-- spare slots are of no account to what is noted
pub notes_slots : (w : WorldView) (n : ℕ) (new : WorldView) → NotesSenders (with_slots w n) new → NotesSenders w new
notes_slots w n new notes = record { noted = notes.noted; had = notes.had }

-- slots were made after room
slots_same_room : (w mid ready : WorldView) (n : ℕ) → SameButRoom w mid → ready ≡ with_slots mid n → SameButRoom (with_slots w n) ready
slots_same_room w mid ready n s e = subst (SameButRoom (with_slots w n)) (sym e) record {
  naming = record {
    tasks = s.tasks;
    names = s.names;
    ports = ap (λ (p : PortsView Kept). record p { spare = n }) s.ports;
    ledger = s.ledger;
    sets = s.sets;
    requests = s.requests;
    profile = s.profile;
  };
  given = s.given;
}

enough_made : (w mid : WorldView) (more : ℕ) → SameButRoom w mid → w.ledger.unused + more ≤ max mid.ports.spare (mid.ledger.unused + more)
enough_made w mid more s = let e : mid.ledger.unused ≡ w.ledger.unused = ap (λ (l : LedgerView). l.unused) s.ledger in omega (arith, e)

module _ (w : WorldView) (task number : ℕ) (g : Going) (goes : CanGo w number g) (ready : WorldView) (Placed : SpaceView → Type 0)
    (m : Readies w task (once_made_by_mark g.given (mark.Port g.port)) Placed ready) where
  abbrev slotted_world : WorldView
  slotted_world = with_slots w m.spare

  same : SameButRoom slotted_world ready
  same = m.same

  goes_ready : CanGo ready number g
  goes_ready = record { given = goes.given; entry = goes.entry; found = room_entry slotted_world ready same g.from g.name ∙ goes.found; is = goes.is }

  same_at : left_at ready task g ≡ left_at w task g
  same_at = λ i n. if task == g.from && n == g.name then g.left else room_entry slotted_world ready same task n i

  at_same : (n : ℕ) → left_at ready task g n ≡ left_at w task g n
  at_same n = ap (λ (f : ℕ → Option Entry). f n) same_at

  same_names : names_left ready task g ≡ names_left w task g
  same_names = ap (λ (n : ℕ). fewer_if (task == g.from) g.left n) (as_many (space_at ready task) (space_at w task) (same.names task))

  same_rights : rights_then ready g ≡ rights_then w g
  same_rights = ap (λ (l : LedgerView). l.total + made_by_mark g.given (mark.Port g.port)) same.ledger

  insert_ready : (name : ℕ) → NoneHolds (insert_later w task name g) → NoneHolds (insert_later ready task name g)
  insert_ready name none = subst NoneHolds (λ i. under_guards (sym same_at i) (sym same_names i) (sym same_rights i) name g.port (kind_sent g.given)) none

  extract_ready : NoneHolds (extract_later w task g) → NoneHolds (extract_later ready task g)
  extract_ready none = subst NoneHolds (λ i. out_guards (sym same_at i) (sym same_names i) (sym same_rights i) g.port (kind_sent g.given)) none

  module _ (s : State) (sh : Shows w s) where
    shows_ready : Shows ready s
    shows_ready = room_shows slotted_world ready s same (slots_show w s m.spare (let e = m.enough in omega (arith, e)) sh)

    pub ready_copies : ¬ (most_rights < rights_then w g) → CanCopy ready g.from g.name (record { given = g.given; mark = mark.Port g.port })
    ready_copies few = can_copy ready s shows_ready task number g goes_ready (subst (λ (n : ℕ). n ≤ most_rights) (sym same_rights) (few_then w g few))

    module _ (mid : WorldView) (copies : CopiesRight ready g.from g.given g.name (mark.Port g.port) mid) where
      abbrev kind : Kind
      kind = kind_sent g.given

      pub left : Left ready s task number g mid
      left = is_left ready s shows_ready task number g goes_ready m.space m.there mid copies

      pub mid_puts : (name : ℕ) → IsUsable name → (left_at w task g name ≡ None → m.space.kept ≡ Some name) → NoneHolds (insert_later w task name g) → CanPut mid task kind g.port name
      mid_puts name usable is_kept none = can_put ready s task number g mid left m.space m.there name usable (λ unused. is_kept (sym (at_same name) ∙ unused)) (insert_ready name none)

      pub mid_gives : (WantsName w task g → 0 < m.space.room) → NoneHolds (extract_later w task g) → CanGive mid task (record { given = g.given; mark = mark.Port g.port } ∷ [])
      mid_gives wide none = can_give ready s task number g mid left m.space m.there (λ wants. wide (subst (λ (f : ℕ → Option Entry). (kind_sent g.given ≡ send_once) ⊎ ((k : ℕ) → port_under (f k) ≢ Some g.port)) same_at wants)) (extract_ready none)

      -- the right that is made, if one is, has a slot
      mid_slots : SlotsSuffice mid
      mid_slots =
          let c = copied_once ready mid g.from g.given g.name (mark.Port g.port) copies in
          let spare : ready.ports.spare ≡ m.spare = ap (λ (p : PortsView Kept). p.spare) same.ports in
          let unused : ready.ledger.unused ≡ w.ledger.unused = ap (λ (l : LedgerView). l.unused) same.ledger in
          let e = m.enough in
          omega (arith, c.unused, c.spare, spare, unused, e)

      abbrev k : ℕ
      k = length (s.log 0)

      lie : 0 < lying left.t kind g.port (in_message 0 k)
      lie = lies ready s task number g mid left

      -- no log has the entry
      outside : IsOutside left.t 0 k
      outside = inr (let same : length (left.t.log 0) ≡ k = ap (λ (x : State). length (x.log 0)) left.copies.rest in omega (arith, same))

      -- no port loses its last send right
      stay_notes : (new : WorldView) → StaySound mid new → NotesSenders w new
      stay_notes new stay = notes_slots w m.spare new (notes_roomier slotted_world ready new same
          (senders_kept ready ready new (senders_same ready shows_ready.idle.noted) (keeps_senders_trans ready mid new left.senders stay.senders)))

      -- the call does so, where what comes is sound, and its slots suffice
      does_so : (event : Event) (reply : Reply) (new : WorldView) (now : ℕ) (t : State) → (does : Does now s event reply t []) → Judged now s event reply t [] does → LosesNone s event reply → Agrees new t →
          StaySound mid new → SlotsSuffice new → Does-so w event reply new now s
      does_so event reply new now t does judged loses agrees stay slots = record {
        mid = t;
        owed = [];
        does = does;
        judged = judged;
        loses_none = loses;
        none_owed = refl;
        agrees = agrees;
        holders = stay.sound.holders;
        carriers = stay.sound.carriers;
        slots = slots;
        requested = stay.sound.requested;
        notes = stay_notes new stay;
        none_lost = stay.sound.none_lost;
      }

      -- ---- under a name

      module _ (name : ℕ) (none : NoneHolds (insert_later w task name g)) (new : WorldView) (puts : PutsPort mid task kind g.port name new) where
        put : Put left.t 0 k task kind g.port name new
        put = port_put mid left.t left.agrees 0 k left.copies.keeps task kind g.port name new lie puts

        abbrev copied : State
        copied = record left.t { ledger = token kind g.port (in_task task) ∷ put.others }

        copy : CopyRight g.from (in_task task) number g.name s (to_port g.port) copied
        copy = copied_in ready s task number g mid left put.others put.parts

        unrefused : NoneHolds (inserted_guards copied task name g.port kind)
        unrefused = none_inserted ready s task number g mid left put.others put.parts name (insert_ready name none)

        comes : (c : Kind) → c ≡ kind → given_to c g.port task left.t ≡ token c g.port (in_task task) ∷ []
        comes receive is = refl
        comes send_once is = refl
        comes send is =
            let a = sends_are ready s task number g mid left put.others put.parts send is in
            let b : held copied task send g.port ≤ most_references = at_most (held copied task send g.port) unrefused.1.1.0 in
            let c : nat_lt (held left.t task send g.port) most_references ≡ true = lt-ltb (held left.t task send g.port) most_references (omega (arith, a, b)) in rw c refl
          where
            at_most : (n : ℕ) → ¬ (most_references < n) → n ≤ most_references
            at_most n h = omega (arith, h)

        abbrev inserted : State
        inserted = record put.named { ledger = token kind g.port (in_task task) ∷ put.others }

        insert_agrees : Agrees new inserted
        insert_agrees = subst (λ (xs : List Token). Agrees new (record put.named { ledger = xs ++ put.others })) (comes kind refl) put.agrees

        insert_slots : SlotsSuffice new
        insert_slots = put_slots mid new task kind g.port name puts mid_slots

        insert_sound : StaySound mid new
        insert_sound = port_put_sound mid left.t left.agrees left.sound 0 k left.copies.keeps outside task kind g.port name lie new puts

        same_target : (c : Kind) → target_of (alone c g.port) ≡ target_for c g.port
        same_target receive = refl
        same_target send = refl
        same_target send_once = refl

        named_then : (lookup copied task name ≢ None) × (inserted ≡ copied) ⊎ (lookup copied task name ≡ None) × (inserted ≡ with_name task name (target_for kind g.port) copied)
        named_then = elim put.under [
          | inl h ↦ inl ((λ e. let f : None ≡ Some (Target.port g.port) = sym e ∙ h.1 in cc), ap (λ (x : State). record x { ledger = copied.ledger }) h.2)
          | inr h ↦ inr (h.0, ap (λ (x : State). record x { ledger = copied.ledger }) h.2 ∙ ap (λ (x : Target). with_name task name x copied) (same_target kind))
        ]

        insert_same : g.given ≡ copy.given
        insert_same = one_given (disposition number) g.given copy.given goes.given copy.is_given

        abbrev inserts : Inserts task name g.from g.name number s inserted
        inserts =
            record {
              p = g.port;
              copied = copied;
              copy = copy;
              named = subst (λ (d : Disposition). (lookup copied task name ≢ None) × (inserted ≡ copied) ⊎ (lookup copied task name ≡ None) × (inserted ≡ with_name task name (target_for (kind_sent d) g.port) copied)) insert_same named_then;
            }

        pub inserts_so : (now : ℕ) → Does-so w (Event.InsertRight task name g.from g.name number) (Reply.Code 0) new now s
        inserts_so now = does_so (Event.InsertRight task name g.from g.name number) (Reply.Code 0) new now inserted (refl, inserts, refl)
            (subst (λ (d : Disposition). NoneHolds (inserted_guards copied task name g.port (kind_sent d))) insert_same unrefused) tt insert_agrees insert_sound insert_slots

      -- ---- under a name that the kernel chooses

      module _ (none : NoneHolds (extract_later w task g)) (new_name : ℕ) (new : WorldView) (gives : GivesMark mid task kind (mark.Port g.port) new_name new) where
        gives_port : GivesPort mid task kind g.port new_name new
        gives_port = subst (λ (b : Bool). MatchBool b (GivesPort mid task kind g.port new_name new) ((new_name ≡ dead_word) × (new ≡ mid))) (left.agrees.live_port g.port ∙ lives ready s task number g mid left) gives

        given : Given left.t 0 k task kind g.port new_name new
        given = port_given mid left.t left.agrees 0 k left.copies.keeps task kind g.port new_name new lie gives_port

        extract_slots : SlotsSuffice new
        extract_slots = mark_slots mid new task kind (mark.Port g.port) new_name gives mid_slots

        extract_sound : StaySound mid new
        extract_sound = port_given_sound mid left.t left.agrees left.sound 0 k left.copies.keeps outside task kind g.port new_name lie new gives_port

        others : Without (token kind g.port (in_message 0 k)) left.t.ledger
        others = take_lying 0 k kind g.port left.t.ledger lie

        abbrev out : State
        out = record left.t { ledger = token kind g.port (in_task task) ∷ others.others }

        copy_out : CopyRight g.from (in_task task) number g.name s (to_port g.port) out
        copy_out = copied_in ready s task number g mid left others.others others.parts

        named_once : (named : State) → NamedOnce task new_name g.port left.t named → NamedOnce task new_name g.port out (record named { ledger = out.ledger })
        named_once named (inl h) = inl (h.0, ap (λ (y : State). record y { ledger = out.ledger }) h.1)
        named_once named (inr h) = inr (h.0, record { room = h.1.room; fresh = h.1.fresh; rest = ap (λ (y : State). record y { ledger = out.ledger }) h.1.rest })

        named_for : (c : Kind) (named : State) → NamedFor c task new_name g.port left.t named → NamedFor c task new_name g.port out (record named { ledger = out.ledger })
        named_for receive named h = named_once named h
        named_for send named h = named_once named h
        named_for send_once named h = record { room = h.room; fresh = h.fresh; rest = ap (λ (y : State). record y { ledger = out.ledger }) h.rest }

        none_pegged : held out task send g.port ≤ most_references → pegged task g.port out ≡ []
        none_pegged h = let e : nat_lt most_references (held out task send g.port) ≡ false = le-ltb most_references (held out task send g.port) h in rw e refl

        one_pegged : most_references < held out task send g.port → pegged task g.port out ≡ token send g.port (in_task task) ∷ []
        one_pegged h = let e : nat_lt most_references (held out task send g.port) ≡ true = lt-ltb most_references (held out task send g.port) h in rw e refl

        -- the right comes, or it is pegged
        other_comes : (c : Kind) → c ≡ kind → held out task send g.port ≡ held left.t task send g.port → (h : Token → ℕ) → weigh h (pegged task g.port out) ≡ 0
        other_comes c is same h = let b = few ready s task number g mid left others.others others.parts in ap (weigh h) (none_pegged (omega (arith, same, b)))

        comes_out : (c : Kind) → c ≡ kind → (h : Token → ℕ) → weigh h (given_to c g.port task left.t) + weigh h (pegged task g.port out) ≡ h (token c g.port (in_task task))
        comes_out receive is h =
            let a = sends_are ready s task number g mid left others.others others.parts receive is in
            let c = other_comes receive is (omega (arith, a)) h in omega (arith, c)
        comes_out send_once is h =
            let a = sends_are ready s task number g mid left others.others others.parts send_once is in
            let c = other_comes send_once is (omega (arith, a)) h in omega (arith, c)
        comes_out send is h = by (nat_lt (held left.t task send g.port) most_references) refl
          where
            by : (b : Bool) → nat_lt (held left.t task send g.port) most_references ≡ b →
                weigh h (if b then token send g.port (in_task task) ∷ [] else []) + weigh h (pegged task g.port out) ≡ h (token send g.port (in_task task))
            by true e =
                let a = sends_are ready s task number g mid left others.others others.parts send is in
                let b = ltb-true (held left.t task send g.port) most_references e in
                let c = ap (weigh h) (none_pegged (omega (arith, a, b))) in omega (arith, c)
            by false e =
                let a = sends_are ready s task number g mid left others.others others.parts send is in
                let b = ltb-false (held left.t task send g.port) most_references e in
                let c = ap (weigh h) (one_pegged (omega (arith, a, b))) in omega (arith, c)

        extract_same : g.given ≡ copy_out.given
        extract_same = one_given (disposition number) g.given copy_out.given goes.given copy_out.is_given

        abbrev extracts : Extracts g.from g.name number task new_name (kind_number kind) s given.t
        extracts =
            record {
              p = g.port;
              copied = out;
              copy = copy_out;
              kind_is = ap (λ (d : Disposition). kind_number (kind_sent d)) extract_same;
              named_state = record given.gives.named_state { ledger = out.ledger };
              named = subst (λ (d : Disposition). NamedFor (kind_sent d) task new_name g.port out (record given.gives.named_state { ledger = out.ledger })) extract_same (named_for kind given.gives.named_state given.gives.named);
              rest = given.gives.rest;
              tokens = λ h.
                  let a = given.gives.tokens h in
                  let b = others.parts h in
                  let c = comes_out kind refl h in omega (arith, a, b, c);
            }

        pub extracts_so : (now : ℕ) → Does-so w (Event.ExtractRight g.from g.name number task) (Reply.Right new_name (kind_number kind)) new now s
        extracts_so now = does_so (Event.ExtractRight g.from g.name number task) (Reply.Right new_name (kind_number kind)) new now given.t (extracts, refl)
            (subst (λ (d : Disposition). NoneHolds (extracted_guards out task g.port (kind_sent d))) extract_same
            (none_extracted ready s task number g mid left others.others others.parts (extract_ready none))) tt given.agrees extract_sound extract_slots

-- ---- what was judged, by where it stands

module _ (w : WorldView) (from : TaskName) (number : ℕ) (g : Going) (from_is : g.from ≡ from.task) (name_is : g.name ≡ from.name) (goes : CanGo w number g) where
  is_at : (handed : Handed) → handed.given ≡ g.given → handed.port ≡ g.port → g ≡ going_from from handed g.left
  is_at handed e f = λ i. record { from = from_is i; name = name_is i; given = sym e i; port = sym f i; left = g.left }

  abbrev it : Handed
  it = record { given = g.given; port = g.port; is_new = false }

  module _ (to : TaskName) (to_named : ¬ (IsNoName to.name)) (from_named : ¬ (IsNoName from.name)) where
    pub may_insert : (handed : Handed) → handed.given ≡ g.given → handed.port ≡ g.port → NoneHolds (insert_later w to.task to.name g) →
        MatchBool handed.is_new (left_at w to.task g to.name ≡ None) (left_at w to.task g to.name ≢ None) → MayInsert w to from number handed
    may_insert handed e f none is_new =
        let at = is_at handed e f in
        record {
          left = g.left;
          goes = subst (CanGo w number) at goes;
          to_named = to_named;
          from_named = from_named;
          unrefused = subst (λ (x : Going). NoneHolds (insert_later w to.task to.name x)) at none;
          is_new = subst (λ (x : Going). MatchBool handed.is_new (left_at w to.task x to.name ≡ None) (left_at w to.task x to.name ≢ None)) at is_new;
        }

    pub insert_declined : (HasTask w to.task) × (HasTask w from.task) → (code : ℕ) → FirstIs (insert_later w to.task to.name g) code →
        Declines w (Event.InsertRight to.task to.name from.task from.name number) code w
    insert_declined tasks code first =
        let e = is_at it refl refl in
        insert_refused w to.task number (going_from from it g.left) (subst (CanGo w number) e goes) tasks.0 to.name to_named from_named tasks code
        (subst (λ (x : Going). FirstIs (insert_later w to.task to.name x) code) e first)

  pub may_extract : (to : ℕ) (handed : Handed) → handed.given ≡ g.given → handed.port ≡ g.port → NoneHolds (extract_later w to g) →
      MatchBool handed.is_new (WantsName w to g) (¬ (WantsName w to g)) → MayExtract w from number to handed
  may_extract to handed e f none is_new =
      let at = is_at handed e f in
      record {
        left = g.left;
        goes = subst (CanGo w number) at goes;
        unrefused = subst (λ (x : Going). NoneHolds (extract_later w to x)) at none;
        is_new = subst (λ (x : Going). MatchBool handed.is_new (WantsName w to x) (¬ (WantsName w to x))) at is_new;
      }

  pub extract_declined : (to : ℕ) → (HasTask w from.task) × (HasTask w to) → (code : ℕ) → FirstIs (extract_later w to g) code →
      Declines w (Event.ExtractRight from.task from.name number to) code w
  extract_declined to tasks code first =
      let e = is_at it refl refl in
      extract_refused w to number (going_from from it g.left) (subst (CanGo w number) e goes) tasks.1 tasks code (subst (λ (x : Going). FirstIs (extract_later w to x) code) e first)

-- ---- the calls, by what was judged and the room that was made

module _ (w : WorldView) (to from : TaskName) (number : ℕ) (handed : Handed) (may : MayInsert w to from number handed) where
  abbrev inserting : Going
  inserting = going_from from handed may.left

  abbrev to_insert : Event
  to_insert = Event.InsertRight to.task to.name from.task from.name number

  -- where memory is lacking, only room was made
  pub insert_short_of : (HasTask w to.task) × (HasTask w from.task) → (new : WorldView) → IsRoomier w new → Declines w to_insert (kern_number ResourceShortage) new
  insert_short_of tasks new r = record {
    refuses = (insert_short w to.task number inserting may.goes tasks.0 to.name may.to_named may.from_named tasks may.unrefused).refuses;
    shows = λ s sh. room_shows w new s r.same sh;
  }

  -- a place is kept for the name, where the right needs one
  abbrev Placed : SpaceView → Type 0
  Placed x = left_at w to.task inserting to.name ≡ None → x.kept ≡ Some to.name

  -- what was so of a task's names still is
  record PlacedNames (ready : WorldView) : Type 0 where
    same : SameButRoom w ready
    space : SpaceView
    there : space_at ready to.task ≡ Some space
    placed : Placed space

  placed : HasTask w to.task → (ready : WorldView) (is_new : Bool) → MatchBool is_new (left_at w to.task inserting to.name ≡ None) (left_at w to.task inserting to.name ≢ None) →
      MatchBool is_new (KeepsPlace w to.task to.name ready) (ready ≡ w) → PlacedNames ready
  placed below ready true needs k = record {
    same = place_kept w ready to.task to.name k;
    space = record k.space { kept = Some to.name };
    there = ap (λ (x : WorldView). space_at x to.task) k.rest ∙ space-set_same w.spaces to.task (record k.space { kept = Some to.name }) k.space k.there;
    placed = λ unused. refl;
  }
  placed below ready false not e = let x = space_there w to.task below in record {
    same = subst (SameButRoom w) (sym e) (room_refl w);
    space = x.0;
    there = ap (λ (v : WorldView). space_at v to.task) e ∙ x.1;
    placed = λ unused. absurd (not unused);
  }

  module _ (ready : WorldView) (made : ReadiesInsert w to handed ready) (below : HasTask w to.task) where
    at_place : PlacedNames made.mid
    at_place = placed below made.mid handed.is_new may.is_new made.placed

    room : Readies w to.task (slots_needed handed) Placed ready
    room = record {
      spare = max made.mid.ports.spare (made.mid.ledger.unused + slots_needed handed);
      same = slots_same_room w made.mid ready (max made.mid.ports.spare (made.mid.ledger.unused + slots_needed handed)) at_place.same made.slot;
      enough = enough_made w made.mid (slots_needed handed) at_place.same;
      space = at_place.space;
      there = ap (λ (x : WorldView). space_at x to.task) made.slot ∙ at_place.there;
      placed = at_place.placed;
    }

    pub inserts_copies : Stands w → CanCopy ready from.task from.name (record { given = handed.given; mark = mark.Port handed.port })
    inserts_copies stands = ready_copies w to.task number inserting may.goes ready Placed room stands.state stands.shown (λ many. may.unrefused.1.1.1.0 (inr many))

    module _ (mid : WorldView) (copies : CopiesRight ready from.task handed.given from.name (mark.Port handed.port) mid) where
      pub inserts_puts : Stands w → CanPut mid to.task (kind_sent handed.given) handed.port to.name
      inserts_puts stands = mid_puts w to.task number inserting may.goes ready Placed room stands.state stands.shown mid copies to.name (usable_name to.name may.to_named)
          room.placed may.unrefused

      pub insert_done : (new : WorldView) → PutsPort mid to.task (kind_sent handed.given) handed.port to.name new → (HasTask w to.task) × (HasTask w from.task) →
          Completes w to_insert (Reply.Code 0) new
      insert_done new puts tasks = done w to_insert (Reply.Code 0) new tasks
          record { allowed = λ s sh. (insert_allowed w to.task number inserting may.goes tasks.0 to.name may.to_named may.from_named).allowed s sh }
          (λ now s sh. inserts_so w to.task number inserting may.goes ready Placed room s sh mid copies to.name may.unrefused new puts now)

module _ (w : WorldView) (from : TaskName) (number to : ℕ) (handed : Handed) (may : MayExtract w from number to handed) where
  abbrev extracting : Going
  extracting = going_from from handed may.left

  abbrev to_extract : Event
  to_extract = Event.ExtractRight from.task from.name number to

  pub extract_short_of : (HasTask w from.task) × (HasTask w to) → (new : WorldView) → IsRoomier w new → Declines w to_extract (kern_number ResourceShortage) new
  extract_short_of tasks new r = record {
    refuses = (extract_short w to number extracting may.goes tasks.1 tasks may.unrefused).refuses;
    shows = λ s sh. room_shows w new s r.same sh;
  }

  -- there is room for the name, where the right needs one
  abbrev Roomy : SpaceView → Type 0
  Roomy x = WantsName w to extracting → 0 < x.room

  module _ (ready : WorldView) (made : ReadiesExtract w to handed ready) where
    abbrev n : ℕ
    n = names_needed handed

    abbrev roomy : SpaceView
    roomy = record made.roomy.space { room = max made.roomy.space.room n }

    same_names_then : SameButRoom w made.mid
    same_names_then = room_made w made.mid to n made.roomy

    roomed : Readies w to (slots_needed handed) Roomy ready
    roomed = record {
      spare = max made.mid.ports.spare (made.mid.ledger.unused + slots_needed handed);
      same = slots_same_room w made.mid ready (max made.mid.ports.spare (made.mid.ledger.unused + slots_needed handed)) same_names_then made.slot;
      enough = enough_made w made.mid (slots_needed handed) same_names_then;
      space = roomy;
      there = ap (λ (x : WorldView). space_at x to) made.slot ∙ ap (λ (x : WorldView). space_at x to) made.roomy.rest ∙ space-set_same w.spaces to roomy made.roomy.space made.roomy.there;
      placed = λ wants. some_room handed.is_new made.roomy.space.room may.is_new wants;
    }

    pub extracts_copies : Stands w → CanCopy ready from.task from.name (record { given = handed.given; mark = mark.Port handed.port })
    extracts_copies stands = ready_copies w to number extracting may.goes ready Roomy roomed stands.state stands.shown (λ many. may.unrefused.0 (inr many))

    module _ (mid : WorldView) (copies : CopiesRight ready from.task handed.given from.name (mark.Port handed.port) mid) where
      pub extracts_gives : Stands w → CanGive mid to (record { given = handed.given; mark = mark.Port handed.port } ∷ [])
      extracts_gives stands = mid_gives w to number extracting may.goes ready Roomy roomed stands.state stands.shown mid copies
          roomed.placed may.unrefused

      pub extract_done : (new_name : ℕ) (new : WorldView) → GivesMark mid to (kind_sent handed.given) (mark.Port handed.port) new_name new → (HasTask w from.task) × (HasTask w to) →
          Completes w to_extract (Reply.Right new_name (kind_number (kind_sent handed.given))) new
      extract_done new_name new gives tasks = done w to_extract (Reply.Right new_name (kind_number (kind_sent handed.given))) new tasks
          record { allowed = λ s sh. (extract_allowed w to number extracting may.goes tasks.1).allowed s sh }
          (λ now s sh. extracts_so w to number extracting may.goes ready Roomy roomed s sh mid copies may.unrefused new_name new gives now)
