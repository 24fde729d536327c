-- The front message of a port, in the tables and in the machine.
use Rattle.std.proofs.Common.{◌≡◌, ℕ, ◌+◌, List, [], ◌∷◌, Option, Some, refl, sym, ap, subst, ◌∙◌, arith, true, zero, suc, drop, ◌<◌, ◌≤◌, Bool, inl, inr, ◌++◌, length, length-append, false, ◌⊎◌}
use Rattle.std.specs.Prelude.{is_some, slice_get, min, if◌then◌else◌, ◌==◌, MatchBool, Contains}
use Rattle.std.proofs.lemmas.List.{length-drop}
use Rattle.std.specs.Option.{option_to_list, option_and_then}
use Rattle.std.proofs.lemmas.Bool.{eq-eqb}
use Rattle.std.proofs.lemmas.Bool.Decides.{eqb_tells}
use Rattle.std.specs.FinMap as map
use Rattle.mach_types.specs.Tokens.{in_message, Kind, Place, receive, send, send_once, count, is_of}
use Rattle.mach_types.specs.Messages.{Entry, Form, short, long, Message, Mark as MachineMark, to_port}
use Rattle.mach_types.specs.declared.calls.Reply.{Reply}
use Rattle.mach_types.specs.declared.calls.Waited.{Waited}
use Rattle.mach_types.specs.declared.codes.MsgReturn.TheVariants.{ReceiveBodyErrorMemory, ReceiveBodyErrorNames}
use Rattle.mach_types.specs.Numbers.{most_bytes, kind_sent}
use Rattle.mach_types.specs.Codes.{msg_number}
use Rattle.mach_types.specs.Bodies.{OneFails}
use Rattle.mach_types.specs.Grammar.{Wire, data_item, port_item, WireBody, wire_text, wires_text, words_text, descriptor_text, body_text}
use Rattle.mach_model.specs.State.{State, queue}
use Rattle.mach_model.specs.Carried.{mark_count, rights_count}
use Rattle.mach_model.specs.Receive.{IsFront, TakesFrom, Receipt}
use Rattle.mach_model.specs.ReceiptRefusals.{ReceiptRefuses}
use Rattle.mach_model.specs.Lawful.{IsLawful}
use Rattle.mach_model.specs.CopyOut.{GiveMark}
use Rattle.mach_model.specs.Room.{MessageLacks, MarkLacks}
use Rattle.mach_model.specs.ReceivedMeans.{form_length, items_length, body_length, message_length}
use Rattle.mach_model.proofs.Moving.{moving}
use Rattle.mach_model.proofs.Names.{lying_le_of}
use Rattle.message_codec.proofs.Shapes.{length-words_text}
use Rattle.message_codec.specs.Spans.{word_count}
use Rattle.rights.specs.Counts.{number_of}
use Rattle.rights.specs.Ledger.{counts_of}
use Rattle.rights.specs.declared.RightKind.TheVariants as right
use Rattle.name_space.proofs.Keys.{same_some, some_or_none}
use Rattle.port.specs.Ports.{PortView, PortsView, NoneQueued, IsNumberedFront}
use Rattle.copyin_base.specs.Kept.{Kept, Keeps, items_of, body_of, items_given, body_given, mark_of}
use Rattle.copyin_base.specs.Worlds.{WorldView, port_at}
use Rattle.copyin_base.specs.Shows.{AllKept, Agrees, Shows}
use Rattle.copyin_base.proofs.KeptEntries.{message_counted, numbers, item_kept, message_kept, rights_of}
use Rattle.copyin_base.specs.declared.Carried.{Carried}
use Rattle.copyin_base.specs.declared.Mark.{Mark}
use Rattle.copyin_base.specs.declared.Mark.TheVariants as mark
use Rattle.copyin_base.specs.Changes.{IsSenderless, NotesSenderless, NotesSenders, SameButRoom}
use Rattle.copyin_base.proofs.Listed.{none_listed}
use Rattle.copyin_base.proofs.SendersNoted.{KeepsSenders, keeps_senders, keeps_senders_trans, sends_taken, sends_elsewhere, senders_same, senders_kept, noted_senderless}
use Rattle.copyin_base.proofs.Gets.{same_found}
use Rattle.copyout.proofs.GivenAll.{AreLying, rights_length, body_words_count}
use Rattle.copyout.specs.Ready.{carried_by, send_for, sends_for, AllEntered, Waits, HasFront, IsNumbered}
use Rattle.copyout.specs.Giving.{LackNames}
use Rattle.copyout.proofs.Rooms.{all_lack, all_lack_too}
use Rattle.copyout.specs.Takes.{destination_right, TakesFront, NotesFront}
use Rattle.copyout.specs.Wanted.{ReturnsSlot}

-- ---- The front message of a port, in the tables and in the machine.

-- The queue begins with an entry that is this message.
pub record HasFront_fronts (p : ℕ) (m : Kept) (behind : List Kept) (es : List Entry) : Type 0 where
  pub first : Entry
  pub others : List Entry
  pub parts : es ≡ first ∷ others
  pub keeps : Keeps p m first.message
  pub rest : AllKept p behind others

has_front : (p : ℕ) (m : Kept) (behind : List Kept) (es : List Entry) → AllKept p (m ∷ behind) es → HasFront_fronts p m behind es
has_front p m behind [] k = absurd k
has_front p m behind (e ∷ es) k = record { first = e; others = es; parts = refl; keeps = k.0; rest = k.1 }

front_of : {A : Type 0} (n : ℕ) (xs : List A) (e : A) (more : List A) → drop n xs ≡ e ∷ more → slice_get xs n ≡ Some e
front_of n [] e more is = absurd (nothing n is)
  where
    nothing : (m : ℕ) → drop m [] ≡ e ∷ more → ⊥
    nothing zero f = cc
    nothing (suc m) f = cc
front_of zero (x ∷ xs) e more is = let same : x ≡ e = cc in ap Some same
front_of (suc n) (x ∷ xs) e more is = front_of n xs e more is

-- the others are what is left once it was taken
pub behind_of : {A : Type 0} (n : ℕ) (xs : List A) (e : A) (more : List A) → drop n xs ≡ e ∷ more → drop (suc n) xs ≡ more
behind_of n [] e more is = absurd (nothing n is)
  where
    nothing : (m : ℕ) → drop m [] ≡ e ∷ more → ⊥
    nothing zero f = cc
    nothing (suc m) f = cc
behind_of zero (x ∷ xs) e more is = cc
behind_of (suc n) (x ∷ xs) e more is = behind_of n xs e more is

-- ---- what the tables show

module _ (w : WorldView) (s : State) (a : Agrees w s) (p : ℕ) (v : PortView Kept) (there : port_at w p ≡ Some v) where
  -- Where none is queued, none is queued in the machine.
  pub shown_empty : v.queue ≡ [] → queue s p ≡ []
  shown_empty e = none_left (queue s p) (subst (λ (ms : List Kept). AllKept p ms (queue s p)) e (a.ports p v there).waiting)
    where
      none_left : (es : List Entry) → AllKept p [] es → es ≡ []
      none_left [] k = refl
      none_left (x ∷ es) k = absurd k

  module _ (m : Kept) (behind : List Kept) (queued : v.queue ≡ m ∷ behind) where
    pub shown_front : HasFront_fronts p m behind (queue s p)
    shown_front = has_front p m behind (queue s p) (subst (λ (ms : List Kept). AllKept p ms (queue s p)) queued (a.ports p v there).waiting)

    pub shown_is_front : IsFront s p shown_front.first
    shown_is_front = front_of (s.taken p) (s.log p) shown_front.first shown_front.others shown_front.parts

    pub shown_lives : s.live_port p ≡ true
    shown_lives = sym (a.live_port p) ∙ ap (λ (o : Option (PortView Kept)). is_some o) there

    -- Its rights lie at its entry.
    pub shown_lying : IsLawful s → AreLying s p (s.taken p) (carried_by m)
    shown_lying l kind q live = grind (
      arith,
      l.carried p 0 shown_front.first shown_lives (ap (λ (es : List Entry). slice_get es 0) shown_front.parts) kind q live,
      message_counted p m shown_front.first.message shown_front.keeps kind q,
    )

-- ---- A front message that isn't received: for want of names, or for its length.

-- ---- how long a message is

length-descriptor : (form : Form) (name size number : ℕ) → length (descriptor_text form name size number) ≡ form_length form
length-descriptor short name size number = refl
length-descriptor long name size number = refl

items_long : (xs : List Wire) (cs : List Carried) → numbers cs ≡ items_given xs → items_length (items_of xs cs) ≡ length (wires_text xs)
items_long [] cs e = refl
items_long (data_item form name size number bytes padding ∷ xs) cs e = grind (arith, items_long xs cs e, length-descriptor, length-append)
items_long (port_item form number sent ∷ xs) cs e =
    let x = item_kept number (length sent) cs (items_given xs) e in
    let more = items_long xs (drop (length sent) cs) x.left in
    let marks = x.many in
    let d = length-descriptor form number 32 (length sent) in
    let a = length-append (descriptor_text form number 32 (length sent)) (words_text sent) in
    let b = length-words_text sent in
    let c = length-append (wire_text (port_item form number sent)) (wires_text xs) in
    omega (arith, more, marks, d, a, b, c)

body_long : (written : WireBody) (cs : List Carried) → numbers cs ≡ body_given written → body_length (body_of written cs) ≡ length (body_text written)
body_long (WireBody.raw bytes) cs e = refl
body_long (WireBody.items xs) cs e = items_long xs cs e

-- A message has as many bytes as are kept of it.
pub kept_length : (port : ℕ) (m : Kept) (message : Message) → Keeps port m message → message_length message ≡ length m.bytes
kept_length port m message k = grind (arith, body_long k.written m.rights k.given, length-drop 24 m.bytes, k.laid_out.room)

-- ---- want of names

module _ (w : WorldView) (s : State) (sh : Shows w s) (task port : ℕ) (is_task : s.live_task task ≡ true) (v : PortView Kept) (there : port_at w port ≡ Some v) (m : Kept) (behind : List Kept) (queued : v.queue ≡ m ∷ behind) where
  abbrev front : HasFront_fronts port m behind (queue s port)
  front = shown_front w s sh.agrees port v there m behind queued

  abbrev message : Message
  message = front.first.message

  abbrev place : Place
  place = in_message port (s.taken port)

  abbrev carried : List Carried
  carried = option_to_list m.reply ++ m.rights

  abbrev Fails : List (Kind × MachineMark) → Type 0
  Fails rs = OneFails (λ old r. MarkLacks task r.0 r.1 old) (λ old r new. (word : ℕ) × GiveMark task place r.0 r.1 old word new) s rs

  -- The task's names don't suffice for the front message.
  pub names_lack : LackNames w task carried → MessageLacks task place message s
  names_lack h = subst Fails (sym (message_kept port m message front.keeps)) (all_lack task port (s.taken port) carried w s sh.agrees (moving s port (s.taken port) sh.lawful) is_task
      (shown_lying w s sh.agrees port v there m behind queued sh.lawful) h)

  -- They suffice.
  pub names_suffice : ¬ (LackNames w task carried) → ¬ (MessageLacks task place message s)
  names_suffice none h = none (all_lack_too task port (s.taken port) carried w s sh.agrees (moving s port (s.taken port) sh.lawful) is_task
      (shown_lying w s sh.agrees port v there m behind queued sh.lawful) (subst Fails (message_kept port m message front.keeps) h))

  module _ (waited : Waited) (from : TakesFrom s task waited port) (room : ℕ) (fits : length m.bytes ≤ min room most_bytes) where
    message_fits : message_length message ≤ min room most_bytes
    message_fits = let e = kept_length port m message front.keeps in omega (arith, e, fits)

    pub refuses_names : LackNames w task carried → ReceiptRefuses s task waited room (msg_number ReceiveBodyErrorNames)
    refuses_names h = grind (arith, shown_is_front, message_fits, names_lack)

    pub refuses_memory : ¬ (LackNames w task carried) → ReceiptRefuses s task waited room (msg_number ReceiveBodyErrorMemory)
    refuses_memory none = grind (arith, shown_is_front, message_fits, names_suffice)

  -- It is too long for the room, and was asked to stay.
  pub receipt_large : (waited : Waited) → TakesFrom s task waited port → (room : ℕ) (n : ℕ) → n ≡ length m.bytes → min room most_bytes < n →
      Receipt s task waited room true (Reply.TooLarge n) s []
  receipt_large waited from room n is above =
      (port, front.first, from, shown_is_front w s sh.agrees port v there m behind queued, is ∙ sym (kept_length port m message front.keeps), above, (refl, refl))

-- No message waits at the port.
pub receipt_empty : (w : WorldView) (s : State) → Agrees w s → (task port : ℕ) (v : PortView Kept) → port_at w port ≡ Some v → v.queue ≡ [] → (room : ℕ) (large : Bool) →
    Receipt s task (Waited.Port port) room large (Reply.Empty (Waited.Port port)) s []
receipt_empty w s a task port v there none room large = grind (arith, shown_empty)

-- ---- A message that waits in tables that show a state can be received: its rights are counted, and its bytes are laid out.

send_counted : (kind : Kind) (m : Mark) (p : ℕ) → send_for kind m p ≡ mark_count send p kind (mark_of m)
send_counted send (mark.Port q) p = refl
send_counted receive (mark.Port q) p = refl
send_counted send_once (mark.Port q) p = refl
send_counted send mark.Null p = refl
send_counted receive mark.Null p = refl
send_counted send_once mark.Null p = refl
send_counted send mark.Dead p = refl
send_counted receive mark.Dead p = refl
send_counted send_once mark.Dead p = refl

sends_counted : (cs : List Carried) (p : ℕ) → sends_for cs p ≡ rights_count send p (rights_of cs)
sends_counted [] p = refl
sends_counted (c ∷ cs) p = let a = send_counted (kind_sent c.given) c.mark p in let b = sends_counted cs p in omega (arith, a, b)

pub all_entered : (w : WorldView) (s : State) → Shows w s → AllEntered w
all_entered w s sh p live = (sh.agrees.counts p).entered ∙ sym (sh.agrees.live_port p) ∙ live

module _ (w : WorldView) (s : State) (sh : Shows w s) (p : ℕ) (v : PortView Kept) (there : port_at w p ≡ Some v) (m : Kept) (behind : List Kept) (queued : v.queue ≡ m ∷ behind) where
  front_waiting : HasFront_fronts p m behind (queue s p)
  front_waiting = shown_front w s sh.agrees p v there m behind queued

  -- what lies at its entry is counted
  lies : (kind : Kind) (q : ℕ) → s.live_port q ≡ true → mark_count kind q (if m.by_once then send_once else send) (to_port p) + rights_count kind q (rights_of (carried_by m)) ≤ count (is_of kind q) s.ledger
  lies kind q live = grind (
    arith,
    sh.lawful.carried p 0 front_waiting.first (shown_lives w s sh.agrees p v there m behind queued) (ap (λ (es : List Entry). slice_get es 0) front_waiting.parts) kind q live,
    message_counted p m front_waiting.first.message front_waiting.keeps kind q,
    lying_le_of s kind q (in_message p (s.taken p + 0)),
  )

  by_kind : (b : Bool) → mark_count (if b then send_once else send) p (if b then send_once else send) (to_port p) ≡ 1
  by_kind true = rw (eq-eqb p p refl) refl
  by_kind false = rw (eq-eqb p p refl) refl

  its_send : (b : Bool) (q : ℕ) → (if b then 0 else if p == q then 1 else 0) ≡ mark_count send q (if b then send_once else send) (to_port p)
  its_send true q = refl
  its_send false q = refl

  -- the right by which it goes is counted
  pub destination : (b : Bool) → m.by_once ≡ b → 1 ≤ number_of (destination_right m) (counts_of w.ledger p)
  destination true e = grind (arith, front_waiting, shown_lives)
  destination false e =
      let live = shown_lives w s sh.agrees p v there m behind queued in
      let l = lies send p live in
      let k : mark_count send p (if m.by_once then send_once else send) (to_port p) ≡ 1 = ap (λ (x : Bool). mark_count send p (if x then send_once else send) (to_port p)) e ∙ by_kind false in
      let c = (sh.agrees.counts p).senders in rw e (omega (arith, l, k, c))

  pub waits : Waits w p
  waits = record {
    v = v;
    there = there;
    front = m;
    behind = behind;
    queue = queued;
    written = front_waiting.keeps.written;
    laid_out = front_waiting.keeps.laid_out;
    a_right_each = rights_length m.rights (body_given front_waiting.keeps.written) front_waiting.keeps.given ∙ body_words_count front_waiting.keeps.written ∙ ap word_count (sym front_waiting.keeps.laid_out.spans_are);
    few = front_waiting.keeps.few;
    entered = all_entered w s sh;
    destination = destination m.by_once refl;
    counted = λ q live.
        let l = lies send q (sym (sh.agrees.live_port q) ∙ live) in
        let a = sends_counted (carried_by m) q in
        let b = its_send m.by_once q in
        let c = (sh.agrees.counts q).senders in omega (arith, l, a, b, c);
    none_lost = sh.idle.none_lost;
  }

-- ---- The port of a message that was received is noted where the message came by its last send right: what is noted then, and what else stays.

-- What holds before the note, and is kept by it, holds after.
pub by_note : (P : WorldView → Type 0) (once : Bool) (old new : WorldView) (port : ℕ) → (NotesSenderless old port new → P new) → P old → MatchBool once (new ≡ old) (NotesSenderless old port new) → P new
by_note P true old new port kept before same = subst P (sym same) before
by_note P false old new port kept before notes = kept notes

-- ---- the right by which it came

module _ (w : WorldView) (s : State) (sh : Shows w s) (p : ℕ) (mid : WorldView) (f : TakesFront w p mid) where
  by_right : (b : Bool) → b ≡ true → (if b then right.Destination else right.Send) ≡ right.Send → ⊥
  by_right true once is = cc
  by_right false once is = cc

  -- a send-once right
  once_keeps : f.front.by_once ≡ true → KeepsSenders w mid
  once_keeps once = grind (arith, keeps_senders, sends_taken, by_right)

  -- a send right
  others : (q : ℕ) → (q ≡ p → ⊥) → (counts_of mid.ledger q).send ≡ (counts_of w.ledger q).send
  others q not = ap (λ (x : WorldView). (counts_of x.ledger q).send) f.rest ∙ sends_elsewhere w.ledger p (destination_right f.front) 1 q not

  had : f.front.by_once ≡ false → 0 < (counts_of w.ledger p).send
  had is_send = grind (arith, destination w s sh p f.v f.there f.front f.behind f.queue false is_send)

  -- ---- once its rights were given

  module _ (taken : WorldView) (kept : KeepsSenders mid taken) (new : WorldView) where
    none_noted : taken.ports.noted ≡ []
    none_noted = kept.noted ∙ ap (λ (x : WorldView). x.ports.noted) f.rest ∙ sh.idle.noted

    by_send : f.front.by_once ≡ false → NotesSenderless taken p new → NotesSenders w new
    by_send is_send n = record {
      noted = λ q some x.
          let now = noted_senderless taken new p n q x in
          subst (λ (xs : List ℕ). Contains xs q) (sym (ap (λ (y : WorldView). y.ports.noted) n.rest)) (elim (eqb_tells q p) [
            | inl h ↦ subst (λ (y : ℕ). Contains n.noted y) (sym h.1) (n.notes (subst (λ (y : ℕ). IsSenderless taken y) h.1 now))
            | inr h ↦ let none = (kept.senderless q now).none in let same = others q h.1 in absurd (omega (arith, some, none, same))
          ]);
      had = λ q c. from q (n.only q (subst (λ (xs : List ℕ). Contains xs q) (ap (λ (y : WorldView). y.ports.noted) n.rest) c));
    }
      where
        from : (q : ℕ) → Contains taken.ports.noted q ⊎ (q ≡ p) × IsSenderless taken p → 0 < (counts_of w.ledger q).send
        from q (inl c) = absurd (none_listed taken.ports.noted none_noted q c)
        from q (inr (same, x)) = subst (λ (y : ℕ). 0 < (counts_of w.ledger y).send) (sym same) (had is_send)

    by_once : f.front.by_once ≡ true → new ≡ taken → NotesSenders w new
    by_once once same = subst (NotesSenders w) (sym same) (senders_kept w w taken (senders_same w sh.idle.noted) (keeps_senders_trans w mid taken (once_keeps once) kept))

    -- Each port that lost its last send right is noted, and no other.
    pub front_notes : NotesFront taken p f.front new → NotesSenders w new
    front_notes = grind (arith, by_once, by_send)

-- The note takes no room, and no slot.
pub note_returns : (w taken new : WorldView) (task port : ℕ) (front : Kept) → ReturnsSlot w task port taken → NotesFront taken port front new → ReturnsSlot w task port new
note_returns w taken new task port front r = grind (arith, by_note)

-- As many send rights were there before room was made.
pub notes_roomier : (w start new : WorldView) → SameButRoom w start → NotesSenders start new → NotesSenders w new
notes_roomier w start new same n = grind arith

-- ---- A port's front message taken from its queue.

pub is_front : (ports : PortsView Kept) (port : ℕ) (v : PortView Kept) (m found : Kept) (behind : List Kept) → map.get ports.ports port ≡ Some v → v.queue ≡ m ∷ behind →
    Some found ≡ option_and_then (λ p. slice_get p.queue 0) (map.get ports.ports port) → found ≡ m
is_front ports port v m found behind there queue is = grind (arith, same_some)

first_of : (l : List Kept) (m : Kept) → slice_get l 0 ≡ Some m → l ≡ m ∷ drop 1 l
first_of [] m is = absurd (some_or_none m (slice_get [] 0) is refl)
first_of (x ∷ xs) m is = ap (λ (k : Kept). k ∷ xs) (same_some x m is)

-- what one look-up of the port tells
module _ (w : WorldView) (ports : PortsView Kept) (same : ports ≡ w.ports) (port : ℕ) where
  at : (v : PortView Kept) → port_at w port ≡ Some v → map.get ports.ports port ≡ Some v
  at v there = ap (λ (p : PortsView Kept). map.get p.ports port) same ∙ there

  pub no_front : NoneQueued ports port → (m : Kept) → HasFront w port m → ⊥
  no_front none m f = let e = ap (λ (l : List Kept). length l) f.queue in let n = none f.v (at f.v f.there) in omega (arith, e, n)

  pub has_first : (m : Kept) (number : ℕ) → IsNumberedFront ports port m number → HasFront w port m
  has_first m number f = grind (arith, first_of)

  pub has_number : (m : Kept) (number : ℕ) → IsNumberedFront ports port m number → IsNumbered w port number
  has_number m number f = λ v there. ap (λ (u : PortView Kept). u.attributes.sequence) (same_found (map.get ports.ports port) v f.view (at v there) f.there) ∙ f.number
