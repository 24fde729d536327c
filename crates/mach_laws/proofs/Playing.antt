-- The steps that the example runs are made of, and the first of these runs.
use Rattle.std.proofs.Common.{arith, ◌≡◌, ℕ, List, [], ◌∷◌, Option, Some, refl, sym, ap, subst, Bool, inl, inr, suc, ◌+◌, ◌%◌, ◌^◌, ◌<◌, ◌≤◌, ◌++◌, None, ◌∙◌, true, false, length, rules, zero}
use Rattle.std.specs.Prelude.{◌≢◌, min, nat_lt, All, Contains}
use Rattle.std.specs.FinMap as map
use Rattle.std.specs.FinMap.{get-empty, gets}
use Rattle.std.specs.Ordering.{nat_cmp}
use Rattle.std.proofs.lemmas.Bool.Decides.{eqb_tells}
use Rattle.mach_types.specs.declared.calls.Event.{Event}
use Rattle.mach_types.specs.declared.calls.Reply.{Reply}
use Rattle.mach_types.specs.declared.calls.Waited.{Waited}
use Rattle.mach_types.specs.declared.calls.Status.{Status}
use Rattle.mach_types.specs.declared.rights.Disposition.{Disposition}
use Rattle.mach_types.specs.declared.rights.Disposition.TheVariants.{MakeSend, MakeSendOnce}
use Rattle.mach_types.specs.Numbers.{disposition, kind_sent, kind_number, null_word, dead_word, most_tasks, most_names, most_references, most_rights, most_bytes}
use Rattle.mach_types.specs.Tokens.{Kind, receive, send, send_once, no_senders, port_destroyed, Place, in_task, in_message, Token, token, Moves, weigh, count, is_of}
use Rattle.mach_types.specs.Messages.{short, to_port, absent, Body, Message, Entry}
use Rattle.mach_types.specs.Grammar.{port_item, NamesPorts, IsWire, WireBody, Header, IsWireBody, Spells, text}
use Rattle.mach_types.specs.Bodies.{reply_words, body_words, message_rights, SameReply, SameBody, Through}
use Rattle.mach_types.specs.Guards.{NoneHolds}
use Rattle.mach_types.specs.TextGuards.{BadHeader, header_guards, word_at}
use Rattle.mach_model.specs.State.{State, Target, lookup, queue, Names, held, Holds, senders, at, with_name, IsFresh, without_name, gives, IsFreshFor}
use Rattle.mach_model.specs.Machine.{opening, Step, Run, Judged}
use Rattle.mach_model.specs.Receive.{waits_for, TakesFrom, IsEmptyFor, IsFront, with_taken, Receives}
use Rattle.mach_model.specs.Notices.{Owed}
use Rattle.mach_model.specs.Acts.{Does}
use Rattle.mach_model.specs.NameGuards.{IsNoTask, IsSet}
use Rattle.mach_model.specs.Names.{with_port, Makes, with_set}
use Rattle.mach_model.specs.Refusals.{IsNoMaking, guards, Refuses}
use Rattle.mach_model.specs.Room.{IsFull}
use Rattle.mach_model.specs.Telling.{type_of, references, one_if, TellsMembers}
use Rattle.mach_model.specs.CopyIn.{IsLegal, taken_by, changed_by, CopyRight}
use Rattle.mach_model.specs.SentMeans.{target_mark}
use Rattle.mach_model.specs.CopyOut.{GiveWord}
use Rattle.mach_model.specs.ReceivedMeans.{IsReceived}
use Rattle.mach_model.specs.Carried.{lying, message_count}
use Rattle.mach_model.specs.Transfer.{Inserts, pegged, Extracts}
use Rattle.mach_model.specs.Send.{place_at, entry, Copied, Sends}
use Rattle.mach_model.proofs.MessagesLawful.{Adds, Copied-adds}
use Rattle.mach_model.proofs.Moving.{moving}
use Rattle.mach_model.proofs.Names.{get_own, get_other}
use Rattle.mach_model.proofs.Midway.{LosesNone}
use Rattle.mach_model.proofs.StepLawful.{IsCalm, BringsNone, quiet_step, opening-calm}
use Rattle.mach_model.proofs.Failing.{refusal_fails}
use Rattle.mach_model.specs.References.{without_set}
use Rattle.mach_model.specs.SendRefusals.{sent_guards}
use Rattle.mach_model.specs.TransferRefusals.{inserted_guards, extracted_guards}
use Rattle.mach_laws.specs.Received.{AsksFrom}
use Rattle.mach_laws.specs.FirstMessage.{sent_text, received_text, status_after, first_events, first_replies}
use Rattle.mach_laws.specs.Grouping.{grouping_events, grouping_replies}
use Rattle.mach_types.specs.declared.profiles.Profile.TheVariants.{One}

-- ---- What a refusal leaves, and when a receive may answer that there is no message.

does_code : (now : ℕ) (old : State) (event : Event) (code : ℕ) (mid : State) (owed : Owed) → Does now old event (Reply.Code code) mid owed → code ≡ 0
does_code now old (Event.TaskTerminate task) code mid owed d = d.0
does_code now old (Event.Deallocate task name) code mid owed d = d.0
does_code now old (Event.Destroy task name) code mid owed d = d.0
does_code now old (Event.ModRefs task name right delta) code mid owed d = d.0
does_code now old (Event.Rename task o n) code mid owed d = d.0
does_code now old (Event.SetQlimit task name n) code mid owed d = d.0
does_code now old (Event.SetMscount task name n) code mid owed d = d.0
does_code now old (Event.SetSeqno task name n) code mid owed d = d.0
does_code now old (Event.InsertRight task name from poly number) code mid owed d = d.0
does_code now old (Event.Send task bytes) code mid owed d = d.0
does_code now old (Event.Receive task name room large) code mid owed d = absurd d.2
does_code now old (Event.MoveMember task member after) code mid owed d = d.0
does_code now old (Event.InsertMember task member set) code mid owed d = d.0
does_code now old (Event.ExtractMember task member set) code mid owed d = d.0
does_code now old event code mid owed d = absurd d

-- A step that is answered with another code than 0 leaves the state.
pub refusal_leaves : (now : ℕ) (old : State) (event : Event) (code : ℕ) (new : State) → Step now old event (Reply.Code code) new → code ≢ 0 → new ≡ old
refusal_leaves now old event code new (inl r) some = r.same
refusal_leaves now old event code new (inr d) some = absurd (some (does_code now old event code d.mid d.owed d.does))

pub one_port : (o : Option Target) (p q : ℕ) → o ≡ Some (Target.port p) → o ≡ Some (Target.port q) → p ≡ q
one_port o p q is other = cc

pub one_set : (o : Option Target) (a b : ℕ) → o ≡ Some (Target.set a) → o ≡ Some (Target.set b) → a ≡ b
one_set o a b is other = cc

port_or_set : (o : Option Target) (p set : ℕ) → o ≡ Some (Target.port p) → o ≡ Some (Target.set set) → ⊥
port_or_set o p set is other = cc

-- a name is waited for as one thing
pub one_waited : (s : State) (task name : ℕ) (a b : Waited) → waits_for task name s a → waits_for task name s b → b ≡ a
one_waited s task name (Waited.Port p) (Waited.Port q) a b = ap Waited.Port (one_port _ q p b.0 a.0)
one_waited s task name (Waited.Set p) (Waited.Set q) a b = ap Waited.Set (one_set _ q p b a)
one_waited s task name (Waited.Port p) (Waited.Set q) a b = absurd (port_or_set _ p q a.0 b)
one_waited s task name (Waited.Set p) (Waited.Port q) a b = absurd (port_or_set _ q p b.0 a)

no_sets : (xs : List ℕ) → ¬ (xs ≢ []) → xs ≡ []
no_sets [] f = refl
no_sets (x ∷ xs) f = absurd (f (λ e. cc))

nothing_waits : (s : State) (task name p : ℕ) (waited : Waited) → lookup s task name ≡ Some (Target.port p) → s.sets_of p ≡ [] → waits_for task name s waited → IsEmptyFor s task waited → queue s p ≡ []
nothing_waits s task name p (Waited.Port q) is alone waits empty = grind (arith, one_port)
nothing_waits s task name p (Waited.Set set) is alone waits empty = absurd (port_or_set (lookup s task name) p set is waits)

no_code : (told : Waited) (code : ℕ) → Reply.Empty told ≡ Reply.Code code → ⊥
no_code told code e = cc

-- A receive by a port's name is answered that there is none only where none is queued.
pub empty_is_empty : (now : ℕ) (old : State) (task name room : ℕ) (large : Bool) (told : Waited) (new : State) → Step now old (Event.Receive task name room large) (Reply.Empty told) new →
    (p : ℕ) → lookup old task name ≡ Some (Target.port p) → queue old p ≡ []
empty_is_empty now old task name room large told new (inl r) p is = absurd (no_code told r.code r.told)
empty_is_empty now old task name room large told new (inr d) p is =
    let x = d.does in
    nothing_waits old task name p x.0 is (no_sets (old.sets_of p) (λ some. d.unrefused.1.1.0 (p, is, some))) x.1 x.2.1

-- A receive or a later try is answered that there is none only where none is queued at any port that it may take from.
pub empty_is_none : (now : ℕ) (old : State) (event : Event) (told : Waited) (new : State) → Step now old event (Reply.Empty told) new → (task p : ℕ) → AsksFrom old event task p → queue old p ≡ []
empty_is_none now old event told new (inl r) task p asks = absurd (no_code told r.code r.told)
empty_is_none now old (Event.Receive caller name room large) told new (inr d) task p (same, waited, waits, takes) = grind (arith, one_waited)
empty_is_none now old (Event.ReceiveAgain caller waited room large) told new (inr d) task p asks = grind arith
empty_is_none now old event told new (inr d) task p asks = absurd asks

-- ---- The steps that the example runs are made of, a lemma for each kind: what a lawful state must have that the event may be answered
-- so, and the state that it leads to, which is lawful again.

-- the event may be answered so, and the new state is lawful
abbrev pub Plays : (now : ℕ) → State → Event → Reply → State → Type 0
Plays now old event reply new = Step now old event reply new × IsCalm new

-- ---- the states that steps lead to

abbrev pub with_task : State → State
with_task s = record s { live_task = at s.live_task s.tasks_made true; tasks_made = s.tasks_made + 1; naming = at s.naming s.tasks_made map.empty }

-- a new port, and its receive right with the task
abbrev pub with_receive : (task name : ℕ) → State → State
with_receive task name s = record (with_port task name s) { ledger = token receive s.ports_made (in_task task) ∷ s.ledger }

-- a right that is made from the task's right for the port, at the place
abbrev pub with_made : Disposition → (port task name : ℕ) → Place → State → State
with_made d p task name place s = record (changed_by d (Target.port p) task name s) { ledger = token (kind_sent d) p place ∷ s.ledger }

-- the message in its destination's log, its rights copied in before
abbrev pub with_entry : (now : ℕ) → Message → State → State
with_entry now m s = record s { log = at s.log m.destination (s.log m.destination ++ entry now m ∷ []) }

-- the front message of the port gone, and these rights left
abbrev pub without_front : (port : ℕ) → List Token → State → State
without_front p ledger s = record (with_taken p s) { ledger = ledger }

-- a send right for the port, put into the task under a new name
abbrev pub with_inserted : (task name from poly port : ℕ) → State → State
with_inserted task name from poly p s = with_name task name (Target.port p) (with_made MakeSend p from poly (in_task task) s)

-- a send-once right for the task's port, come out with another task under a fresh name
abbrev pub with_extracted : (task name to new_name port : ℕ) → State → State
with_extracted task name to new_name p s = with_name to new_name (Target.once p) (gives to new_name (with_made MakeSendOnce p task name (in_task to) s))

-- what is told of a port that is in no set
abbrev pub status_of : State → ℕ → Status
status_of s p = record {
  set = 0;
  sequence = s.sequence p;
  make_send = s.make_send p;
  limit = s.limit p;
  queued = length (queue s p);
  send_once = count (is_of send_once p) s.ledger;
  has_send = one_if (nat_lt 0 (senders s p));
  port_destroyed = one_if (s.stands (port_destroyed p));
  no_senders = one_if (s.stands (no_senders p));
}

-- ---- texts

-- the bytes are long enough for a message, and not too long, and their header is one that messages have
pub good_text : (bytes : List ℕ) → 24 ≤ length bytes → length bytes % 4 ≡ 0 → length bytes ≤ most_bytes → ¬ (BadHeader (word_at bytes 0) (word_at bytes 12)) → NoneHolds (header_guards bytes)
good_text bytes long whole fits good = ((λ h. elim h [ inl g ↦ omega (arith, g, long) | inr g ↦ g whole ]), ((λ h. omega (arith, h, fits)), (good, tt)))

pub spelled : {bytes : List ℕ} {header : Header} {written : WireBody} → bytes ≡ text header written → header.remote_kind + header.local_kind < 2 ^ 8 →
    header.size + header.remote + header.local + header.sequence + header.id < 2 ^ 32 → IsWireBody written → Spells bytes header written
spelled is_text kinds words body = grind arith

-- an item of one port word, and of two
pub one_word : (number a : ℕ) → NamesPorts number → a < 2 ^ 32 → All IsWire (port_item short number (a ∷ []) ∷ [])
one_word number a ports fits = grind arith

pub two_words : (number a b : ℕ) → NamesPorts number → a + b < 2 ^ 32 → All IsWire (port_item short number (a ∷ b ∷ []) ∷ [])
two_words number a b ports fits = grind arith

-- ---- names

pub fresh_one : IsFresh map.empty 1
fresh_one = record { unused = get-empty nat_cmp 1; not_null = omega arith; least = λ n a b. absurd (omega arith) }

-- the number after a fresh one is fresh once that is used, if it is unused
pub fresh_next : {names : Names} {name : ℕ} (target : Target) → IsFresh names name → map.get (map.insert names name target) (suc name) ≡ None → IsFresh (map.insert names name target) (suc name)
fresh_next {names} {name} target fresh unused = grind (arith, get_own, get_other)

-- a name in use is not unused
pub used : {o : Option Target} {target : Target} → o ≡ Some target → o ≡ None → ⊥
used is none = cc

-- ---- rights

-- A right is made from the task's right for the port.
abbrev pub makes : {task : ℕ} {place : Place} {number name : ℕ} {s : State} (p : ℕ) (given : Disposition) → disposition number ≡ Some given → lookup s task name ≡ Some (Target.port p) →
    IsLegal s task given (Target.port p) → target_mark given (Target.port p) ≡ Some (to_port p) → taken_by given (Target.port p) task ≡ [] →
    CopyRight task place number name s (to_port p) (with_made given p task name place s)
makes {task} p given is_given found legal mark_is none = record {
  given = given;
  is_given = is_given;
  target = Target.port p;
  found = found;
  legal = legal;
  mark_is = mark_is;
  rest = refl;
  tokens = λ h. (let e = ap (weigh h) none in omega (arith, e));
}

-- The message has no right but its destination's, and its body is bytes.
abbrev pub plain_message : Kind → (port id : ℕ) → (body : List ℕ) → Message
plain_message kind p id body = record { destination = p; kind = kind; reply = absent; id = id; body = Body.raw body }

-- Such a message is copied in once its destination's right is.
pub copies_plain : {task p : ℕ} {header : Header} {body : List ℕ} {kind : Kind} {old new : State} → header.local_kind ≡ 0 → header.local ≡ null_word →
    (right : CopyRight task (in_message p (length (old.log p))) header.remote_kind header.remote old (to_port p) new) → kind ≡ kind_sent right.given →
    Copied task header (WireBody.raw body) old (plain_message kind p header.id body) new
copies_plain {new = new} no_answer null right is_kind =
    record { first = new; second = new; destination = right; kind = is_kind; reply = (no_answer, null, refl); id = refl; body = (refl, refl) }

-- ---- steps

-- An event that is refused changes nothing.
pub refused : {now : ℕ} {s : State} {event : Event} {code : ℕ} → IsCalm s → Refuses s event code → Plays now s event (Reply.Code code) s
refused {s = s} {event = event} {code = code} l refuses =
    (inl (record { declined = record { code = code; failed = refusal_fails s event code refuses; told = refl; same = refl }; refuses = refuses }), l)

-- An event that no guard refuses does its part, and no right is lost.
pub plays : {now : ℕ} {old new : State} {event : Event} {reply : Reply} → IsCalm old → BringsNone old event new → LosesNone old event reply → NoneHolds (guards old event) →
    (does : Does now old event reply new []) → Judged now old event reply new [] does → Plays now old event reply new
plays {now} {old} {new} {event} {reply} l brings none good does judged =
    let x = quiet_step now old event reply new l.lawful l.quiet brings none good does judged in (x.0, record { lawful = x.1; quiet = x.2 })

pub task_made : {now : ℕ} {s : State} → IsCalm s → s.tasks_made < most_tasks → Plays now s Event.TaskCreate (Reply.Task s.tasks_made) (with_task s)
task_made {now} {s} l few = plays l tt tt ((λ dead. dead), ((λ h. omega (arith, h, few)), tt)) (record { task_is = refl; rest = refl }, refl) tt

pub there : (s : State) (task : ℕ) → s.live_task task ≡ true → ¬ (IsNoTask s task)
there s task lives h = cc

module _ {now : ℕ} {s : State} (l : IsCalm s) {task : ℕ} (lives : s.live_task task ≡ true) where
  -- Of what the right's number says one is made, under a fresh name.
  pub allocated : {right name : ℕ} {new : State} → IsFreshFor s task name → map.len (s.naming task) < most_names → length s.ledger + s.ports_made + s.sets_made < most_rights →
      Makes task right name (gives task name s) new → Plays now s (Event.Allocate task right) (Reply.Name name) new
  allocated {right} {name} {new} fresh room few makes =
      plays l tt tt (there s task lives, (made makes, (not_full, tt))) (fresh, makes, refl) tt
    where
      made : Makes task right name (gives task name s) new → ¬ (IsNoMaking right)
      made (inl m) h = h.0 m.0
      made (inr (inl m)) h = h.1 m.0
      made (inr (inr m)) h = h.2 m.0

      not_full : ¬ (IsFull s task right)
      not_full (inl h) = omega (arith, h, room)
      not_full (inr (inl h)) = elim h.1 [ inl g ↦ omega (arith, g, few) | inr g ↦ omega (arith, g, few) ]
      not_full (inr (inr h)) = omega (arith, h.1, few)

  pub port_allocated : {name : ℕ} → IsFreshFor s task name → map.len (s.naming task) < most_names → length s.ledger + s.ports_made + s.sets_made < most_rights →
      Plays now s (Event.Allocate task 1) (Reply.Name name) (with_receive task name (gives task name s))
  port_allocated fresh room few = allocated fresh room few (inl (refl, record { rest = refl; tokens = λ h. omega arith }))

  -- The bytes spell a message, whose rights can be copied in; none of them is a receive right.
  pub sent : {bytes : List ℕ} (header : Header) (written : WireBody) (m : Message) (copied : State) → NoneHolds (header_guards bytes) → Spells bytes header written →
      Copied task header written s m copied → ((p : ℕ) → lying copied receive p (place_at s m.destination) ≡ lying s receive p (place_at s m.destination)) →
      length (queue copied m.destination) < copied.limit m.destination → length copied.ledger ≤ most_rights →
      Plays now s (Event.Send task bytes) (Reply.Code 0) (with_entry now m copied)
  sent {bytes} header written m copied good spells is_copied no_receive room few =
      plays l none tt (there s task lives, good) (refl, sends, refl) unrefused
    where
      m_end : ℕ
      m_end = length (s.log m.destination)

      adds : Adds s copied m.destination m_end (λ c q. message_count c q m)
      adds = Copied-adds task header written s m copied (moving s m.destination m_end l.lawful) is_copied

      none : (p q : ℕ) → lying copied receive q (in_message p (length (s.log p))) ≡ 0
      none p q = let z = l.no_entry p (length (s.log p)) (omega arith) receive q in elim (eqb_tells p m.destination) [
        | inl e ↦ subst (λ (x : ℕ). lying copied receive q (in_message x (length (s.log x))) ≡ 0) (sym e.1) (let y = l.no_entry m.destination m_end (omega arith) receive q in let n = no_receive q in omega (arith, y, n))
        | inr e ↦ let a = adds.apart.elsewhere receive q p (length (s.log p)) (λ same end. e.1 same) in omega (arith, z, a)
      ]

      sends : Sends now task bytes s (with_entry now m copied)
      sends = record {
        header = header;
        written = written;
        spells = spells;
        m = m;
        copied_state = copied;
        copied = is_copied;
        rest = refl;
      }

      unrefused : NoneHolds (sent_guards m (place_at s m.destination) copied)
      unrefused = (
        (λ loop. let none = l.no_entry m.destination (length (s.log m.destination)) (omega arith) receive loop.0 in let e = no_receive loop.0 in let lies = loop.1 in omega (arith, none, e, lies)),
        ((λ full. omega (arith, full.1, room)), ((λ many. omega (arith, many, few)), tt)),
      )

  -- The front message of the port under the name is received.
  pub received : {name p room : ℕ} {bytes : List ℕ} {new : State} → lookup s task name ≡ Some (Target.port p) → Holds s task receive p → s.sets_of p ≡ [] → Receives task p room bytes s new →
      Plays now s (Event.Receive task name room false) (Reply.Message bytes) new
  received {name} {p} {room} {bytes} {new} found holds alone receives =
      plays l tt tt
      (there s task lives, ((λ h. h (inl (p, found, holds))), ((λ h. h.2 (ap s.sets_of (one_port (lookup s task name) h.0 p h.1 found) ∙ alone)), tt)))
      (Waited.Port p, (found, holds), (p, (refl, holds, alone), receives, refl)) tt

  pub type_told : {name : ℕ} (target : Target) → lookup s task name ≡ Some target → Plays now s (Event.NameType task name) (Reply.NameType (type_of s task name target)) s
  type_told {name} target found = plays l tt tt (there s task lives, (used found, tt)) (refl, refl) (target, found, refl)

  pub no_type : {name : ℕ} → lookup s task name ≡ None → Plays now s (Event.NameType task name) (Reply.Code 15) s
  no_type none = refused l (inl (inr (there s task lives, inl (none, refl))))

  pub references_told : {name right : ℕ} (target : Target) → lookup s task name ≡ Some target → right ≤ 4 →
      Plays now s (Event.GetRefs task name right) (Reply.Refs (references s task target right)) s
  references_told {name} {right} target found is_right =
      plays l tt tt (there s task lives, ((λ h. omega (arith, h, is_right)), (used found, tt))) (refl, refl) (target, found, refl)

  pub status_told : {name : ℕ} (p : ℕ) → lookup s task name ≡ Some (Target.port p) → Holds s task receive p → s.sets_of p ≡ [] → Plays now s (Event.ReceiveStatus task name) (Reply.Status (status_of s p)) s
  status_told {name} p found holds alone =
      plays l tt tt (there s task lives, (used found, ((λ h. h (p, found, holds)), tt))) (refl, refl) (record {
        p = p;
        found = found;
        set = inl (alone, refl);
        sequence = refl;
        make_send = refl;
        limit = refl;
        queued = refl;
        send_once = refl;
        has_send = refl;
        port_destroyed = refl;
        no_senders = refl;
      })

  -- A send right is made for another task's port, and put into the task under a name that it has not.
  pub send_inserted : {name from poly : ℕ} (p : ℕ) → s.live_task from ≡ true → lookup s from poly ≡ Some (Target.port p) → Holds s from receive p →
      lookup s task name ≡ None → 0 < name → name < dead_word → held s task receive p + held s task send p ≡ 0 → map.len (s.naming task) < most_names → length s.ledger < most_rights →
      held (with_made MakeSend p from poly (in_task task) s) task send p ≤ most_references →
      Plays now s (Event.InsertRight task name from poly 20) (Reply.Code 0) (with_inserted task name from poly p s)
  send_inserted {name} {from} {poly} p from_lives found holds unused above below unheld room few few_references =
      plays l tt tt (
        (λ h. elim h [ inl e ↦ there s task lives e | inr e ↦ cc ]),
        (
          (λ h. elim h [ inl e ↦ elim e [ inl f ↦ omega (arith, f, above) | inr f ↦ omega (arith, f, below) ] | inr e ↦ e (omega arith, omega arith) ]),
          (
            (λ h. elim h [ inl e ↦ elim e [ inl f ↦ no_null f | inr f ↦ no_dead f ] | inr e ↦ omega (arith, e.2) ]),
            (used found, ((λ h. h (MakeSend, Target.port p, refl, found, holds)), tt)),
          ),
        ),
      )
      (refl, inserts, refl) unrefused
    where
      no_null : poly ≡ null_word → ⊥
      no_null e = used found (ap (lookup s from) e ∙ (l.naming from).not_null)

      no_dead : dead_word ≤ poly → ⊥
      no_dead e = used found (ap (lookup s from) (let fits = (l.naming from).name_fits poly (Target.port p) found in omega (arith, e, fits)) ∙ (l.naming from).not_dead)

      inserts : Inserts task name from poly 20 s (with_inserted task name from poly p s)
      inserts = record {
        p = p;
        copied = with_made MakeSend p from poly (in_task task) s;
        copy = makes p MakeSend refl found holds refl refl;
        named = inr (unused, refl);
      }

      unrefused : NoneHolds (inserted_guards inserts.copied task name p (kind_sent inserts.copy.given))
      unrefused = (
        (λ h. let has = (l.naming task).has_right h.1.0 p h.1.2 in omega (arith, has, unheld)),
        ((λ h. h.0 unused), ((λ h. omega (arith, h, few_references)), ((λ h. elim h [ inl e ↦ omega (arith, e.0, room) | inr e ↦ omega (arith, e, few) ]), tt))),
      )

  -- A send-once right is made for the task's port, and comes out with a task under a fresh name.
  pub once_extracted : {name to new_name : ℕ} (p : ℕ) → s.live_task to ≡ true → lookup s task name ≡ Some (Target.port p) → Holds s task receive p → IsFreshFor s to new_name →
      map.len (s.naming to) < most_names → length s.ledger < most_rights → pegged to p (with_made MakeSendOnce p task name (in_task to) s) ≡ [] →
      Plays now s (Event.ExtractRight task name 21 to) (Reply.Right new_name 18) (with_extracted task name to new_name p s)
  once_extracted {name} {to} {new_name} p to_lives found holds fresh room few none =
      plays l tt tt (
        (λ h. elim h [ inl e ↦ there s task lives e | inr e ↦ cc ]),
        (
          (λ h. h (omega arith, omega arith)),
          (used found, ((λ h. elim h [ inl e ↦ e (MakeSendOnce, Target.port p, refl, found, holds) | inr e ↦ let f = found in let g = e.1 in cc ]), tt)),
        ),
      )
      (extracts, refl) unrefused
    where
      extracts : Extracts task name 21 to new_name 18 s (with_extracted task name to new_name p s)
      extracts = record {
        p = p;
        copied = with_made MakeSendOnce p task name (in_task to) s;
        copy = makes p MakeSendOnce refl found holds refl refl;
        kind_is = refl;
        named_state = with_extracted task name to new_name p s;
        named = record { room = room; fresh = fresh; rest = refl };
        rest = refl;
        tokens = λ h. (let e = ap (weigh h) none in omega (arith, e));
      }

      unrefused : NoneHolds (extracted_guards extracts.copied to p (kind_sent extracts.copy.given))
      unrefused = ((λ h. elim h [ inl e ↦ omega (arith, e.0, room) | inr e ↦ omega (arith, e, few) ]), tt)

-- A receipt of the port's front message: what is under which names afterwards, and so the bytes.
pub receives : {task p room : ℕ} {bytes : List ℕ} {old new : State} (remote_kind remote local : ℕ) (e : Entry) (written : WireBody) (ledger : List Token) → IsFront old p e →
    Moves old.ledger ledger (token e.message.kind p (in_message p (old.taken p)) ∷ []) [] →
    SameReply IsReceived remote_kind remote e.message.reply → SameBody IsReceived written e.message.body →
    Through (GiveWord task (in_message p (old.taken p))) (without_front p ledger old) (reply_words remote_kind remote ++ body_words written) (message_rights e.message) new →
    lookup new task local ≡ Some (Target.port p) →
    Spells bytes (record { remote_kind = remote_kind; local_kind = kind_number e.message.kind; size = length bytes; remote = remote; local = local; sequence = old.sequence p; id = e.message.id }) written →
    length bytes ≤ min room most_bytes → Receives task p room bytes old new
receives {p = p} {bytes = bytes} {old = old} remote_kind remote local e written ledger front tokens reply body rights found spells fits = record {
  e = e;
  taken = without_front p ledger old;
  takes = record { front = front; rest = refl; tokens = tokens };
  header = record { remote_kind = remote_kind; local_kind = kind_number e.message.kind; size = length bytes; remote = remote; local = local; sequence = old.sequence p; id = e.message.id };
  written = written;
  reply = reply;
  body = body;
  rights = rights;
  kind = refl;
  local = found;
  size = refl;
  sequence = refl;
  id = refl;
  spells = spells;
  fits = fits;
}

-- ---- The first message is a run.

-- ---- a task with a port

abbrev pub s1 : State
s1 = with_task opening

abbrev pub s2 : State
s2 = with_receive 0 1 s1

pub first : Plays 0 opening Event.TaskCreate (Reply.Task 0) s1
first = task_made (opening-calm One) (omega arith)

pub second : Plays 1 s1 (Event.Allocate 0 1) (Reply.Name 1) s2
second = port_allocated first.1 refl fresh_one (grind (gets, rules)) (omega arith)

pub port_named : lookup s2 0 1 ≡ Some (Target.port 0)
port_named = grind (gets, rules)

pub fresh_two : IsFresh (s2.naming 0) 2
fresh_two = fresh_next (Target.port 0) fresh_one (grind (gets, rules))

-- ---- a message, by a send right made for it

abbrev pub greeting : Message
greeting = plain_message send 0 7 []

abbrev pub sent_header : Header
sent_header = record { remote_kind = 20; local_kind = 0; size = 24; remote = 1; local = 0; sequence = 0; id = 7 }

abbrev pub s3_copied : State
s3_copied = with_made MakeSend 0 0 1 (in_message 0 0) s2

abbrev pub s3 : State
s3 = with_entry 2 greeting s3_copied

pub third : Plays 2 s2 (Event.Send 0 sent_text) (Reply.Code 0) s3
third =
    sent second.1 refl sent_header (WireBody.raw []) greeting s3_copied (good_text sent_text (omega arith) refl (omega arith) (grind arith))
    (spelled refl (omega arith) (omega arith) refl) (copies_plain refl refl (makes 0 MakeSend refl port_named (omega arith) refl refl) refl) (λ p. omega arith) (omega arith) (omega arith)

abbrev s4 : State
s4 = without_front 0 s2.ledger s3

fourth : Plays 3 s3 (Event.Receive 0 1 24 false) (Reply.Message received_text) s4
fourth =
    received third.1 refl port_named (omega arith) refl
    (receives 0 0 1 (entry 2 greeting) (WireBody.raw []) s2.ledger refl (λ h. omega arith) (refl, refl) refl refl port_named
    (spelled refl (omega arith) (omega arith) refl) (omega arith))

fifth : Plays 4 s4 (Event.ReceiveStatus 0 1) (Reply.Status status_after) s4
fifth = status_told fourth.1 refl 0 port_named (omega arith) refl

pub first_run : (s : State) × Run first_events first_replies s
first_run = (s4, (s1, first.0, (s2, second.0, (s3, third.0, (s4, fourth.0, (s4, fifth.0, refl))))))

-- ---- Receiving by a port set is a run.

-- ---- a set, and a member

abbrev g3 : State
g3 = with_set 0 2 s2

abbrev g4 : State
g4 = record g3 { sets_of = at g3.sets_of 0 (0 ∷ []) }

third_grouped : Plays 2 s2 (Event.Allocate 0 3) (Reply.Name 2) g3
third_grouped = allocated second.1 refl fresh_two (grind (gets, rules)) (omega arith) (inr (inl (refl, refl)))

one_named : lookup g3 0 1 ≡ Some (Target.port 0)
one_named = grind (gets, rules)

set_named : lookup g3 0 2 ≡ Some (Target.set 0)
set_named = grind (gets, rules)

is_set : IsSet (lookup g3 0 2)
is_set = subst IsSet (sym set_named) tt

no_port : (p : ℕ) → lookup g3 0 2 ≡ Some (Target.port p) → ⊥
no_port p e = let f = set_named in cc

no_once : (p : ℕ) → lookup g3 0 2 ≡ Some (Target.once p) → ⊥
no_once p e = let f = set_named in cc

fourth_guards : NoneHolds (guards g3 (Event.MoveMember 0 1 2))
fourth_guards = grind (arith, used, one_named, set_named, is_set)

fourth_grouped : Plays 3 g3 (Event.MoveMember 0 1 2) (Reply.Code 0) g4
fourth_grouped = plays third_grouped.1 tt tt fourth_guards (refl, (0, one_named, inr (0, set_named, refl)), refl) tt

-- no other name is a port's
named_one : (n p : ℕ) → lookup g4 0 n ≡ Some (Target.port p) → 1 ≡ n
named_one n p e = elim (eqb_tells n 1) [
  | inl h ↦ sym h.1
  | inr h ↦ elim (eqb_tells n 2) [
    | inl g ↦ absurd (no_port p (subst (λ (k : ℕ). lookup g4 0 k ≡ Some (Target.port p)) g.1 e))
    | inr g ↦ absurd (let f : lookup g4 0 n ≡ None = grind (gets, rules) in cc)
  ]
]

one_of : (n : ℕ) → Contains (1 ∷ []) n → 1 ≡ n
one_of n (zero, below, e) = e
one_of n (suc k, below, e) = absurd (omega (arith, below))

members : TellsMembers g4 0 2 (1 ∷ [])
members = grind (arith, set_named, one_of, one_named, named_one)

fifth_grouped : Plays 4 g4 (Event.SetStatus 0 2) (Reply.Members (1 ∷ [])) g4
fifth_grouped = plays fourth_grouped.1 tt tt ((λ h. cc), (used set_named, ((λ h. h is_set), tt))) (refl, refl) members

-- ---- by the port there is none

member : (xs : List ℕ) → 0 ∷ xs ≡ [] → ⊥
member xs e = cc

sixth : Plays 5 g4 (Event.ReceiveAgain 0 (Waited.Port 0) 24 false) (Reply.Code 0x10004006) g4
sixth = refused fifth_grouped.1 (inl (inr ((λ h. cc), inr ((λ h. cc), inl (inr (member []), refl)))))

abbrev g5_copied : State
g5_copied = with_made MakeSend 0 0 1 (in_message 0 0) g4

abbrev g5 : State
g5 = with_entry 6 greeting g5_copied

seventh : Plays 6 g4 (Event.Send 0 sent_text) (Reply.Code 0) g5
seventh =
    sent sixth.1 refl sent_header (WireBody.raw []) greeting g5_copied (good_text sent_text (omega arith) refl (omega arith) (grind arith))
    (spelled refl (omega arith) (omega arith) refl) (copies_plain refl refl (makes 0 MakeSend refl one_named (omega arith) refl refl) refl) (λ p. omega arith) (omega arith) (omega arith)

eighth : Plays 7 g5 (Event.Receive 0 1 24 false) (Reply.Code 0x1000400a) g5
eighth = refused seventh.1 (inl (inr ((λ h. cc), inr ((λ h. h (inl (0, one_named, omega arith))), inl ((0, one_named, member []), refl)))))

-- ---- by the set it is received

abbrev g6 : State
g6 = without_front 0 s2.ledger g5

takes : Receives 0 0 24 received_text g5 g6
takes =
    receives 0 0 1 (entry 6 greeting) (WireBody.raw []) s2.ledger refl (λ h. omega arith) (refl, refl) refl refl one_named
    (spelled refl (omega arith) (omega arith) refl) (omega arith)

ninth : Plays 8 g5 (Event.Receive 0 2 24 false) (Reply.Message received_text) g6
ninth =
    plays eighth.1 tt tt ((λ h. cc), ((λ h. h (inr is_set)), ((λ h. no_port h.0 h.1), tt)))
    (Waited.Set 0, set_named, (0, (refl, (0, omega arith, refl)), takes, refl)) tt

none_left : (p : ℕ) → TakesFrom g6 0 (Waited.Set 0) p → queue g6 p ≡ []
none_left p t = elim (eqb_tells p 0) [ inl h ↦ rw h.0 refl | inr h ↦ rw h.0 refl ]

tenth : Plays 9 g6 (Event.ReceiveAgain 0 (Waited.Set 0) 24 false) (Reply.Empty (Waited.Set 0)) g6
tenth = plays ninth.1 tt tt ((λ h. cc), ((λ h. cc), ((λ h. h refl), tt))) (refl, none_left, refl, refl) tt

-- ---- the set goes

abbrev g7 : State
g7 = without_set 0 (without_name 0 2 g6)

eleventh : Plays 10 g6 (Event.Destroy 0 2) (Reply.Code 0) g7
eleventh =
    plays tenth.1 tt (λ h. elim h [ inl g ↦ no_port g.0 g.1 | inr g ↦ no_once g.0 g.1 ]) ((λ h. cc), (used set_named, tt))
    (refl, (Target.set 0, set_named, (refl, refl))) tt

twelfth : Plays 11 g7 (Event.ReceiveAgain 0 (Waited.Set 0) 24 false) (Reply.Code 0x10004009) g7
twelfth = refused eleventh.1 (inl (inr ((λ h. cc), inl (refl, refl))))

still_named : lookup g7 0 1 ≡ Some (Target.port 0)
still_named = grind (gets, rules)

thirteenth : Plays 12 g7 (Event.MoveMember 0 1 0) (Reply.Code 12) g7
thirteenth = grind (arith, refused, twelfth, used, still_named)

pub grouped_run : (s : State) × Run grouping_events grouping_replies s
grouped_run =
    (g7, (s1, first.0, (s2, second.0, (g3, third_grouped.0, (g4, fourth_grouped.0, (g4, fifth_grouped.0, (g4, sixth.0, (g5, seventh.0, (g5, eighth.0, (g6, ninth.0, (g6, tenth.0, (g7, eleventh.0, (g7, twelfth.0, (g7, thirteenth.0, refl))))))))))))))
