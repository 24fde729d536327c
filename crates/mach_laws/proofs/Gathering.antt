-- Send rights that gather under one name are a run.
use Rattle.std.proofs.Common.{◌≡◌, [], ◌∷◌, Some, refl, inl, arith, false, rules}
use Rattle.std.specs.FinMap.{gets}
use Rattle.mach_types.specs.declared.calls.Event.{Event}
use Rattle.mach_types.specs.declared.calls.Reply.{Reply}
use Rattle.mach_types.specs.declared.rights.Disposition.TheVariants.{CopySend, MakeSend}
use Rattle.mach_types.specs.Tokens.{send, in_task, in_message, token}
use Rattle.mach_types.specs.Messages.{short, to_port, absent, rights, Body, Message}
use Rattle.mach_types.specs.Grammar.{port_item, WireBody, Header}
use Rattle.mach_types.specs.Bodies.{body_words, message_rights, Through}
use Rattle.mach_model.specs.State.{State, Target, lookup}
use Rattle.mach_model.specs.CopyOut.{GiveWord}
use Rattle.mach_model.specs.Send.{Copied, entry}
use Rattle.mach_model.specs.Machine.{Run}
use Rattle.mach_laws.specs.Gathering.{sharing_text, shared_text, shared_status, gathering_events, gathering_replies}
use Rattle.mach_laws.proofs.Playing.{Plays, with_task, with_receive, with_made, with_inserted, with_entry, without_front, good_text, spelled, two_words, fresh_one, makes, task_made, port_allocated, send_inserted, sent, receives, received, references_told, status_told, s1, first}

-- ---- two tasks with a port each

abbrev pub b2 : State
b2 = with_task s1

abbrev pub b3 : State
b3 = with_receive 0 1 b2

abbrev pub b4 : State
b4 = with_receive 1 1 b3

pub second : Plays 1 s1 Event.TaskCreate (Reply.Task 1) b2
second = task_made first.1 (omega arith)

pub third : Plays 2 b2 (Event.Allocate 0 1) (Reply.Name 1) b3
third = port_allocated second.1 refl fresh_one (grind (gets, rules)) (omega arith)

pub fourth : Plays 3 b3 (Event.Allocate 1 1) (Reply.Name 1) b4
fourth = port_allocated third.1 refl fresh_one (grind (gets, rules)) (omega arith)

-- ---- each inserts a send right into the other

abbrev b5 : State
b5 = with_inserted 1 2 0 1 0 b4

abbrev b6 : State
b6 = with_inserted 0 2 1 1 1 b5

fifth : Plays 4 b4 (Event.InsertRight 1 2 0 1 20) (Reply.Code 0) b5
fifth = send_inserted fourth.1 refl 0 refl (grind (gets, rules)) (omega arith) (grind (gets, rules)) (omega arith) (omega arith) refl (grind (gets, rules)) (omega arith) (omega arith)

sixth : Plays 5 b5 (Event.InsertRight 0 2 1 1 20) (Reply.Code 0) b6
sixth = send_inserted fifth.1 refl 1 refl (grind (gets, rules)) (omega arith) (grind (gets, rules)) (omega arith) (omega arith) refl (grind (gets, rules)) (omega arith) (omega arith)

-- ---- two more, in a message

abbrev sharing : Message
sharing = record { destination = 1; kind = send; reply = absent; id = 9; body = Body.items (rights short send (to_port 0 ∷ to_port 0 ∷ []) ∷ []) }

abbrev sharing_header : Header
sharing_header = record { remote_kind = 19; local_kind = 0; size = 36; remote = 2; local = 0; sequence = 0; id = 9 }

abbrev sharing_wires : WireBody
sharing_wires = WireBody.items (port_item short 20 (1 ∷ 1 ∷ []) ∷ [])

abbrev c1 : State
c1 = with_made CopySend 1 0 2 (in_message 1 0) b6

abbrev c2 : State
c2 = with_made MakeSend 0 0 1 (in_message 1 0) c1

abbrev c3 : State
c3 = with_made MakeSend 0 0 1 (in_message 1 0) c2

zero_one : lookup b6 0 1 ≡ Some (Target.port 0)
zero_one = grind (gets, rules)

shares : Copied 0 sharing_header sharing_wires b6 sharing c3
shares = record {
  first = c1;
  second = c1;
  destination = makes 1 CopySend refl (grind (gets, rules)) (omega arith) refl refl;
  kind = refl;
  reply = (refl, refl, refl);
  id = refl;
  body = (
    ((refl, (MakeSend, refl, refl), refl), tt),
    (
      c2,
      makes 0 MakeSend refl zero_one (omega arith) refl refl,
      (c3, makes 0 MakeSend refl zero_one (omega arith) refl refl, refl),
    ),
  );
}

abbrev b7 : State
b7 = with_entry 6 sharing c3

seventh : Plays 6 b6 (Event.Send 0 sharing_text) (Reply.Code 0) b7
seventh =
    sent sixth.1 refl sharing_header sharing_wires sharing c3 (good_text sharing_text (omega arith) refl (omega arith) (grind arith))
    (spelled refl (omega arith) (omega arith) (two_words 20 1 1 (omega arith, omega arith) (omega arith))) shares (λ p. omega arith) (omega arith) (omega arith)

-- ---- they come out under the name that is there

abbrev shared_wires : WireBody
shared_wires = WireBody.items (port_item short 17 (2 ∷ 2 ∷ []) ∷ [])

abbrev shared_taken : State
shared_taken = without_front 1 (token send 0 (in_message 1 0) ∷ token send 0 (in_message 1 0) ∷ b6.ledger) b7

abbrev d1 : State
d1 = record shared_taken { ledger = token send 0 (in_task 1) ∷ token send 0 (in_message 1 0) ∷ b6.ledger }

abbrev b8 : State
b8 = record d1 { ledger = token send 0 (in_task 1) ∷ token send 0 (in_task 1) ∷ b6.ledger }

one_two : lookup b7 1 2 ≡ Some (Target.port 0)
one_two = grind (gets, rules)

gives : Through (GiveWord 1 (in_message 1 0)) shared_taken (body_words shared_wires) (message_rights sharing) b8
gives = (
  d1,
  record { named_state = shared_taken; named = inl (one_two, refl); rest = refl; tokens = λ h. omega arith },
  (b8, record { named_state = d1; named = inl (one_two, refl); rest = refl; tokens = λ h. omega arith }, refl),
)

eighth : Plays 7 b7 (Event.Receive 1 1 36 false) (Reply.Message shared_text) b8
eighth =
    received seventh.1 refl (grind (gets, rules)) (omega arith) refl
    (receives 0 0 1 (entry 6 sharing) shared_wires shared_taken.ledger refl (λ h. omega arith) (refl, refl) ((refl, refl, refl), tt) gives (grind (gets, rules))
    (spelled refl (omega arith) (omega arith) (two_words 17 2 2 (omega arith, omega arith) (omega arith))) (omega arith))

-- ---- three references, and three send rights made

ninth : Plays 8 b8 (Event.GetRefs 1 2 0) (Reply.Refs 3) b8
ninth = references_told eighth.1 refl (Target.port 0) one_two (omega arith)

tenth : Plays 9 b8 (Event.ReceiveStatus 0 1) (Reply.Status shared_status) b8
tenth = status_told ninth.1 refl 0 zero_one (omega arith) refl

pub gathered_run : (s : State) × Run gathering_events gathering_replies s
gathered_run =
    (b8, (s1, first.0, (b2, second.0, (b3, third.0, (b4, fourth.0, (b5, fifth.0, (b6, sixth.0, (b7, seventh.0, (b8, eighth.0, (b8, ninth.0, (b8, tenth.0, refl)))))))))))
