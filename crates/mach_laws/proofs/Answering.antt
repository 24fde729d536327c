-- A message with a right to answer with, and the answer, are a run.
use Rattle.std.proofs.Common.{◌≡◌, [], ◌∷◌, Some, refl, arith, false, rules}
use Rattle.std.specs.FinMap.{gets}
use Rattle.mach_types.specs.declared.calls.Event.{Event}
use Rattle.mach_types.specs.declared.calls.Reply.{Reply}
use Rattle.mach_types.specs.declared.rights.Disposition.TheVariants.{MoveSendOnce, MakeSend, MakeSendOnce}
use Rattle.mach_types.specs.Tokens.{send, send_once, in_task, in_message, token}
use Rattle.mach_types.specs.Messages.{to_port, present, Body, Message}
use Rattle.mach_types.specs.Grammar.{WireBody, Header}
use Rattle.mach_model.specs.State.{State, Target, lookup, without_name, with_name}
use Rattle.mach_model.specs.CopyIn.{CopyRight}
use Rattle.mach_model.specs.CopyOut.{GiveWord}
use Rattle.mach_model.specs.Send.{Copied, entry}
use Rattle.mach_model.specs.Machine.{Run}
use Rattle.mach_laws.specs.Answering.{asking_text, asked_text, answering_text, answered_text, answering_events, answering_replies}
use Rattle.mach_laws.proofs.Playing.{Plays, with_receive, with_made, with_entry, without_front, good_text, spelled, fresh_next, makes, plain_message, copies_plain, port_allocated, sent, receives, received, type_told, no_type, s1, s2, first, second, fresh_two}

abbrev a3 : State
a3 = with_receive 0 2 s2

third : Plays 2 s2 (Event.Allocate 0 1) (Reply.Name 2) a3
third = port_allocated second.1 refl fresh_two (grind (gets, rules)) (omega arith)

-- ---- asking

abbrev asking : Message
asking = record { destination = 0; kind = send; reply = present send_once (to_port 1); id = 7; body = Body.raw [] }

abbrev asking_header : Header
asking_header = record { remote_kind = 20; local_kind = 21; size = 24; remote = 1; local = 2; sequence = 0; id = 7 }

abbrev asking_first : State
asking_first = with_made MakeSend 0 0 1 (in_message 0 0) a3

abbrev asking_copied : State
asking_copied = with_made MakeSendOnce 1 0 2 (in_message 0 0) asking_first

asks : Copied 0 asking_header (WireBody.raw []) a3 asking asking_copied
asks = record {
  first = asking_first;
  second = asking_copied;
  destination = makes 0 MakeSend refl (grind (gets, rules)) (omega arith) refl refl;
  kind = refl;
  reply = ((MakeSendOnce, refl, refl), makes 1 MakeSendOnce refl (grind (gets, rules)) (omega arith) refl refl);
  id = refl;
  body = (refl, refl);
}

abbrev a4 : State
a4 = with_entry 3 asking asking_copied

fourth : Plays 3 a3 (Event.Send 0 asking_text) (Reply.Code 0) a4
fourth =
    sent third.1 refl asking_header (WireBody.raw []) asking asking_copied (good_text asking_text (omega arith) refl (omega arith) (grind arith))
    (spelled refl (omega arith) (omega arith) refl) asks (λ p. omega arith) (omega arith) (omega arith)

-- ---- the right comes out under a fresh name

abbrev asked_taken : State
asked_taken = without_front 0 (token send_once 1 (in_message 0 0) ∷ a3.ledger) a4

abbrev asked_named : State
asked_named = with_name 0 3 (Target.once 1) asked_taken

abbrev a5 : State
a5 = record asked_named { ledger = token send_once 1 (in_task 0) ∷ a3.ledger }

gives : GiveWord 0 (in_message 0 0) asked_taken (18, 3) (send_once, to_port 1) a5
gives = record {
  named_state = asked_named;
  named = record {
    room = grind (gets, rules);
    fresh = fresh_next (Target.port 1) fresh_two (grind (gets, rules));
    rest = refl;
  };
  rest = refl;
  tokens = λ h. omega arith;
}

fifth : Plays 4 a4 (Event.Receive 0 1 24 false) (Reply.Message asked_text) a5
fifth =
    received fourth.1 refl (grind (gets, rules)) (omega arith) refl
    (receives 18 3 1 (entry 3 asking) (WireBody.raw []) asked_taken.ledger refl (λ h. omega arith) refl refl (a5, gives, refl) (grind (gets, rules))
    (spelled refl (omega arith) (omega arith) refl) (omega arith))

once_named : lookup a5 0 3 ≡ Some (Target.once 1)
once_named = grind (gets, rules)

sixth : Plays 5 a5 (Event.NameType 0 3) (Reply.NameType 0x00040000) a5
sixth = type_told fifth.1 refl (Target.once 1) once_named

-- ---- answering: the name is gone

abbrev answering : Message
answering = plain_message send_once 1 8 []

abbrev answering_header : Header
answering_header = record { remote_kind = 18; local_kind = 0; size = 24; remote = 3; local = 0; sequence = 0; id = 8 }

abbrev answering_copied : State
answering_copied = record (without_name 0 3 a5) { ledger = token send_once 1 (in_message 1 0) ∷ a3.ledger }

abbrev moves : CopyRight 0 (in_message 1 0) 18 3 a5 (to_port 1) answering_copied
moves = record { given = MoveSendOnce; is_given = refl; target = Target.once 1; found = once_named; legal = tt; mark_is = refl; rest = refl; tokens = λ h. omega arith }

abbrev a6 : State
a6 = with_entry 6 answering answering_copied

seventh : Plays 6 a5 (Event.Send 0 answering_text) (Reply.Code 0) a6
seventh =
    sent sixth.1 refl answering_header (WireBody.raw []) answering answering_copied (good_text answering_text (omega arith) refl (omega arith) (grind arith))
    (spelled refl (omega arith) (omega arith) refl) (copies_plain refl refl moves refl) (λ p. omega arith) (omega arith) (omega arith)

eighth : Plays 7 a6 (Event.NameType 0 3) (Reply.Code 15) a6
eighth = no_type seventh.1 refl (grind (gets, rules))

-- ---- the answer is received

abbrev a7 : State
a7 = without_front 1 a3.ledger a6

ninth : Plays 8 a6 (Event.Receive 0 2 24 false) (Reply.Message answered_text) a7
ninth =
    received eighth.1 refl (grind (gets, rules)) (omega arith) refl
    (receives 0 0 2 (entry 6 answering) (WireBody.raw []) a3.ledger refl (λ h. omega arith) (refl, refl) refl refl (grind (gets, rules))
    (spelled refl (omega arith) (omega arith) refl) (omega arith))

pub answered_run : (s : State) × Run answering_events answering_replies s
answered_run =
    (a7, (s1, first.0, (s2, second.0, (a3, third.0, (a4, fourth.0, (a5, fifth.0, (a5, sixth.0, (a6, seventh.0, (a6, eighth.0, (a7, ninth.0, refl))))))))))
