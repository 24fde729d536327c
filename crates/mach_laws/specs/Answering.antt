-- A message with a right to answer with: a task with two ports sends a message to one of them, with a send-once right for the other;
-- it receives the message and finds the right under a fresh name; it answers by the right, and the name is gone.
use Rattle.std.specs.Prelude.{ℕ, false, List, [], ◌∷◌, ◌++◌}
use Rattle.mach_types.specs.declared.calls.Event.{Event}
use Rattle.mach_types.specs.declared.calls.Reply.{Reply}
use Rattle.mach_types.specs.Grammar.{word}

-- destination by MAKE_SEND of name 1, reply by MAKE_SEND_ONCE of name 2
abbrev pub asking_text : List ℕ
asking_text = word 0x1514 ++ word 24 ++ word 1 ++ word 2 ++ word 0 ++ word 7

-- reversed: the remote port is the one to answer to, by the send-once right under name 3
abbrev pub asked_text : List ℕ
asked_text = word 0x1112 ++ word 24 ++ word 3 ++ word 1 ++ word 0 ++ word 7

-- destination by MOVE_SEND_ONCE of name 3
abbrev pub answering_text : List ℕ
answering_text = word 0x12 ++ word 24 ++ word 3 ++ word 0 ++ word 0 ++ word 8

abbrev pub answered_text : List ℕ
answered_text = word 0x1200 ++ word 24 ++ word 0 ++ word 2 ++ word 0 ++ word 8

abbrev pub answering_events : List Event
answering_events =
    Event.TaskCreate ∷ Event.Allocate 0 1 ∷ Event.Allocate 0 1
    ∷ Event.Send 0 asking_text ∷ Event.Receive 0 1 24 false ∷ Event.NameType 0 3
    ∷ Event.Send 0 answering_text ∷ Event.NameType 0 3 ∷ Event.Receive 0 2 24 false ∷ []

abbrev pub answering_replies : List Reply
answering_replies =
    Reply.Task 0 ∷ Reply.Name 1 ∷ Reply.Name 2
    ∷ Reply.Code 0 ∷ Reply.Message asked_text ∷ Reply.NameType 0x00040000
    ∷ Reply.Code 0 ∷ Reply.Code 15 ∷ Reply.Message answered_text ∷ []
