-- A port dies with a message in its queue that carries a right to answer by: whoever waits for the answer is told that none comes.
use Rattle.std.specs.Prelude.{ℕ, false, List, [], ◌∷◌, ◌++◌}
use Rattle.mach_types.specs.declared.calls.Event.{Event}
use Rattle.mach_types.specs.declared.calls.Reply.{Reply}
use Rattle.mach_types.specs.Grammar.{word}
use Rattle.mach_laws.specs.Telling.{unused_text}

-- destination by COPY_SEND of name 2, reply by MAKE_SEND_ONCE of name 1
abbrev pub waiting_text : List ℕ
waiting_text = word 0x1513 ++ word 24 ++ word 2 ++ word 1 ++ word 0 ++ word 7

abbrev pub unanswered_events : List Event
unanswered_events =
    Event.TaskCreate ∷ Event.TaskCreate ∷ Event.Allocate 0 1 ∷ Event.Allocate 1 1 ∷ Event.InsertRight 0 2 1 1 20
    ∷ Event.Send 0 waiting_text ∷ Event.Destroy 1 1 ∷ Event.Receive 0 1 24 false ∷ Event.NameType 0 2 ∷ []

-- the name of the dead port is a dead name
abbrev pub unanswered_replies : List Reply
unanswered_replies =
    Reply.Task 0 ∷ Reply.Task 1 ∷ Reply.Name 1 ∷ Reply.Name 1 ∷ Reply.Code 0
    ∷ Reply.Code 0 ∷ Reply.Code 0 ∷ Reply.Message unused_text ∷ Reply.NameType 0x00100000 ∷ []
