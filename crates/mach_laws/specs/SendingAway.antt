-- A task with two ports ends, and asked for one of them to be sent away: that port lives, and its receive right comes in a notice to whom
-- it was to be sent; the other port dies.
use Rattle.std.specs.Prelude.{ℕ, false, List, [], ◌∷◌, ◌++◌}
use Rattle.mach_types.specs.declared.calls.Event.{Event}
use Rattle.mach_types.specs.declared.calls.Reply.{Reply}
use Rattle.mach_types.specs.Grammar.{word}

-- port-destroyed, with the receive right under the name that is there
abbrev pub port_sent_text : List ℕ
port_sent_text = word 0x80001200 ++ word 32 ++ word 0 ++ word 1 ++ word 0 ++ word 69 ++ word 0x10012010 ++ word 2

abbrev pub sending_away_events : List Event
sending_away_events =
    Event.TaskCreate ∷ Event.TaskCreate ∷ Event.Allocate 0 1 ∷ Event.Allocate 1 1 ∷ Event.InsertRight 0 2 1 1 20
    ∷ Event.Allocate 1 1 ∷ Event.InsertRight 0 3 1 2 20 ∷ Event.ExtractRight 0 1 21 1
    ∷ Event.RequestNotification 1 1 69 0 3 18 ∷ Event.TaskTerminate 1
    ∷ Event.Receive 0 1 32 false ∷ Event.NameType 0 2 ∷ Event.NameType 0 3 ∷ []

-- One name has the receive right and a send right then, and the other is dead.
abbrev pub sending_away_replies : List Reply
sending_away_replies =
    Reply.Task 0 ∷ Reply.Task 1 ∷ Reply.Name 1 ∷ Reply.Name 1 ∷ Reply.Code 0
    ∷ Reply.Name 2 ∷ Reply.Code 0 ∷ Reply.Right 3 18
    ∷ Reply.Previous 0 ∷ Reply.Code 0
    ∷ Reply.Message port_sent_text ∷ Reply.NameType 0x00030000 ∷ Reply.NameType 0x00100000 ∷ []
