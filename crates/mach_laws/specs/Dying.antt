-- A port dies: whoever asked to be told of its name is told, and the name is dead, with one reference more.
use Rattle.std.specs.Prelude.{ℕ, false, List, [], ◌∷◌, ◌++◌}
use Rattle.mach_types.specs.declared.calls.Event.{Event}
use Rattle.mach_types.specs.declared.calls.Reply.{Reply}
use Rattle.mach_types.specs.Grammar.{word}

-- dead-name, with the name
abbrev pub port_died_text : List ℕ
port_died_text = word 0x1200 ++ word 32 ++ word 0 ++ word 1 ++ word 0 ++ word 72 ++ word 0x1001200f ++ word 2

abbrev pub dying_events : List Event
dying_events =
    Event.TaskCreate ∷ Event.TaskCreate ∷ Event.Allocate 0 1 ∷ Event.Allocate 1 1 ∷ Event.InsertRight 0 2 1 1 20
    ∷ Event.RequestNotification 0 2 72 0 1 21 ∷ Event.NameType 0 2 ∷ Event.Destroy 1 1
    ∷ Event.GetRefs 0 2 4 ∷ Event.Receive 0 1 32 false ∷ Event.NameType 0 2 ∷ []

-- The type shows a send right and the request before, and a dead name afterwards.
abbrev pub dying_replies : List Reply
dying_replies =
    Reply.Task 0 ∷ Reply.Task 1 ∷ Reply.Name 1 ∷ Reply.Name 1 ∷ Reply.Code 0
    ∷ Reply.Previous 0 ∷ Reply.NameType 0x80010000 ∷ Reply.Code 0
    ∷ Reply.Refs 2 ∷ Reply.Message port_died_text ∷ Reply.NameType 0x00100000 ∷ []
