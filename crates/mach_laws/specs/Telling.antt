-- Notices that are told at once: a send-once right is lost unused; a request is made where a port has no senders already; and one
-- where a name is dead already, which gets a reference more.
use Rattle.std.specs.Prelude.{ℕ, false, List, [], ◌∷◌, ◌++◌}
use Rattle.mach_types.specs.declared.calls.Event.{Event}
use Rattle.mach_types.specs.declared.calls.Reply.{Reply}
use Rattle.mach_types.specs.Grammar.{word}

-- send-once
abbrev pub unused_text : List ℕ
unused_text = word 0x1200 ++ word 24 ++ word 0 ++ word 1 ++ word 0 ++ word 71

-- no-senders, with the make-send count
abbrev pub no_senders_text : List ℕ
no_senders_text = word 0x1200 ++ word 32 ++ word 0 ++ word 1 ++ word 1 ++ word 70 ++ word 0x10012002 ++ word 0

-- dead-name, with the name
abbrev pub name_died_text : List ℕ
name_died_text = word 0x1200 ++ word 32 ++ word 0 ++ word 1 ++ word 2 ++ word 72 ++ word 0x1001200f ++ word 2

abbrev pub telling_events : List Event
telling_events =
    Event.TaskCreate ∷ Event.Allocate 0 1 ∷ Event.ExtractRight 0 1 21 0 ∷ Event.Deallocate 0 2 ∷ Event.Receive 0 1 24 false
    ∷ Event.RequestNotification 0 1 70 0 1 21 ∷ Event.Receive 0 1 32 false
    ∷ Event.Allocate 0 4 ∷ Event.RequestNotification 0 2 72 1 1 21 ∷ Event.Receive 0 1 32 false ∷ Event.GetRefs 0 2 4 ∷ []

abbrev pub telling_replies : List Reply
telling_replies =
    Reply.Task 0 ∷ Reply.Name 1 ∷ Reply.Right 2 18 ∷ Reply.Code 0 ∷ Reply.Message unused_text
    ∷ Reply.Previous 0 ∷ Reply.Message no_senders_text
    ∷ Reply.Name 2 ∷ Reply.Previous 0 ∷ Reply.Message name_died_text ∷ Reply.Refs 2 ∷ []
