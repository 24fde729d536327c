-- A task ends while a request stands on one of its names: the name goes, and whoever asked is told that it is deleted, not that it
-- died, though the name's port dies with the task.
use Rattle.std.specs.Prelude.{ℕ, false, List, [], ◌∷◌, ◌++◌}
use Rattle.mach_types.specs.declared.calls.Event.{Event}
use Rattle.mach_types.specs.declared.calls.Reply.{Reply}
use Rattle.mach_types.specs.declared.calls.Waited.{Waited}
use Rattle.mach_types.specs.Grammar.{word}

-- port-deleted, with the name
abbrev pub name_deleted_text : List ℕ
name_deleted_text = word 0x1200 ++ word 32 ++ word 0 ++ word 1 ++ word 0 ++ word 65 ++ word 0x1001200f ++ word 1

abbrev pub deleting_events : List Event
deleting_events =
    Event.TaskCreate ∷ Event.TaskCreate ∷ Event.Allocate 0 1 ∷ Event.Allocate 1 1 ∷ Event.ExtractRight 0 1 21 1
    ∷ Event.RequestNotification 1 1 72 0 2 18 ∷ Event.TaskTerminate 1 ∷ Event.Receive 0 1 32 false ∷ Event.Receive 0 1 32 false ∷ []

-- there is no second notice
abbrev pub deleting_replies : List Reply
deleting_replies =
    Reply.Task 0 ∷ Reply.Task 1 ∷ Reply.Name 1 ∷ Reply.Name 1 ∷ Reply.Right 2 18
    ∷ Reply.Previous 0 ∷ Reply.Code 0 ∷ Reply.Message name_deleted_text ∷ Reply.Empty (Waited.Port 0) ∷ []
