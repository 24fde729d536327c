-- A receive right is handed on: a task's port gets a send right in another task, and then its receive right is taken there too. It
-- comes under the name that is there; the first task's name is gone, and the count of send rights made is 0.
use Rattle.std.specs.Prelude.{List, [], ◌∷◌}
use Rattle.mach_types.specs.declared.calls.Event.{Event}
use Rattle.mach_types.specs.declared.calls.Reply.{Reply}
use Rattle.mach_types.specs.declared.calls.Status.{Status}

abbrev pub handed_status : Status
handed_status = record { set = 0; sequence = 0; make_send = 0; limit = 5; queued = 0; send_once = 0; has_send = 1; port_destroyed = 0; no_senders = 0 }

abbrev pub handing_events : List Event
handing_events =
    Event.TaskCreate ∷ Event.TaskCreate ∷ Event.Allocate 0 1
    ∷ Event.InsertRight 1 1 0 1 20 ∷ Event.ExtractRight 0 1 16 1
    ∷ Event.NameType 1 1 ∷ Event.NameType 0 1 ∷ Event.ReceiveStatus 1 1 ∷ []

abbrev pub handing_replies : List Reply
handing_replies =
    Reply.Task 0 ∷ Reply.Task 1 ∷ Reply.Name 1
    ∷ Reply.Code 0 ∷ Reply.Right 1 16
    ∷ Reply.NameType 0x00030000 ∷ Reply.Code 15 ∷ Reply.Status handed_status ∷ []
