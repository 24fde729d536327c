-- Port sets: a task puts a port into a set, and receives by the set what was sent to the port; while it is in the set, no receive by
-- the port finds it. The set goes, and the port is in none.
use Rattle.std.specs.Prelude.{false, List, [], ◌∷◌}
use Rattle.mach_types.specs.declared.calls.Event.{Event}
use Rattle.mach_types.specs.declared.calls.Reply.{Reply}
use Rattle.mach_types.specs.declared.calls.Waited.{Waited}
use Rattle.mach_laws.specs.FirstMessage.{sent_text, received_text}

abbrev pub grouping_events : List Event
grouping_events =
    Event.TaskCreate ∷ Event.Allocate 0 1 ∷ Event.Allocate 0 3 ∷ Event.MoveMember 0 1 2 ∷ Event.SetStatus 0 2
    ∷ Event.ReceiveAgain 0 (Waited.Port 0) 24 false ∷ Event.Send 0 sent_text ∷ Event.Receive 0 1 24 false
    ∷ Event.Receive 0 2 24 false ∷ Event.ReceiveAgain 0 (Waited.Set 0) 24 false
    ∷ Event.Destroy 0 2 ∷ Event.ReceiveAgain 0 (Waited.Set 0) 24 false ∷ Event.MoveMember 0 1 0 ∷ []

abbrev pub grouping_replies : List Reply
grouping_replies =
    Reply.Task 0 ∷ Reply.Name 1 ∷ Reply.Name 2 ∷ Reply.Code 0 ∷ Reply.Members (1 ∷ [])
    ∷ Reply.Code 0x10004006 ∷ Reply.Code 0 ∷ Reply.Code 0x1000400a
    ∷ Reply.Message received_text ∷ Reply.Empty (Waited.Set 0)
    ∷ Reply.Code 0 ∷ Reply.Code 0x10004009 ∷ Reply.Code 12 ∷ []
