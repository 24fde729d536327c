-- A message that is too long for its receiver, who doesn't ask that it stay, is destroyed: then there is none.
use Rattle.std.specs.Prelude.{false, true, List, [], ◌∷◌}
use Rattle.mach_types.specs.declared.calls.Event.{Event}
use Rattle.mach_types.specs.declared.calls.Reply.{Reply}
use Rattle.mach_types.specs.declared.calls.Waited.{Waited}
use Rattle.mach_laws.specs.FirstMessage.{sent_text}

abbrev pub destroying_events : List Event
destroying_events =
    Event.TaskCreate ∷ Event.Allocate 0 1 ∷ Event.Send 0 sent_text ∷ Event.Receive 0 1 8 true ∷ Event.Receive 0 1 8 false ∷ Event.Receive 0 1 24 false ∷ []

abbrev pub destroying_replies : List Reply
destroying_replies =
    Reply.Task 0 ∷ Reply.Name 1 ∷ Reply.Code 0 ∷ Reply.TooLarge 24 ∷ Reply.TooLarge 24 ∷ Reply.Empty (Waited.Port 0) ∷ []
