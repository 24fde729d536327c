-- Names with a generation: a name that was given up comes back with another, and two names may share an index where a caller chose one. The
-- task gives up 512, gets 513, chooses 700 and gives up 513: so index 2 is in use still, and the next fresh name is 768. Once 700 is given
-- up too, index 2 is the least free one, for the third time.
use Rattle.std.specs.Prelude.{List, [], ◌∷◌}
use Rattle.mach_types.specs.declared.calls.Event.{Event}
use Rattle.mach_types.specs.declared.calls.Reply.{Reply}

abbrev pub tagging_events : List Event
tagging_events =
    Event.TaskCreate ∷ Event.Allocate 0 4 ∷ Event.Allocate 0 4 ∷ Event.Deallocate 0 512 ∷ Event.Allocate 0 4
    ∷ Event.AllocateName 0 4 700 ∷ Event.Deallocate 0 513 ∷ Event.Allocate 0 4 ∷ Event.Deallocate 0 700 ∷ Event.Allocate 0 4 ∷ []

abbrev pub tagging_replies : List Reply
tagging_replies =
    Reply.Task 0 ∷ Reply.Name 256 ∷ Reply.Name 512 ∷ Reply.Code 0 ∷ Reply.Name 513
    ∷ Reply.Name 700 ∷ Reply.Code 0 ∷ Reply.Name 768 ∷ Reply.Code 0 ∷ Reply.Name 514 ∷ []
