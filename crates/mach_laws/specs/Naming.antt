-- Names alone: a dead name is made, gets two more references, becomes name 7 and loses a reference; its task's names are 7, a dead
-- name, and no other. It can't be given a port's number as well; at last it goes, with its two references.
use Rattle.std.specs.Prelude.{pos, List, [], ◌∷◌}
use Rattle.mach_types.specs.declared.calls.Event.{Event}
use Rattle.mach_types.specs.declared.calls.Reply.{Reply}

abbrev pub naming_events : List Event
naming_events =
    Event.TaskCreate ∷ Event.Allocate 0 4 ∷ Event.ModRefs 0 1 4 (pos 2) ∷ Event.Rename 0 1 7 ∷ Event.Deallocate 0 7
    ∷ Event.Names 0 ∷ Event.GetRefs 0 7 4 ∷ Event.AllocateName 0 1 7 ∷ Event.Destroy 0 7 ∷ Event.NameType 0 7 ∷ []

abbrev pub naming_replies : List Reply
naming_replies =
    Reply.Task 0 ∷ Reply.Name 1 ∷ Reply.Code 0 ∷ Reply.Code 0 ∷ Reply.Code 0
    ∷ Reply.Names ((7, 0x00100000) ∷ []) ∷ Reply.Refs 2 ∷ Reply.Code 13 ∷ Reply.Code 0 ∷ Reply.Code 15 ∷ []
