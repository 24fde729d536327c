-- Which events take no memory (this project's own).
use Rattle.mach_types.specs.declared.calls.Event.{Event}

-- The event takes no memory: it ends a task, drops or counts references, or reads or sets what is there.
abbrev pub TakesNoMemory : Event → Type 0
TakesNoMemory (Event.TaskTerminate task) = Unit {0}
TakesNoMemory (Event.Deallocate task name) = Unit {0}
TakesNoMemory (Event.Destroy task name) = Unit {0}
TakesNoMemory (Event.ModRefs task name right delta) = Unit {0}
TakesNoMemory (Event.GetRefs task name right) = Unit {0}
TakesNoMemory (Event.NameType task name) = Unit {0}
TakesNoMemory (Event.ReceiveStatus task name) = Unit {0}
TakesNoMemory (Event.SetQlimit task name limit) = Unit {0}
TakesNoMemory (Event.SetMscount task name count) = Unit {0}
TakesNoMemory (Event.SetSeqno task name number) = Unit {0}
TakesNoMemory (Event.MoveMember task member after) = Unit {0}
TakesNoMemory (Event.ExtractMember task member set) = Unit {0}
TakesNoMemory event = ⊥
