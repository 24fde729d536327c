-- Which calls a statement's call can become. Words stand for names, and what they stand for is not said here.
use Rattle.std.specs.Prelude.{◌≡◌, Some, None}
use Rattle.mach_types.specs.Numbers.{right_number}
use Rattle.mach_types.specs.Rights.{disposition_number}
use Rattle.mach_types.specs.declared.calls.Event.{Event}
use Rattle.mach_say_words.specs.Numbers.{variant_number}
use Rattle.mach_say_syntax.specs.declared.syntax.Call.{Call}
use Rattle.mach_say_syntax.specs.declared.syntax.CountOf.{CountOf}
use Rattle.mach_say_syntax.specs.declared.syntax.NameCall.{NameCall}
use Rattle.mach_say_syntax.specs.declared.syntax.Receiver.{Receiver}
use Rattle.mach_say_syntax.specs.declared.syntax.Under.{Under}

-- The event is the call with one name, with its rights and numbers.
abbrev pub IsNameCall : NameCall → Event → Type 0
IsNameCall NameCall.Members (Event.SetStatus task name) = Unit {0}
IsNameCall NameCall.Deallocate (Event.Deallocate task name) = Unit {0}
IsNameCall NameCall.Destroy (Event.Destroy task name) = Unit {0}
IsNameCall (NameCall.ModRefs kind delta) (Event.ModRefs task name right by) = (right ≡ right_number kind) × (by ≡ delta)
IsNameCall (NameCall.GetRefs kind) (Event.GetRefs task name right) = right ≡ right_number kind
IsNameCall NameCall.NameType (Event.NameType task name) = Unit {0}
IsNameCall NameCall.ReceiveStatus (Event.ReceiveStatus task name) = Unit {0}
IsNameCall (NameCall.SetCount CountOf.Limit number) (Event.SetQlimit task name limit) = limit ≡ number
IsNameCall (NameCall.SetCount CountOf.MakeSend number) (Event.SetMscount task name count) = count ≡ number
IsNameCall (NameCall.SetCount CountOf.Seqno number) (Event.SetSeqno task name sequence) = sequence ≡ number
IsNameCall (NameCall.Rename number) (Event.Rename task name to) = to ≡ number
IsNameCall said event = ⊥

-- The event is the statement's call, with its rights, dispositions, counts and numbers.
abbrev pub IsCall : Call → Event → Type 0
IsCall (Call.Make said) (Event.Allocate task right) = (said.chosen ≡ None) × (right ≡ right_number said.right)
IsCall (Call.Make said) (Event.AllocateName task right name) = (said.chosen ≡ Some name) × (right ≡ right_number said.right)
IsCall (Call.Give said) (Event.ExtractRight task name disposition to) = disposition ≡ disposition_number said.right.disposition
IsCall (Call.Give said) (Event.InsertRight to under task name disposition) =
    (said.under ≡ Under.Number under) × (disposition ≡ disposition_number said.right.disposition)
IsCall (Call.Send said) (Event.Send task bytes) = Unit {0}
IsCall (Call.Receive (Receiver.Name said) buffer) (Event.Receive task name room keep) = (room ≡ buffer.room) × (keep ≡ buffer.keep)
IsCall (Call.Receive Receiver.Waited buffer) (Event.ReceiveAgain task waited room keep) = (room ≡ buffer.room) × (keep ≡ buffer.keep)
IsCall (Call.Move member (Some set)) (Event.MoveMember task name into) = Unit {0}
IsCall (Call.Move member None) (Event.MoveMember task name into) = into ≡ 0
IsCall (Call.Add member set) (Event.InsertMember task name into) = Unit {0}
IsCall (Call.Remove member set) (Event.ExtractMember task name from) = Unit {0}
IsCall (Call.Notify said) (Event.RequestNotification task name variant sync notify disposition) =
    (variant ≡ variant_number said.variant) × (sync ≡ said.sync) × (disposition ≡ disposition_number said.by.disposition)
IsCall (Call.Forget said) (Event.RequestNotification task name variant sync notify disposition) =
    (variant ≡ variant_number said.variant) × (sync ≡ 0) × (notify ≡ 0) × (disposition ≡ 0)
IsCall Call.Names (Event.Names task) = Unit {0}
IsCall (Call.Named name said) event = IsNameCall said event
IsCall Call.End (Event.TaskTerminate task) = Unit {0}
IsCall (Call.Raw said) event = event ≡ said
IsCall said event = ⊥
