-- The numbers of an entry fit their types.
use Rattle.std.specs.Prelude.{ℕ, ℤ, pos, negsuc, ◌<◌, ◌^◌, All, ⊤}
use Rattle.mach_types.specs.declared.calls.Event.{Event}
use Rattle.mach_types.specs.declared.calls.Reply.{Reply}
use Rattle.mach_types.specs.declared.calls.Status.{Status}
use Rattle.mach_types.specs.declared.calls.Waited.{Waited}
use Rattle.kernel_lock.specs.declared.entry.Entry.{Entry}

-- 8, 32 and 64 bits
abbrev pub IsByte : ℕ → Type 0
IsByte n = n < 2 ^ 8

abbrev pub IsWord : ℕ → Type 0
IsWord n = n < 2 ^ 32

abbrev pub IsLong : ℕ → Type 0
IsLong n = n < 2 ^ 64

-- from -2^31 to 2^31 - 1
abbrev pub IsDelta : ℤ → Type 0
IsDelta (pos n) = n < 2 ^ 31
IsDelta (negsuc n) = n < 2 ^ 31

abbrev pub FitsWaited : Waited → Type 0
FitsWaited (Waited.Port port) = IsLong port
FitsWaited (Waited.Set set) = IsLong set

abbrev pub FitsEvent : Event → Type 0
FitsEvent Event.TaskCreate = ⊤
FitsEvent (Event.TaskTerminate task) = IsWord task
FitsEvent (Event.Allocate task right) = IsWord task × IsWord right
FitsEvent (Event.AllocateName task right name) = IsWord task × IsWord right × IsWord name
FitsEvent (Event.Deallocate task name) = IsWord task × IsWord name
FitsEvent (Event.Destroy task name) = IsWord task × IsWord name
FitsEvent (Event.ModRefs task name right delta) = IsWord task × IsWord name × IsWord right × IsDelta delta
FitsEvent (Event.GetRefs task name right) = IsWord task × IsWord name × IsWord right
FitsEvent (Event.NameType task name) = IsWord task × IsWord name
FitsEvent (Event.Names task) = IsWord task
FitsEvent (Event.Rename task old new) = IsWord task × IsWord old × IsWord new
FitsEvent (Event.ReceiveStatus task name) = IsWord task × IsWord name
FitsEvent (Event.SetQlimit task name limit) = IsWord task × IsWord name × IsWord limit
FitsEvent (Event.SetMscount task name count) = IsWord task × IsWord name × IsWord count
FitsEvent (Event.SetSeqno task name sequence) = IsWord task × IsWord name × IsWord sequence
FitsEvent (Event.SetStatus task name) = IsWord task × IsWord name
FitsEvent (Event.MoveMember task member set) = IsWord task × IsWord member × IsWord set
FitsEvent (Event.InsertMember task member set) = IsWord task × IsWord member × IsWord set
FitsEvent (Event.ExtractMember task member set) = IsWord task × IsWord member × IsWord set
FitsEvent (Event.InsertRight task name from poly disposition) = IsWord task × IsWord name × IsWord from × IsWord poly × IsWord disposition
FitsEvent (Event.ExtractRight task name disposition to) = IsWord task × IsWord name × IsWord disposition × IsWord to
FitsEvent (Event.RequestNotification task name variant sync notify disposition) =
    IsWord task × IsWord name × IsWord variant × IsWord sync × IsWord notify × IsWord disposition
FitsEvent (Event.Send task bytes) = IsWord task × All IsByte bytes
FitsEvent (Event.Receive task name room large) = IsWord task × IsWord name × IsWord room
FitsEvent (Event.ReceiveAgain task waited room large) = IsWord task × FitsWaited waited × IsWord room

pub record FitsStatus (status : Status) : Type 0 where
  pub set : IsWord status.set
  pub sequence : IsWord status.sequence
  pub make_send : IsWord status.make_send
  pub limit : IsWord status.limit
  pub queued : IsWord status.queued
  pub send_once : IsWord status.send_once
  pub has_send : IsWord status.has_send
  pub port_destroyed : IsWord status.port_destroyed
  pub no_senders : IsWord status.no_senders

abbrev pub FitsReply : Reply → Type 0
FitsReply (Reply.Code code) = IsWord code
FitsReply (Reply.Task task) = IsWord task
FitsReply (Reply.Name name) = IsWord name
FitsReply (Reply.Refs count) = IsWord count
FitsReply (Reply.NameType bits) = IsWord bits
FitsReply (Reply.Names names) = All (λ (e : ℕ × ℕ). IsWord e.0 × IsWord e.1) names
FitsReply (Reply.Status status) = FitsStatus status
FitsReply (Reply.Members members) = All IsWord members
FitsReply (Reply.Right name kind) = IsWord name × IsByte kind
FitsReply (Reply.Previous name) = IsWord name
FitsReply (Reply.Message bytes) = All IsByte bytes
FitsReply (Reply.Empty waited) = FitsWaited waited
FitsReply (Reply.TooLarge length_of) = IsWord length_of
FitsReply Reply.NoRecord = ⊤

pub record Fits (e : Entry) : Type 0 where
  pub caller : IsLong e.caller
  pub event : FitsEvent e.event
  pub reply : FitsReply e.reply
