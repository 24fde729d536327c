-- The codes by which a call is refused, for each cause that can be told.
use Rattle.std.specs.Prelude.{◌≡◌, ◌⊎◌, ℕ, ℤ, pos, negsuc}
use Rattle.mach_types.specs.Codes.{kern_number, msg_number}
use Rattle.mach_types.specs.declared.codes.KernReturn.TheVariants as kern
use Rattle.mach_types.specs.declared.codes.MsgReturn.TheVariants as msg
use Rattle.mach_words.specs.declared.faults.ItemFault.{ItemFault}
use Rattle.mach_words.specs.declared.faults.MessageFault.{MessageFault}
use Rattle.mach_causes_base.specs.declared.cause.Cause.{Cause}
use Rattle.mach_causes_base.specs.declared.cause.Part.{Part}
use Rattle.mach_causes_base.specs.declared.cause.Reason.{Reason}
use Rattle.mach_causes_base.specs.declared.cause.Wanted.{Wanted}

-- The code of the first fault of an item.
abbrev pub item_code : ItemFault → ℕ
item_code (ItemFault.LongEnds left) = msg_number msg.SendMsgTooSmall
item_code ItemFault.OutOfLine = msg_number msg.SendInvalidType
item_code ItemFault.Deallocates = msg_number msg.SendInvalidType
item_code ItemFault.Unused = msg_number msg.SendInvalidType
item_code ItemFault.LongFields = msg_number msg.SendInvalidType
item_code (ItemFault.PortSize bits) = msg_number msg.SendInvalidType
item_code (ItemFault.Type number) = msg_number msg.SendInvalidType
item_code (ItemFault.DataEnds bytes past) = msg_number msg.SendMsgTooSmall

-- The code by which bytes that are no message are refused, by their first fault.
abbrev pub fault_code : MessageFault → ℕ
fault_code (MessageFault.Length length) = msg_number msg.SendMsgTooSmall
fault_code (MessageFault.TooLong length) = msg_number msg.SendInvalidData
fault_code (MessageFault.Bits bits) = msg_number msg.SendInvalidHeader
fault_code (MessageFault.Destination number) = msg_number msg.SendInvalidHeader
fault_code (MessageFault.Answer number) = msg_number msg.SendInvalidHeader
fault_code (MessageFault.AnswerPort name) = msg_number msg.SendInvalidHeader
fault_code (MessageFault.Item number at fault) = item_code fault

-- Fewer references than none, or more than there can be.
abbrev pub IsChangeCode : ℤ → ℕ → Type 0
IsChangeCode (pos k) code = code ≡ kern_number kern.UrefsOverflow
IsChangeCode (negsuc k) code = code ≡ kern_number kern.InvalidValue

-- A call is refused by this code for this reason, which is about the whole call. Kernel calls, sends and receipts have codes of their own.
abbrev pub IsReasonCode : Reason → ℕ → Type 0
IsReasonCode (Reason.NoTask task ended) code = code ≡ kern_number kern.InvalidTask
IsReasonCode Reason.TasksFull code = code ≡ kern_number kern.NoSpace
IsReasonCode (Reason.NotMade right) code = code ≡ kern_number kern.InvalidValue
IsReasonCode (Reason.NoRight right) code = code ≡ kern_number kern.InvalidValue
IsReasonCode (Reason.NoName name) code = code ≡ kern_number kern.InvalidValue ⊎ code ≡ kern_number kern.InvalidCapability
IsReasonCode (Reason.NamesFull task) code = code ≡ kern_number kern.NoSpace
IsReasonCode (Reason.NamesShort task names) code = code ≡ msg_number msg.ReceiveBodyErrorNames
IsReasonCode (Reason.RightsFull rights more) code = code ≡ kern_number kern.NoSpace
IsReasonCode Reason.Memory code = code ≡ kern_number kern.ResourceShortage ⊎ code ≡ msg_number msg.ReceiveBodyErrorMemory
IsReasonCode Reason.NoBuffer code = code ≡ msg_number msg.SendNoBuffer
IsReasonCode (Reason.Absent place before) code = code ≡ kern_number kern.InvalidName ⊎ code ≡ msg_number msg.ReceiveInvalidName
IsReasonCode (Reason.Lacks place standing wanted) code = code ≡ kern_number kern.InvalidRight ⊎ code ≡ msg_number msg.ReceiveInvalidName
IsReasonCode (Reason.Dead place) code = code ≡ kern_number kern.InvalidRight ⊎ (code ≡ kern_number kern.InvalidCapability ⊎ code ≡ msg_number msg.ReceiveInvalidName)
IsReasonCode (Reason.TakenBefore place standing) code = code ≡ kern_number kern.InvalidName
IsReasonCode (Reason.Used place standing) code = code ≡ kern_number kern.NameExists
IsReasonCode (Reason.Elsewhere place port) code = code ≡ kern_number kern.RightExists
IsReasonCode (Reason.Limit limit) code = code ≡ kern_number kern.InvalidValue
IsReasonCode (Reason.InNoSet place port) code = code ≡ kern_number kern.NotInSet
IsReasonCode (Reason.NotIn place port set) code = code ≡ kern_number kern.NotInSet
IsReasonCode (Reason.AlreadyIn place port set) code = code ≡ kern_number kern.AlreadyInSet
IsReasonCode Reason.OneSet code = code ≡ kern_number kern.InvalidArgument
IsReasonCode (Reason.NoDisposition number) code = code ≡ kern_number kern.InvalidValue
IsReasonCode (Reason.References place standing) code = code ≡ kern_number kern.UrefsOverflow
IsReasonCode (Reason.Change place standing delta) code = IsChangeCode delta code
IsReasonCode (Reason.NoReferences delta) code = code ≡ kern_number kern.InvalidValue
IsReasonCode (Reason.NoVariant variant) code = code ≡ kern_number kern.InvalidValue
IsReasonCode (Reason.PaysBy number) code = code ≡ kern_number kern.InvalidValue
IsReasonCode (Reason.Sync number) code = code ≡ kern_number kern.InvalidValue
IsReasonCode (Reason.DeadUnasked place) code = code ≡ kern_number kern.InvalidArgument
IsReasonCode (Reason.Message fault) code = code ≡ fault_code fault
IsReasonCode (Reason.OwnDestination place port) code = code ≡ msg_number msg.SendInvalidRight
IsReasonCode (Reason.Loop place carried destination) code = code ≡ msg_number msg.SendInvalidRight
IsReasonCode (Reason.Full port queued limit) code = code ≡ msg_number msg.SendTimedOut
IsReasonCode (Reason.InSet place port set) code = code ≡ msg_number msg.ReceiveInSet
IsReasonCode (Reason.Died waited made) code = code ≡ msg_number msg.ReceivePortDied
IsReasonCode (Reason.Member port set) code = code ≡ msg_number msg.ReceivePortChanged
IsReasonCode (Reason.Changed task waited) code = code ≡ msg_number msg.ReceivePortChanged

-- Why a right can't be copied in from a name.
abbrev pub IsOfRight : Reason → Type 0
IsOfRight (Reason.NoName name) = Unit {0}
IsOfRight (Reason.Absent place before) = Unit {0}
IsOfRight (Reason.Dead place) = Unit {0}
IsOfRight (Reason.TakenBefore place standing) = Unit {0}
IsOfRight (Reason.Lacks place standing (Wanted.Disposition number)) = Unit {0}
IsOfRight reason = ⊥

-- A call is refused by this code for a reason that is about this part of it.
abbrev pub IsPartCode : Part → Reason → ℕ → Type 0
IsPartCode Part.Call reason code = IsReasonCode reason code
IsPartCode Part.Destination reason code = IsOfRight reason × (code ≡ msg_number msg.SendInvalidDest)
IsPartCode Part.Answer reason code = IsOfRight reason × (code ≡ msg_number msg.SendInvalidReply)
IsPartCode (Part.Word number) reason code = IsOfRight reason × (code ≡ msg_number msg.SendInvalidRight)
IsPartCode Part.Notify reason code = IsOfRight reason × (code ≡ kern_number kern.InvalidCapability)

-- A call is refused by this code for this cause.
abbrev pub IsCode : Cause → ℕ → Type 0
IsCode cause code = IsPartCode cause.part cause.reason code
