-- The codes that C gets, and their names.
use Rattle.std.specs.Prelude.{◌≡◌, ◌≢◌, ◌==◌, ℕ, ℤ, ◌⊎◌, List, [], codes, if◌then◌else◌}
use Rattle.std.specs.Int.{w32, cast_signed}
use Rattle.mach_types.specs.declared.codes.KernReturn.{KernReturn}
use Rattle.mach_types.specs.declared.codes.KernReturn.TheVariants as kern
use Rattle.mach_types.specs.declared.codes.MsgReturn.{MsgReturn}
use Rattle.mach_types.specs.declared.codes.MsgReturn.TheVariants as msg
use Rattle.mach_types.specs.Codes.{kern_number, msg_number}

-- ---- codes: Mach's numbers, and the library's own, as C has them, in 32 bits with a sign

abbrev pub signed : ℕ → ℤ
signed number = cast_signed w32 number

abbrev pub no_kernel : ℕ
no_kernel = 0x47000001  -- GELVONDS_NO_KERNEL

abbrev pub in_use : ℕ
in_use = 0x47000002  -- GELVONDS_IN_USE

abbrev pub too_short : ℕ
too_short = 0x47000003  -- GELVONDS_TOO_SHORT

abbrev pub no_waited : ℕ
no_waited = 0x47000004  -- GELVONDS_NO_WAITED

abbrev pub no_answer : ℕ
no_answer = 0x47000005  -- GELVONDS_NO_ANSWER

abbrev pub no_msg : ℕ
no_msg = 0x47000006  -- GELVONDS_NO_MSG

abbrev pub no_entry : ℕ
no_entry = 0x47000007  -- GELVONDS_NO_ENTRY

-- ---- names

abbrev pub kern_name : KernReturn → List ℕ
kern_name kern.Success = codes "KERN_SUCCESS"
kern_name kern.NoSpace = codes "KERN_NO_SPACE"
kern_name kern.InvalidArgument = codes "KERN_INVALID_ARGUMENT"
kern_name kern.ResourceShortage = codes "KERN_RESOURCE_SHORTAGE"
kern_name kern.AlreadyInSet = codes "KERN_ALREADY_IN_SET"
kern_name kern.NotInSet = codes "KERN_NOT_IN_SET"
kern_name kern.NameExists = codes "KERN_NAME_EXISTS"
kern_name kern.InvalidName = codes "KERN_INVALID_NAME"
kern_name kern.InvalidTask = codes "KERN_INVALID_TASK"
kern_name kern.InvalidRight = codes "KERN_INVALID_RIGHT"
kern_name kern.InvalidValue = codes "KERN_INVALID_VALUE"
kern_name kern.UrefsOverflow = codes "KERN_UREFS_OVERFLOW"
kern_name kern.InvalidCapability = codes "KERN_INVALID_CAPABILITY"
kern_name kern.RightExists = codes "KERN_RIGHT_EXISTS"

abbrev pub msg_name : MsgReturn → List ℕ
msg_name msg.Success = codes "MACH_MSG_SUCCESS"
msg_name msg.SendInvalidData = codes "MACH_SEND_INVALID_DATA"
msg_name msg.SendInvalidDest = codes "MACH_SEND_INVALID_DEST"
msg_name msg.SendTimedOut = codes "MACH_SEND_TIMED_OUT"
msg_name msg.SendMsgTooSmall = codes "MACH_SEND_MSG_TOO_SMALL"
msg_name msg.SendInvalidReply = codes "MACH_SEND_INVALID_REPLY"
msg_name msg.SendInvalidRight = codes "MACH_SEND_INVALID_RIGHT"
msg_name msg.SendNoBuffer = codes "MACH_SEND_NO_BUFFER"
msg_name msg.SendInvalidType = codes "MACH_SEND_INVALID_TYPE"
msg_name msg.SendInvalidHeader = codes "MACH_SEND_INVALID_HEADER"
msg_name msg.ReceiveInvalidName = codes "MACH_RCV_INVALID_NAME"
msg_name msg.ReceiveTimedOut = codes "MACH_RCV_TIMED_OUT"
msg_name msg.ReceiveTooLarge = codes "MACH_RCV_TOO_LARGE"
msg_name msg.ReceivePortChanged = codes "MACH_RCV_PORT_CHANGED"
msg_name msg.ReceivePortDied = codes "MACH_RCV_PORT_DIED"
msg_name msg.ReceiveInSet = codes "MACH_RCV_IN_SET"
msg_name msg.ReceiveBodyErrorMemory = codes "MACH_RCV_BODY_ERROR|MACH_MSG_IPC_KERNEL"
msg_name msg.ReceiveBodyErrorNames = codes "MACH_RCV_BODY_ERROR|MACH_MSG_IPC_SPACE"

-- the name of a code of the library's own, and nothing for another number
abbrev pub own_name : ℕ → List ℕ
own_name number =
    if number == no_kernel then codes "GELVONDS_NO_KERNEL" else
    if number == in_use then codes "GELVONDS_IN_USE" else
    if number == too_short then codes "GELVONDS_TOO_SHORT" else
    if number == no_waited then codes "GELVONDS_NO_WAITED" else
    if number == no_answer then codes "GELVONDS_NO_ANSWER" else
    if number == no_msg then codes "GELVONDS_NO_MSG" else
    if number == no_entry then codes "GELVONDS_NO_ENTRY" else []

-- The number is that of a kernel call's code, or of a message's, and this is the code's name.
abbrev pub IsKern : (number : ℕ) → (name : List ℕ) → Type 0
IsKern number name = (code : KernReturn) × (kern_number code ≡ number) × (name ≡ kern_name code)

abbrev pub IsMsg : (number : ℕ) → (name : List ℕ) → Type 0
IsMsg number name = (code : MsgReturn) × (msg_number code ≡ number) × (name ≡ msg_name code)

abbrev pub IsNoKern : (number : ℕ) → Type 0
IsNoKern number = (code : KernReturn) → kern_number code ≢ number

abbrev pub IsNoMsg : (number : ℕ) → Type 0
IsNoMsg number = (code : MsgReturn) → msg_number code ≢ number

-- What a number is called. It is a kernel call's code first, as 0 is that of success of both; then a message's; then one of
-- the library's own, or none.
abbrev pub IsCalled : (number : ℕ) → (name : List ℕ) → Type 0
IsCalled number name = IsKern number name ⊎ IsNoKern number × (IsMsg number name ⊎ IsNoMsg number × (name ≡ own_name number))
