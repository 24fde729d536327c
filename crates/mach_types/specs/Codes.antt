-- The codes of the interface, each with its name in C (Port Manipulation Interface and IPC Interface).
use Rattle.std.specs.Prelude.{ℕ}
use Rattle.mach_types.specs.declared.codes.KernReturn.{KernReturn}
use Rattle.mach_types.specs.declared.codes.KernReturn.TheVariants as kern
use Rattle.mach_types.specs.declared.codes.MsgReturn.{MsgReturn}
use Rattle.mach_types.specs.declared.codes.MsgReturn.TheVariants as msg
use Rattle.mach_types.specs.declared.codes.Code.{Code}
use Rattle.mach_types.specs.declared.codes.Code.TheVariants as any

abbrev pub kern_number : KernReturn → ℕ
kern_number kern.Success = 0  -- KERN_SUCCESS
kern_number kern.NoSpace = 3  -- KERN_NO_SPACE
kern_number kern.InvalidArgument = 4  -- KERN_INVALID_ARGUMENT
kern_number kern.ResourceShortage = 6  -- KERN_RESOURCE_SHORTAGE
kern_number kern.AlreadyInSet = 11  -- KERN_ALREADY_IN_SET
kern_number kern.NotInSet = 12  -- KERN_NOT_IN_SET
kern_number kern.NameExists = 13  -- KERN_NAME_EXISTS
kern_number kern.InvalidName = 15  -- KERN_INVALID_NAME
kern_number kern.InvalidTask = 16  -- KERN_INVALID_TASK
kern_number kern.InvalidRight = 17  -- KERN_INVALID_RIGHT
kern_number kern.InvalidValue = 18  -- KERN_INVALID_VALUE
kern_number kern.UrefsOverflow = 19  -- KERN_UREFS_OVERFLOW
kern_number kern.InvalidCapability = 20  -- KERN_INVALID_CAPABILITY
kern_number kern.RightExists = 21  -- KERN_RIGHT_EXISTS

abbrev pub msg_number : MsgReturn → ℕ
msg_number msg.Success = 0  -- MACH_MSG_SUCCESS
msg_number msg.SendInvalidData = 0x10000002  -- MACH_SEND_INVALID_DATA
msg_number msg.SendInvalidDest = 0x10000003  -- MACH_SEND_INVALID_DEST
msg_number msg.SendTimedOut = 0x10000004  -- MACH_SEND_TIMED_OUT
msg_number msg.SendMsgTooSmall = 0x10000008  -- MACH_SEND_MSG_TOO_SMALL
msg_number msg.SendInvalidReply = 0x10000009  -- MACH_SEND_INVALID_REPLY
msg_number msg.SendInvalidRight = 0x1000000a  -- MACH_SEND_INVALID_RIGHT
msg_number msg.SendNoBuffer = 0x1000000d  -- MACH_SEND_NO_BUFFER
msg_number msg.SendInvalidType = 0x1000000f  -- MACH_SEND_INVALID_TYPE
msg_number msg.SendInvalidHeader = 0x10000010  -- MACH_SEND_INVALID_HEADER
msg_number msg.ReceiveInvalidName = 0x10004002  -- MACH_RCV_INVALID_NAME
msg_number msg.ReceiveTimedOut = 0x10004003  -- MACH_RCV_TIMED_OUT
msg_number msg.ReceiveTooLarge = 0x10004004  -- MACH_RCV_TOO_LARGE
msg_number msg.ReceivePortChanged = 0x10004006  -- MACH_RCV_PORT_CHANGED
msg_number msg.ReceivePortDied = 0x10004009  -- MACH_RCV_PORT_DIED
msg_number msg.ReceiveInSet = 0x1000400a  -- MACH_RCV_IN_SET
msg_number msg.ReceiveBodyErrorMemory = 0x1000480c  -- MACH_RCV_BODY_ERROR | MACH_MSG_IPC_KERNEL
msg_number msg.ReceiveBodyErrorNames = 0x1000600c  -- MACH_RCV_BODY_ERROR | MACH_MSG_IPC_SPACE

abbrev pub code_number : Code → ℕ
code_number (any.Kern code) = kern_number code
code_number (any.Message code) = msg_number code
