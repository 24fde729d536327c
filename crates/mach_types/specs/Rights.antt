-- What is said of rights and dispositions beside what the machine needs: bits of a name's type and numbers of dispositions (Port
-- Manipulation Interface), and which right is made (this project's own).
use Rattle.std.specs.Prelude.{◌≡◌, ℕ, ◌+◌, ◌^◌, Bool, true, false}
use Rattle.mach_types.specs.declared.rights.Disposition.{Disposition}
use Rattle.mach_types.specs.declared.rights.Disposition.TheVariants.{MoveReceive, MoveSend, MoveSendOnce, CopySend, MakeSend, MakeSendOnce}
use Rattle.mach_types.specs.declared.rights.Right.{Right}
use Rattle.mach_types.specs.declared.rights.Right.TheVariants.{Send, Receive, SendOnce, PortSet, DeadName}
use Rattle.mach_types.specs.Numbers.{right_number}
use Rattle.mach_types.specs.Tokens.{Kind, receive, send, send_once}

-- the bit of a right in the type of a name
abbrev pub right_bit : Right → ℕ
right_bit right = 2 ^ (right_number right + 16)

-- the bit for a dead-name request in the type of a name
abbrev pub request_bit : ℕ
request_bit = 0x80000000

abbrev pub disposition_number : Disposition → ℕ
disposition_number MoveReceive = 16  -- MACH_MSG_TYPE_MOVE_RECEIVE
disposition_number MoveSend = 17  -- MACH_MSG_TYPE_MOVE_SEND
disposition_number MoveSendOnce = 18  -- MACH_MSG_TYPE_MOVE_SEND_ONCE
disposition_number CopySend = 19  -- MACH_MSG_TYPE_COPY_SEND
disposition_number MakeSend = 20  -- MACH_MSG_TYPE_MAKE_SEND
disposition_number MakeSendOnce = 21  -- MACH_MSG_TYPE_MAKE_SEND_ONCE

abbrev pub right_of : Kind → Right
right_of receive = Receive
right_of send = Send
right_of send_once = SendOnce

-- the right is one of this kind
abbrev pub IsOfKind : Kind → Right → Type 0
IsOfKind kind Receive = kind ≡ receive
IsOfKind kind Send = kind ≡ send
IsOfKind kind SendOnce = kind ≡ send_once
IsOfKind kind PortSet = ⊥
IsOfKind kind DeadName = ⊥

-- whether the right that is sent is made from one that stays
abbrev pub makes_right : Disposition → Bool
makes_right MoveReceive = false
makes_right MoveSend = false
makes_right MoveSendOnce = false
makes_right CopySend = true
makes_right MakeSend = true
makes_right MakeSendOnce = true
