-- The numbers of the interface, each with its name in C (Port Manipulation Interface and IPC Interface): rights, dispositions, kinds;
-- and limits.
use Rattle.std.specs.Prelude.{ℕ, ◌^◌, Option, Some, None, if◌then◌else◌, ◌==◌}
use Rattle.mach_types.specs.declared.rights.Disposition.{Disposition}
use Rattle.mach_types.specs.declared.rights.Disposition.TheVariants.{MoveReceive, MoveSend, MoveSendOnce, CopySend, MakeSend, MakeSendOnce}
use Rattle.mach_types.specs.declared.rights.Right.{Right}
use Rattle.mach_types.specs.declared.rights.Right.TheVariants.{Send, Receive, SendOnce, PortSet, DeadName}
use Rattle.mach_types.specs.Tokens.{Kind, receive, send, send_once}

-- ---- rights and dispositions

abbrev pub right_number : Right → ℕ
right_number Send = 0  -- MACH_PORT_RIGHT_SEND
right_number Receive = 1  -- MACH_PORT_RIGHT_RECEIVE
right_number SendOnce = 2  -- MACH_PORT_RIGHT_SEND_ONCE
right_number PortSet = 3  -- MACH_PORT_RIGHT_PORT_SET
right_number DeadName = 4  -- MACH_PORT_RIGHT_DEAD_NAME

abbrev pub disposition : ℕ → Option Disposition
disposition n =
    if n == 16 then Some MoveReceive else
    if n == 17 then Some MoveSend else
    if n == 18 then Some MoveSendOnce else
    if n == 19 then Some CopySend else
    if n == 20 then Some MakeSend else
    if n == 21 then Some MakeSendOnce else None

-- the kind of right that is sent
abbrev pub kind_sent : Disposition → Kind
kind_sent MoveReceive = receive
kind_sent MoveSend = send
kind_sent MoveSendOnce = send_once
kind_sent CopySend = send
kind_sent MakeSend = send
kind_sent MakeSendOnce = send_once

-- the number that stands for a kind in a received message
abbrev pub kind_number : Kind → ℕ
kind_number receive = 16  -- MACH_MSG_TYPE_PORT_RECEIVE
kind_number send = 17  -- MACH_MSG_TYPE_PORT_SEND
kind_number send_once = 18  -- MACH_MSG_TYPE_PORT_SEND_ONCE

-- ---- names

-- the words that are no names: MACH_PORT_NULL and MACH_PORT_DEAD
abbrev pub null_word : ℕ
null_word = 0

abbrev pub dead_word : ℕ
dead_word = 0xffffffff

-- ---- limits

abbrev pub most_tasks : ℕ
most_tasks = 65536

-- names of one task
abbrev pub most_names : ℕ
most_names = 65535

-- user references under one name
abbrev pub most_references : ℕ
most_references = 65535

-- rights of a kernel
abbrev pub most_rights : ℕ
most_rights = 4294967295

-- identities of ports, and of sets
abbrev pub most_identities : ℕ
most_identities = 2 ^ 64

abbrev pub greatest_limit : ℕ
greatest_limit = 16

abbrev pub first_limit : ℕ
first_limit = 5

-- bytes of a message
abbrev pub most_bytes : ℕ
most_bytes = 65536
