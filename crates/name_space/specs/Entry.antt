-- What stands under a name.
use Rattle.std.specs.Prelude.{ℕ, ◌+◌, Bool, true, false, Option, Some, None, if◌then◌else◌, min}
use Rattle.mach_types.specs.Numbers.{most_references}
use Rattle.mach_types.specs.Rights.{right_bit}
use Rattle.mach_types.specs.declared.rights.Right.{Right}
use Rattle.mach_types.specs.declared.rights.Right.TheVariants as right
use Rattle.name_space.specs.declared.Entry.{Entry}
use Rattle.name_space.specs.declared.Entry.TheVariants.{Receive, Send, ReceiveAndSend, SendOnce, DeadName, Set}

-- the port for which the entry is a receive right, send rights or both
abbrev pub port_named : Entry → Option ℕ
port_named (Receive port) = Some port
port_named (Send port references) = Some port
port_named (ReceiveAndSend port references) = Some port
port_named (SendOnce port) = None
port_named (DeadName references) = None
port_named (Set set) = None

-- the port whose receive right the entry has
abbrev pub receive_named : Entry → Option ℕ
receive_named (Receive port) = Some port
receive_named (ReceiveAndSend port references) = Some port
receive_named e = None

-- the port for which the entry has any right
abbrev pub port_of : Entry → Option ℕ
port_of (Receive port) = Some port
port_of (Send port references) = Some port
port_of (ReceiveAndSend port references) = Some port
port_of (SendOnce port) = Some port
port_of (DeadName references) = None
port_of (Set set) = None

-- the set that the entry is
abbrev pub set_named : Entry → Option ℕ
set_named (Set set) = Some set
set_named e = None

-- whether the entry has a receive right
abbrev pub has_receive : Entry → Bool
has_receive (Receive port) = true
has_receive (Send port references) = false
has_receive (ReceiveAndSend port references) = true
has_receive (SendOnce port) = false
has_receive (DeadName references) = false
has_receive (Set set) = false

-- how many references to a send right the entry has
abbrev pub send_references : Entry → ℕ
send_references (Receive port) = 0
send_references (Send port references) = references
send_references (ReceiveAndSend port references) = references
send_references (SendOnce port) = 0
send_references (DeadName references) = 0
send_references (Set set) = 0

-- how many references to the right the entry has
abbrev pub references_in : Right → Entry → ℕ
references_in right.Send e = send_references e
references_in right.Receive e = if has_receive e then 1 else 0
references_in right.SendOnce (SendOnce port) = 1
references_in right.PortSet (Set set) = 1
references_in right.DeadName (DeadName references) = references
references_in r e = 0

-- the entry with one send reference more, of which there are so many at the most; it is for a port
abbrev pub with_send : Entry → Entry
with_send (Receive port) = ReceiveAndSend port 1
with_send (Send port references) = Send port (min (references + 1) most_references)
with_send (ReceiveAndSend port references) = ReceiveAndSend port (min (references + 1) most_references)
with_send e = e

-- the bits of the rights that the entry has
abbrev pub type_in : Entry → ℕ
type_in (Receive port) = right_bit right.Receive
type_in (Send port references) = right_bit right.Send
type_in (ReceiveAndSend port references) = right_bit right.Send + right_bit right.Receive
type_in (SendOnce port) = right_bit right.SendOnce
type_in (DeadName references) = right_bit right.DeadName
type_in (Set set) = right_bit right.PortSet
