-- Named bits: the options of `mach_msg` (IPC Interface, `mach_msg_option_t`), and a flag of a header.
use Rattle.std.specs.Prelude.{ℕ}

abbrev pub send_msg_option : ℕ
send_msg_option = 1

abbrev pub rcv_msg_option : ℕ
rcv_msg_option = 2

abbrev pub send_timeout_option : ℕ
send_timeout_option = 0x10

abbrev pub rcv_timeout_option : ℕ
rcv_timeout_option = 0x100

abbrev pub rcv_large_option : ℕ
rcv_large_option = 0x800

-- the bit of a header for a body of items
abbrev pub complex_flag : ℕ
complex_flag = 0x80000000
