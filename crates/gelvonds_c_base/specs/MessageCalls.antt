-- A message call between its tries: the options, and which try comes next.
use Rattle.std.specs.Prelude.{◌≡◌, ◌≢◌, ℕ, ◌⊎◌, Bool, bit_and, ◌==◌, if◌then◌else◌}
use Rattle.mach_types.specs.Bits.{send_msg_option, rcv_msg_option, rcv_large_option}
use Rattle.mach_types.specs.declared.calls.Event.{Event}
use Rattle.mach_types.specs.declared.calls.Event.TheVariants.{Receive, ReceiveAgain}
use Rattle.mach_types.specs.declared.calls.Waited.{Waited}
use Rattle.gelvonds_c_base.specs.declared.message_call.MessageCall.{MessageCall}
use Rattle.gelvonds_c_base.specs.declared.waited.WaitedFor.{WaitedFor}
use Rattle.gelvonds_c_base.specs.Answers.{IsWaited, IsNoKind}

-- ---- options

abbrev pub has : (options option : ℕ) → Bool
has options option = bit_and options option == option

-- the options without MACH_SEND_INTERRUPT and MACH_RCV_INTERRUPT, which interrupt nothing
abbrev pub told : (options : ℕ) → ℕ
told options = bit_and options 0xfffffbbf

-- no other option than the five
abbrev pub AreOptions : (options : ℕ) → Type 0
AreOptions options = bit_and options 0x913 ≡ options

-- ---- the struct: which try comes next

abbrev pub done : ℕ
done = 0  -- GELVONDS_MSG_DONE

abbrev pub to_send : ℕ
to_send = 1  -- GELVONDS_MSG_WAITS_FOR_ROOM

abbrev pub to_receive : ℕ
to_receive = 2  -- GELVONDS_MSG_SENT

abbrev pub to_receive_again : ℕ
to_receive_again = 3  -- GELVONDS_MSG_WAITS_FOR_MESSAGE

abbrev pub nowhere : WaitedFor
nowhere = record { identity = 0; kind = 0 }

-- The call with this try ahead, which waits for this; and so many bytes received, or needed.
abbrev pub ahead : MessageCall → (state : ℕ) → WaitedFor → (count : ℕ) → MessageCall
ahead call state waited count = record { state = state; task = call.task; name = call.name; options = call.options; length = count; waited = waited }

-- The first try: a send that is asked for, or else a receipt that is.
abbrev pub first_try : (options : ℕ) → ℕ
first_try options = if has options send_msg_option then to_send else if has options rcv_msg_option then to_receive else done

abbrev pub opened : (task name options : ℕ) → MessageCall
opened task name options = record { state = first_try options; task = task; name = name; options = options; length = 0; waited = nowhere }

-- The first receives from the name, a later one from what the one before named.
abbrev pub IsReceipt : MessageCall → (room : ℕ) → Event → Type 0
IsReceipt call room event =
    (call.state ≡ to_receive) × (event ≡ Receive call.task call.name room (has call.options rcv_large_option))
    ⊎ ((waited : Waited) × (call.state ≡ to_receive_again) × IsWaited call.waited.kind call.waited.identity waited
    × (event ≡ ReceiveAgain call.task waited room (has call.options rcv_large_option)))

-- A struct without a try to come: no call was begun, or it has ended.
abbrev pub IsNoCall : MessageCall → Type 0
IsNoCall call = (call.state ≢ to_send) × (call.state ≢ to_receive) × ((call.state ≡ to_receive_again) → IsNoKind call.waited.kind)
