-- The first message: a task makes a port, sends a message to it by a send right made for it, and receives the message.
use Rattle.std.specs.Prelude.{ℕ, false, List, [], ◌∷◌, ◌++◌}
use Rattle.mach_types.specs.declared.calls.Event.{Event}
use Rattle.mach_types.specs.declared.calls.Reply.{Reply}
use Rattle.mach_types.specs.declared.calls.Status.{Status}
use Rattle.mach_types.specs.Grammar.{word}

-- the header alone: bits, size, remote, local, sequence number, id
abbrev pub sent_text : List ℕ
sent_text = word 20 ++ word 24 ++ word 1 ++ word 0 ++ word 0 ++ word 7

-- reversed: the destination is now the local port
abbrev pub received_text : List ℕ
received_text = word 0x1100 ++ word 24 ++ word 0 ++ word 1 ++ word 0 ++ word 7

abbrev pub status_after : Status
status_after = record { set = 0; sequence = 1; make_send = 1; limit = 5; queued = 0; send_once = 0; has_send = 0; port_destroyed = 0; no_senders = 0 }

abbrev pub first_events : List Event
first_events = Event.TaskCreate ∷ Event.Allocate 0 1 ∷ Event.Send 0 sent_text ∷ Event.Receive 0 1 24 false ∷ Event.ReceiveStatus 0 1 ∷ []

abbrev pub first_replies : List Reply
first_replies = Reply.Task 0 ∷ Reply.Name 1 ∷ Reply.Code 0 ∷ Reply.Message received_text ∷ Reply.Status status_after ∷ []
