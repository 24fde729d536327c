-- Rights of one kind gather under one name: each of two tasks inserts a send right for its port into the other; then the first sends
-- the second two more send rights for its port in one message. They come out under the name that is there, which has three references.
use Rattle.std.specs.Prelude.{ℕ, false, List, [], ◌∷◌, ◌++◌}
use Rattle.mach_types.specs.declared.calls.Event.{Event}
use Rattle.mach_types.specs.declared.calls.Reply.{Reply}
use Rattle.mach_types.specs.declared.calls.Status.{Status}
use Rattle.mach_types.specs.Grammar.{word}

-- destination by COPY_SEND of name 2; two words by MAKE_SEND of name 1
abbrev pub sharing_text : List ℕ
sharing_text = word 0x80000013 ++ word 36 ++ word 2 ++ word 0 ++ word 0 ++ word 9 ++ word 0x10022014 ++ word 1 ++ word 1

abbrev pub shared_text : List ℕ
shared_text = word 0x80001100 ++ word 36 ++ word 0 ++ word 1 ++ word 0 ++ word 9 ++ word 0x10022011 ++ word 2 ++ word 2

abbrev pub shared_status : Status
shared_status = record { set = 0; sequence = 0; make_send = 3; limit = 5; queued = 0; send_once = 0; has_send = 1; port_destroyed = 0; no_senders = 0 }

abbrev pub gathering_events : List Event
gathering_events =
    Event.TaskCreate ∷ Event.TaskCreate ∷ Event.Allocate 0 1 ∷ Event.Allocate 1 1
    ∷ Event.InsertRight 1 2 0 1 20 ∷ Event.InsertRight 0 2 1 1 20
    ∷ Event.Send 0 sharing_text ∷ Event.Receive 1 1 36 false
    ∷ Event.GetRefs 1 2 0 ∷ Event.ReceiveStatus 0 1 ∷ []

abbrev pub gathering_replies : List Reply
gathering_replies =
    Reply.Task 0 ∷ Reply.Task 1 ∷ Reply.Name 1 ∷ Reply.Name 1
    ∷ Reply.Code 0 ∷ Reply.Code 0
    ∷ Reply.Code 0 ∷ Reply.Message shared_text
    ∷ Reply.Refs 3 ∷ Reply.Status shared_status ∷ []
