-- A port dies with a message in its queue that carries the last send right of another: whoever asked is told that this one has no
-- senders.
use Rattle.std.specs.Prelude.{ℕ, false, List, [], ◌∷◌, ◌++◌}
use Rattle.mach_types.specs.declared.calls.Event.{Event}
use Rattle.mach_types.specs.declared.calls.Reply.{Reply}
use Rattle.mach_types.specs.declared.calls.Waited.{Waited}
use Rattle.mach_types.specs.Grammar.{word}

-- destination by COPY_SEND of name 2, reply by MAKE_SEND of name 3
abbrev pub lending_text : List ℕ
lending_text = word 0x1413 ++ word 24 ++ word 2 ++ word 3 ++ word 0 ++ word 7

-- no-senders, with the make-send count
abbrev pub last_sender_text : List ℕ
last_sender_text = word 0x1200 ++ word 32 ++ word 0 ++ word 1 ++ word 0 ++ word 70 ++ word 0x10012002 ++ word 1

-- No notice is there while the right lies in the queue.
abbrev pub senderless_events : List Event
senderless_events =
    Event.TaskCreate ∷ Event.TaskCreate ∷ Event.Allocate 0 1 ∷ Event.Allocate 1 1 ∷ Event.InsertRight 0 2 1 1 20
    ∷ Event.Allocate 0 1 ∷ Event.Send 0 lending_text ∷ Event.RequestNotification 0 3 70 0 1 21
    ∷ Event.Receive 0 1 32 false ∷ Event.Destroy 1 1 ∷ Event.Receive 0 1 32 false ∷ []

abbrev pub senderless_replies : List Reply
senderless_replies =
    Reply.Task 0 ∷ Reply.Task 1 ∷ Reply.Name 1 ∷ Reply.Name 1 ∷ Reply.Code 0
    ∷ Reply.Name 3 ∷ Reply.Code 0 ∷ Reply.Previous 0
    ∷ Reply.Empty (Waited.Port 0) ∷ Reply.Code 0 ∷ Reply.Message last_sender_text ∷ []
