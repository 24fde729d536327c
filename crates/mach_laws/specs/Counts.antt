-- How many messages a step accepts, takes and destroys, and how many slots a state needs (this project's own).
use Rattle.std.specs.Prelude.{ℕ, Bool, false, if◌then◌else◌, ◌==◌, ◌&&◌, not}
use Rattle.mach_types.specs.declared.calls.Event.{Event}
use Rattle.mach_types.specs.declared.calls.Reply.{Reply}
use Rattle.mach_types.specs.Tokens.{send_once, Place, in_task, in_message, in_request, Token, count, same_kind}
use Rattle.mach_model.specs.State.{State, queue}
use Rattle.mach_model.specs.Lawful.{tally}
use Rattle.mach_model.specs.Unused.{came_by_once}
use Rattle.mach_laws.specs.Queued.{sum_below, waiting}

-- how many a call with this answer accepts: a send that is answered with 0 accepts one
abbrev pub accepts : Event → Reply → ℕ
accepts (Event.Send task bytes) (Reply.Code code) = if code == 0 then 1 else 0
accepts event reply = 0

-- How many it takes from a queue: a receive, or a later try, takes one that it gives, and one that it destroys as too long, where the
-- receiver didn't ask that it stay.
abbrev pub takes_from : Event → Reply → ℕ
takes_from (Event.Receive task name room large) (Reply.Message bytes) = 1
takes_from (Event.Receive task name room large) (Reply.TooLarge n) = if large then 0 else 1
takes_from (Event.ReceiveAgain task waited room large) (Reply.Message bytes) = 1
takes_from (Event.ReceiveAgain task waited room large) (Reply.TooLarge n) = if large then 0 else 1
takes_from event reply = 0

-- how many lay at the ports that a step's end leaves dead
abbrev pub destroyed : (mid new : State) → ℕ
destroyed mid new = sum_below (λ p. if new.live_port p then 0 else waiting mid p) mid.ports_made

-- The right lay in a message, and its port or the message's is dead.
abbrev pub is_lost_at : State → (port : ℕ) → Place → Bool
is_lost_at new p (in_task task) = false
is_lost_at new p (in_message q k) = not (new.live_port q && new.live_port p)
is_lost_at new p (in_request request) = false

abbrev pub is_lost : State → Token → Bool
is_lost new x = is_lost_at new x.port x.place

-- how many send-once rights there are, for all ports and wherever they lie
abbrev pub once_rights : State → ℕ
once_rights s = count (λ x. same_kind send_once x.kind) s.ledger

-- how many of the messages that lie at a port that lives came by a send right, and how many at all ports
abbrev pub by_send_at : State → (port : ℕ) → ℕ
by_send_at s p = if s.live_port p then tally (λ e. not (came_by_once e)) (queue s p) else 0

abbrev pub queued_by_send : State → ℕ
queued_by_send s = sum_below (by_send_at s) s.ports_made

-- The calls that may need a slot more: those that may make a send-once right, or queue a message that comes by a send right.
abbrev pub MayNeedSlots : Event → Type 0
MayNeedSlots (Event.InsertRight task name from poly number) = Unit {0}
MayNeedSlots (Event.ExtractRight task name number to) = Unit {0}
MayNeedSlots (Event.RequestNotification task name variant sync notify number) = Unit {0}
MayNeedSlots (Event.Send task bytes) = Unit {0}
MayNeedSlots event = ⊥
