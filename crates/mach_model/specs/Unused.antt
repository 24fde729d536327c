-- The send-once rights for a port: those that its queued messages go by, and those that none does (this project's own).
use Rattle.std.specs.Prelude.{ℕ, ◌-◌, Bool}
use Rattle.mach_types.specs.Tokens.{send_once, count, is_of, same_kind}
use Rattle.mach_types.specs.Messages.{Entry}
use Rattle.mach_model.specs.State.{State, queue}
use Rattle.mach_model.specs.Lawful.{tally}

-- whether it came by a send-once right
abbrev pub came_by_once : Entry → Bool
came_by_once e = same_kind send_once e.message.kind

-- how many of the port's queued messages did
abbrev pub onces_queued : State → (port : ℕ) → ℕ
onces_queued s p = tally came_by_once (queue s p)

-- how many send-once rights for the port no queued message goes by: a message or a notice may still come by each
abbrev pub unused_at : State → (port : ℕ) → ℕ
unused_at s p = count (is_of send_once p) s.ledger - onces_queued s p
