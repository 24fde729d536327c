-- How long the reply to an event may be.
use Rattle.std.specs.Prelude.{ℕ, ◌≤◌, length, min}
use Rattle.mach_types.specs.declared.calls.Event.{Event}
use Rattle.mach_types.specs.declared.calls.Reply.{Reply}
use Rattle.mach_types.specs.Numbers.{most_bytes}
use Rattle.copyin_base.specs.Worlds.{WorldView, space_at}
use Rattle.transfer.specs.Transfer.{names_in}

-- ---- what a reply has

abbrev pub reply_bytes : Reply → ℕ
reply_bytes (Reply.Message bytes) = length bytes
reply_bytes reply = 0

abbrev pub reply_names : Reply → ℕ
reply_names (Reply.Names names) = length names
reply_names reply = 0

abbrev pub reply_members : Reply → ℕ
reply_members (Reply.Members members) = length members
reply_members reply = 0

-- ---- what it has at most

-- A receipt has the bytes that there is room for, and a listing no more than the task's names.
abbrev pub most_told : WorldView → Event → ℕ
most_told w (Event.Names task) = names_in (space_at w task)
most_told w (Event.SetStatus task name) = names_in (space_at w task)
most_told w (Event.Receive task name room large) = min room most_bytes
most_told w (Event.ReceiveAgain task waited room large) = min room most_bytes
most_told w event = 0

-- of so many, those that are bytes, names or members: the event tells which
abbrev pub as_bytes : Event → ℕ → ℕ
as_bytes (Event.Receive task name room large) most = most
as_bytes (Event.ReceiveAgain task waited room large) most = most
as_bytes event most = 0

abbrev pub as_names : Event → ℕ → ℕ
as_names (Event.Names task) most = most
as_names event most = 0

abbrev pub as_members : Event → ℕ → ℕ
as_members (Event.SetStatus task name) most = most
as_members event most = 0

-- The reply to the event has no more than so many.
pub record IsWithin (event : Event) (most : ℕ) (reply : Reply) : Type 0 where
  pub bytes : reply_bytes reply ≤ as_bytes event most
  pub names : reply_names reply ≤ as_names event most
  pub members : reply_members reply ≤ as_members event most
