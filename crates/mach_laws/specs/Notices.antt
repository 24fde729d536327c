-- What it means that an entry of a log is a notice of a step (IPC Interface, notifications).
use Rattle.std.specs.Prelude.{◌≡◌, ℕ, ◌+◌, List, ◌++◌, filter, length, slice_get, Some, Contains}
use Rattle.mach_types.specs.declared.calls.Event.{Event}
use Rattle.mach_types.specs.declared.calls.Reply.{Reply}
use Rattle.mach_types.specs.Messages.{Entry}
use Rattle.mach_model.specs.State.{State}
use Rattle.mach_model.specs.Notices.{Notice, notice_message}
use Rattle.mach_model.specs.Settles.{due_notices}
use Rattle.mach_model.specs.Acts.{Performed}

-- Step number now made the entry at this place as a notice, which was due.
pub record IsToldBy (now : ℕ) (old : State) (event : Event) (reply : Reply) (new : State) (port place : ℕ) (e : Entry) : Type 0 where
  pub done : Performed now old event reply new
  pub notice : Notice
  -- it is among those that were paid for in the step, or owed to a port that lives after it
  pub due : Contains (due_notices (done.settles.rights.paying ++ filter (λ x. new.live_port x.0.port) done.owed)) (port, notice)
  pub posted : Contains done.settles.notices.posted (record { port = port; entry = place; notice = notice })
  pub is_notice : e ≡ record { origin = now; message = notice_message port notice }

-- After step number now the port's log is these entries, and behind them notices of the step.
pub record Tells (now : ℕ) (old : State) (event : Event) (reply : Reply) (new : State) (port : ℕ) (entries : List Entry) : Type 0 where
  pub told : List Entry
  pub log : new.log port ≡ entries ++ told
  pub are_told : (i : ℕ) (e : Entry) → slice_get told i ≡ Some e → IsToldBy now old event reply new port (length entries + i) e
