-- What it means that a send is accepted (IPC Interface, `mach_msg` with MACH_SEND_MSG).
use Rattle.std.specs.Prelude.{◌≢◌, ℕ, List, [], ◌∷◌, ◌++◌}
use Rattle.mach_types.specs.declared.calls.Event.{Event}
use Rattle.mach_types.specs.declared.calls.Reply.{Reply}
use Rattle.mach_types.specs.Messages.{Message}
use Rattle.mach_model.specs.State.{State}
use Rattle.mach_model.specs.SentMeans.{SentMeans}
use Rattle.mach_model.specs.Send.{entry}
use Rattle.mach_laws.specs.Notices.{Tells}

-- Step number now accepts the bytes from the task: through the task's names before the step they mean a message, which is then the
-- next entry of its destination's log. Behind it, and in the other logs, come notices of the step and nothing else; no entry goes.
pub record Accepts (now task : ℕ) (bytes : List ℕ) (old new : State) : Type 0 where
  pub m : Message
  pub means : SentMeans (old.naming task) bytes m
  pub appended : Tells now old (Event.Send task bytes) (Reply.Code 0) new m.destination (old.log m.destination ++ entry now m ∷ [])
  pub others : (p : ℕ) → p ≢ m.destination → Tells now old (Event.Send task bytes) (Reply.Code 0) new p (old.log p)
