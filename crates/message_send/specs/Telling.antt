-- What is told of a send.
use Rattle.std.specs.Prelude.{◌≡◌, ℕ, List, ◌⊎◌}
use Rattle.copyin_base.specs.Worlds.{WorldView}
use Rattle.copyin.specs.Planned.{PlanView}
use Rattle.kernel_change.specs.declared.change.Change.{Change}
use Rattle.kernel_change.specs.declared.change.Change.TheVariants.{Queue}
use Rattle.kernel_change.specs.Changing.{receives_of, by_taking}
use Rattle.message_send.specs.Send.{MovesNoReceive, PlansText}

-- Of the message of a plan its port is told, and each port whose receive right goes along.
abbrev pub TellsAlong : WorldView → PlanView → (told : Change) → Type 0
TellsAlong w plan told = told ≡ by_taking w plan.port (receives_of plan.message.rights)

-- Where no receive right goes along, its port alone is told.
abbrev pub TellsPlan : WorldView → PlanView → (told : Change) → Type 0
TellsPlan w plan told = MovesNoReceive plan.words.body × (told ≡ Queue plan.port) ⊎ TellsAlong w plan told

-- The same of the bytes that the plan sends.
pub record TellsSend (w : WorldView) (task : ℕ) (bytes : List ℕ) (told : Change) : Type 0 where
  pub plan : PlanView
  pub planned : PlansText w task bytes plan
  pub tells : TellsPlan w plan told
