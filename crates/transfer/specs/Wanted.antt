-- Where handing a right on may want memory.
use Rattle.std.specs.Prelude.{◌≡◌, ℕ, ◌⊎◌, None}
use Rattle.mach_types.specs.declared.rights.Disposition.TheVariants.{MakeSendOnce}
use Rattle.copyin_base.specs.Wanted.{LacksRoom, LacksPlace, LacksSlots}
use Rattle.copyin_base.specs.Worlds.{WorldView}
use Rattle.transfer.specs.declared.judge.Handed.{Handed}
use Rattle.transfer.specs.declared.judge.TaskName.{TaskName}
use Rattle.transfer.specs.Transfer.{MayInsert, MayExtract, WantsName, going_from, left_at}

-- A right may be inserted so, but for a name for which the task has no place, or, where it is a send-once right that is made, for a slot.
pub record WantsToInsert (w : WorldView) (to from : TaskName) (number : ℕ) : Type 0 where
  pub handed : Handed
  pub may : MayInsert w to from number handed
  pub lacks : (left_at w to.task (going_from from handed may.left) to.name ≡ None) × LacksPlace w to.task to.name
      ⊎ (handed.given ≡ MakeSendOnce) × LacksSlots w 1

-- A right may be extracted so, but for a name that the task has no room for, or, where it is a send-once right that is made, for a slot.
pub record WantsToExtract (w : WorldView) (from : TaskName) (number to : ℕ) : Type 0 where
  pub handed : Handed
  pub may : MayExtract w from number to handed
  pub lacks : WantsName w to (going_from from handed may.left) × LacksRoom w to ⊎ (handed.given ≡ MakeSendOnce) × LacksSlots w 1
