-- What each call of a kernel promises, whatever it answers: that of `kernel_core`'s step.
use Rattle.std.specs.Prelude.{◌≡◌}
use Rattle.mach_types.specs.declared.calls.Event.{Event}
use Rattle.mach_types.specs.declared.calls.Reply.{Reply}
use Rattle.mach_model.specs.State.{State}
use Rattle.mach_laws.specs.Queued.{unused_onces}
use Rattle.copyin_base.specs.Shows.{Shows}
use Rattle.kernel_core.specs.Answers.{Answers}
use Rattle.kernel_core.specs.Touching.{Touches}
use Rattle.kernel_core.specs.Kernels.{KernelView, TakesTurns}
use Rattle.kernel_core.specs.Wanted.{Wanted, Spares}

-- The call of this event was made, once, and answered by this reply.
pub record IsStep (old : KernelView) (event : Event) (reply : Reply) (new : KernelView) : Type 0 where
  pub answers : Answers old.tables event reply new.tables
  pub turns : TakesTurns old.tables event reply new.tables new.turns
  -- where it may tell of want of memory, and the room that it leaves
  pub wanted : Wanted old.tables event reply
  pub spares : Spares old.tables event reply new.tables
  -- which ports and sets it may have changed
  pub touches : Touches old.tables event reply new.tables new.touched
  pub unused_are : (s : State) → Shows new.tables s → new.tables.ledger.unused ≡ unused_onces s
