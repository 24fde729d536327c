use Rattle.std.specs.Prelude.{◌≤◌, take}
use Rattle.mach_model.specs.State.{State}
use Rattle.mach_laws.specs.Queued.{unused_onces}
use Rattle.mach_laws.proofs.Dying.{Followed}
use Rattle.copyin_base.specs.Shows.{Shows}
use Rattle.kernel_core.proofs.runs.run_with.Given as goal

-- the replies so far are those of a run over the events so far, and slots suffice
abbrev pub invariant-loop-event : goal.invariant-loop-event
invariant-loop-event l = (s : State) × Followed l.fn.profile (take l.event-index l.event-items) l.replies.items s l.kernel.tables.ports.spare × Shows l.kernel.tables s × (unused_onces s ≤ l.kernel.tables.ports.spare)
