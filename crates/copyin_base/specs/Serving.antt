-- What a call promises: its own part of a step, up to the death of ports. `kernel_core` ends the step, once for all calls.
use Rattle.std.specs.Prelude.{ℕ, List, [], ◌∷◌, Result, Ok, Err}
use Rattle.mach_types.specs.declared.calls.Event.{Event}
use Rattle.mach_types.specs.declared.calls.Reply.{Reply}
use Rattle.mach_types.specs.Codes.{code_number}
use Rattle.mach_types.specs.Guards.{Guards, FirstIs, NoneHolds}
use Rattle.mach_model.specs.State.{State}
use Rattle.mach_model.specs.Notices.{Owed}
use Rattle.mach_model.specs.Midway.{MidLawful}
use Rattle.mach_model.specs.Refusals.{Refuses, guards, tasks_of}
use Rattle.mach_model.specs.Acts.{Does}
use Rattle.mach_model.specs.Machine.{Judged}
use Rattle.mach_types.specs.declared.codes.Code.{Code}
use Rattle.copyin_base.specs.Changes.{NotesSenders, MakesNoSends}
use Rattle.copyin_base.specs.Posted.{with_posted, IsLeft}
use Rattle.copyin_base.specs.Worlds.{WorldView, HasTask}
use Rattle.copyin_base.specs.Shows.{Agrees, HoldersAgree, CarriersAgree, SlotsSuffice, RequestsStand, Shows}

-- ---- a step's own part

-- The tables show the state midway, where this is owed, and tell what the step's end has to do; old are the tables before the step. The notices
-- that are owed stand in the queues already.
pub record ShowsMid (now : ℕ) (old w : WorldView) (mid : State) (owed : Owed) : Type 0 where
  pub agrees : Agrees w (with_posted now mid owed)
  pub holders : HoldersAgree w
  pub carriers : CarriersAgree w
  pub slots : SlotsSuffice w
  pub requested : RequestsStand w
  pub notes : NotesSenders old w
  pub makes : MakesNoSends old w
  pub left : IsLeft w mid
  pub lawful : MidLawful mid owed

-- What was judged in the state allows the event, whose own part is done: the tables show the state midway.
pub record IsDone (now : ℕ) (old : WorldView) (s : State) (event : Event) (reply : Reply) (new : WorldView) : Type 0 where
  pub unrefused : NoneHolds (guards s event)
  pub mid : State
  pub owed : Owed
  pub does : Does now s event reply mid owed
  pub judged : Judged now s event reply mid owed does
  pub shows : ShowsMid now old new mid owed

-- The event is done in each state that the tables show before.
pub record Completes (old : WorldView) (event : Event) (reply : Reply) (new : WorldView) : Type 0 where
  pub acts : (now : ℕ) (s : State) → Shows old s → IsDone now old s event reply new

-- The event is refused in each state that the tables show before, and they show it after; only room may have been made.
pub record Declines (old : WorldView) (event : Event) (code : ℕ) (new : WorldView) : Type 0 where
  pub refuses : (s : State) → Shows old s → Refuses s event code
  pub shows : (s : State) → Shows old s → Shows new s

-- What a call promises.
abbrev pub Serves : (old : WorldView) → Event → Result Reply Code → (new : WorldView) → Type 0
Serves old event (Ok reply) new = Completes old event reply new
Serves old event (Err code) new = Declines old event (code_number code) new

abbrev pub AreTasks : WorldView → List ℕ → Type 0
AreTasks w [] = Unit {0}
AreTasks w (task ∷ []) = HasTask w task
AreTasks w (task ∷ tasks) = HasTask w task × AreTasks w tasks

-- The tasks that the event names live.
abbrev pub HasTasks : WorldView → Event → Type 0
HasTasks w event = AreTasks w (tasks_of event)

-- ---- what is found and judged in the tables, as it is in each state that they show

-- The first of these guards that holds has the code.
pub record IsRefused (w : WorldView) (of : State → Guards) (code : ℕ) : Type 0 where
  pub refused : (s : State) → Shows w s → FirstIs (of s) code

-- None of these guards holds.
pub record IsAllowed (w : WorldView) (of : State → Guards) : Type 0 where
  pub allowed : (s : State) → Shows w s → NoneHolds (of s)
