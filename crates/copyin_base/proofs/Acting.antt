-- How a call keeps its promise: refused by what was judged, or done up to the end of the step.
use Rattle.std.proofs.Common.{◌≡◌, ℕ, List, [], ◌∷◌, refl, sym, subst, inl, inr}
use Rattle.mach_types.specs.declared.calls.Event.{Event}
use Rattle.mach_types.specs.declared.calls.Reply.{Reply}
use Rattle.mach_types.specs.Guards.{NoneHolds}
use Rattle.mach_model.specs.Death.{IsOrphan}
use Rattle.mach_model.specs.State.{State}
use Rattle.mach_model.specs.Notices.{Owed}
use Rattle.mach_model.specs.Refusals.{Refuses, RefusesLater, IsOneDead, guards, call_guards, tasks_of}
use Rattle.mach_model.specs.Acts.{Does}
use Rattle.mach_model.specs.Machine.{Judged}
use Rattle.mach_model.proofs.Midway.{LosesNone}
use Rattle.mach_model.proofs.StepLawful.{Does-mid}
use Rattle.mach_model.proofs.StepReceives.{Does-receives}
use Rattle.copyin_base.specs.Changes.{NotesSenders, MakesNoSends}
use Rattle.copyin_base.specs.Posted.{with_posted, IsLeft}
use Rattle.copyin_base.specs.Worlds.{WorldView, NoneLost}
use Rattle.copyin_base.specs.Shows.{Agrees, HoldersAgree, CarriersAgree, SlotsSuffice, RequestsStand, Shows}
use Rattle.copyin_base.specs.Serving.{Completes, Declines, AreTasks, HasTasks, IsRefused, IsAllowed}
use Rattle.copyin_base.proofs.Listed.{none_listed}
use Rattle.copyin_base.proofs.SendersNoted.{senders_same}
use Rattle.copyin_base.proofs.Told.{among_tasks}

-- ---- the tasks that an event names

all_live : (w : WorldView) (s : State) → Agrees w s → (tasks : List ℕ) → AreTasks w tasks → ¬ (IsOneDead s tasks)
all_live w s a [] h dead = dead
all_live w s a (task ∷ []) h dead = among_tasks w s a task h dead
all_live w s a (task ∷ other ∷ tasks) h (inl dead) = among_tasks w s a task h.0 dead
all_live w s a (task ∷ other ∷ tasks) h (inr dead) = all_live w s a (other ∷ tasks) h.1 dead

pub tasks_live : (w : WorldView) (s : State) → Agrees w s → (event : Event) → HasTasks w event → ¬ (IsOneDead s (tasks_of event))
tasks_live w s a event h = all_live w s a (tasks_of event) h

-- ---- refused

module _ (w : WorldView) (event : Event) where
  pub declined : (code : ℕ) → ((s : State) → Shows w s → Refuses s event code) → Declines w event code w
  declined code why = record { refuses = why; shows = λ s sh. sh }

  -- a guard of the call holds
  pub refused : HasTasks w event → (code : ℕ) → IsRefused w (λ s. call_guards s event) code → Declines w event code w
  refused tasks code r = declined code (λ s sh. inl (inr (tasks_live w s sh.agrees event tasks, r.refused s sh)))

  -- none does, and it is refused by what is judged later
  pub refused_later : HasTasks w event → (code : ℕ) → IsAllowed w (λ s. call_guards s event) → ((s : State) → Shows w s → RefusesLater s event code) → Declines w event code w
  refused_later tasks code good later =
      declined code (λ s sh. inr ((tasks_live w s sh.agrees event tasks, good.allowed s sh), later s sh))

-- ---- done

-- In each state that the tables show the event does this; the tables agree with the state midway, where what is owed was posted.
pub record Leaves-so (old : WorldView) (event : Event) (reply : Reply) (new : WorldView) (now : ℕ) (s : State) : Type 0 where
  pub mid : State
  pub owed : Owed
  pub does : Does now s event reply mid owed
  pub judged : Judged now s event reply mid owed does
  pub agrees : Agrees new (with_posted now mid owed)
  pub holders : HoldersAgree new
  pub carriers : CarriersAgree new
  pub slots : SlotsSuffice new
  pub requested : RequestsStand new
  pub notes : NotesSenders old new
  pub makes : MakesNoSends old new
  pub left : IsLeft new mid

pub done_leaving : (old : WorldView) (event : Event) (reply : Reply) (new : WorldView) → HasTasks old event → IsAllowed old (λ s. call_guards s event) →
    ((now : ℕ) (s : State) → Shows old s → Leaves-so old event reply new now s) → Completes old event reply new
done_leaving old event reply new tasks good does = record {
  acts = λ now s sh.
      let unrefused : NoneHolds (guards s event) = (tasks_live old s sh.agrees event tasks, good.allowed s sh) in
      let d = does now s sh in
      record {
        unrefused = unrefused;
        mid = d.mid;
        owed = d.owed;
        does = d.does;
        judged = d.judged;
        shows = record {
          agrees = d.agrees;
          holders = d.holders;
          carriers = d.carriers;
          slots = d.slots;
          requested = d.requested;
          notes = d.notes;
          makes = d.makes;
          left = d.left;
          lawful = Does-mid now s event reply d.mid d.owed unrefused d.does d.judged sh.lawful;
        };
      };
}

-- The event does this, loses no right and owes nothing.
pub record Does-so (old : WorldView) (event : Event) (reply : Reply) (new : WorldView) (now : ℕ) (s : State) : Type 0 where
  pub mid : State
  pub owed : Owed
  pub does : Does now s event reply mid owed
  pub judged : Judged now s event reply mid owed does
  pub loses_none : LosesNone s event reply
  pub none_owed : owed ≡ []
  pub agrees : Agrees new mid
  pub holders : HoldersAgree new
  pub carriers : CarriersAgree new
  pub slots : SlotsSuffice new
  pub requested : RequestsStand new
  pub notes : NotesSenders old new
  pub none_lost : NoneLost new

-- where no port was lost
pub makes_none : (old new : WorldView) → NoneLost new → MakesNoSends old new
makes_none old new none p c = absurd (none_listed new.ports.lost none.lost p c)

-- where no port is an orphan
pub none_left : (w : WorldView) (mid : State) → NoneLost w → ((p : ℕ) → ¬ (IsOrphan mid p)) → IsLeft w mid
none_left w mid none unlost = record {
  doomed = none.doomed;
  destroyed = none.destroyed;
  lost = λ p c. absurd (none_listed w.ports.lost none.lost p c);
  orphans = λ p o. absurd (unlost p o);
}

pub done : (old : WorldView) (event : Event) (reply : Reply) (new : WorldView) → HasTasks old event → IsAllowed old (λ s. call_guards s event) →
    ((now : ℕ) (s : State) → Shows old s → Does-so old event reply new now s) → Completes old event reply new
done old event reply new tasks good does = done_leaving old event reply new tasks good (λ now s sh.
    let unrefused : NoneHolds (guards s event) = (tasks_live old s sh.agrees event tasks, good.allowed s sh) in
    let d = does now s sh in
    record {
      mid = d.mid;
      owed = d.owed;
      does = d.does;
      judged = d.judged;
      agrees = subst (λ (o : Owed). Agrees new (with_posted now d.mid o)) (sym d.none_owed) d.agrees;
      holders = d.holders;
      carriers = d.carriers;
      slots = d.slots;
      requested = d.requested;
      notes = d.notes;
      makes = makes_none old new d.none_lost;
      left = none_left new d.mid d.none_lost (Does-receives now s event reply d.mid d.owed d.loses_none unrefused d.does sh.lawful);
    })

-- a look: the tables are as they were, and what is done leaves the state
pub looked : (w : WorldView) (event : Event) (reply : Reply) (now : ℕ) (s : State) → Shows w s → LosesNone s event reply →
    (does : Does now s event reply s []) → Judged now s event reply s [] does → Does-so w event reply w now s
looked w event reply now s sh none does judged = record {
  mid = s;
  owed = [];
  does = does;
  judged = judged;
  loses_none = none;
  none_owed = refl;
  agrees = sh.agrees;
  holders = sh.holders;
  carriers = sh.carriers;
  slots = sh.slots;
  requested = sh.requested;
  notes = senders_same w sh.idle.noted;
  none_lost = sh.idle.none_lost;
}
