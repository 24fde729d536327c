-- Calls that are refused for want of memory, and the end of a task.
use Rattle.std.proofs.Common.{◌≡◌, Result, Ok, Err, inr, arith, ℕ, Bool, false, true, refl, sym, ap, ◌∙◌, [], ◌∷◌, inl, ◌≤◌, List}
use Rattle.std.specs.Result.{IsErr, IsErrAnd}
use Rattle.std.specs.Prelude.{◌==◌, ◌||◌, IfErr, map as list_map}
use Rattle.mach_types.specs.declared.calls.Event.{Event}
use Rattle.mach_types.specs.declared.calls.Reply.{Reply}
use Rattle.mach_types.specs.declared.codes.KernReturn.{KernReturn}
use Rattle.mach_types.specs.declared.codes.KernReturn.TheVariants.{ResourceShortage}
use Rattle.mach_types.specs.Codes.{kern_number, code_number}
use Rattle.mach_types.specs.declared.calls.Waited.{Waited}
use Rattle.mach_types.specs.Guards.{Guards, FirstIs}
use Rattle.mach_types.specs.Tokens.{send, Token, count, is_of}
use Rattle.mach_model.specs.State.{State}
use Rattle.mach_model.specs.Refusals.{RefusesLater, call_guards, Refuses, guards}
use Rattle.mach_model.specs.Notices.{right_unused}
use Rattle.rights.specs.Ledger.{counts_of}
use Rattle.mach_types.specs.declared.codes.Code.{Code}
use Rattle.mach_types.specs.declared.codes.Code.TheVariants.{Kern}
use Rattle.copyin_base.specs.Serving.{Serves, HasTasks, IsAllowed, IsRefused, Completes}
use Rattle.copyin_base.specs.Changes.{SameButRoom}
use Rattle.copyin_base.specs.Worlds.{WorldView, HasTask}
use Rattle.copyin_base.proofs.Acting.{tasks_live, done_leaving}
use Rattle.copyin_base.proofs.Roomier.{room_shows}
use Rattle.copyin_base.specs.Stands.{Stands}
use Rattle.copyin_base.specs.Posted.{with_notice, with_posted}
use Rattle.copyin_base.specs.Shows.{Shows}
use Rattle.notifications.specs.Ending.{HasEnded, Ends}
use Rattle.kernel_core_base.specs.Wanted.{MayLackMemory}

-- ---- A call that is refused for want of memory: only room was made.

module _ (w v : WorldView) (event : Event) (tasks : HasTasks w event) (good : IsAllowed w (λ s. call_guards s event)) (later : (s : State) → RefusesLater s event (kern_number ResourceShortage)) where
  pub no_memory : (result : Result Reply Code) (code : KernReturn) → IsErr result × IsErrAnd result (λ given. given ≡ Kern code) → (code ≡ ResourceShortage) × SameButRoom w v → Serves w event result v
  no_memory (Ok reply) code is short = absurd is.1
  no_memory (Err given) code is short = rw (is.1, short.0) record {
    refuses = λ s sh. inr ((tasks_live w s sh.agrees event tasks, good.allowed s sh), later s);
    shows = λ s sh. room_shows w v s short.1 sh;
  }

-- ---- No guard of any call has the code for want of memory, so that only what is refused later may have it.

either : (a b : Bool) → a || b ≡ false → a ≡ true → ⊥
either true b none is = cc
either false b none is = cc

other : (a b : Bool) → a || b ≡ false → b ≡ false
other true b none = absurd (cc)
other false b none = none

eqb_same : (n m : ℕ) → n ≡ m → (n == m) ≡ true
eqb_same n m is = grind arith

-- whether a guard has the code
abbrev has_code : Guards → ℕ → Bool
has_code [] code = false
has_code (g ∷ gs) code = (code == g.1) || has_code gs code

not_first : (gs : Guards) (code : ℕ) → has_code gs code ≡ false → FirstIs gs code → ⊥
not_first [] code none f = f
not_first (g ∷ gs) code none (inl h) = either (code == g.1) (has_code gs code) none (eqb_same code g.1 h.1)
not_first (g ∷ gs) code none (inr h) = not_first gs code (other (code == g.1) (has_code gs code) none) h.1

not_guarded : (s : State) (event : Event) → has_code (call_guards s event) (kern_number ResourceShortage) ≡ false
not_guarded s Event.TaskCreate = refl
not_guarded s (Event.TaskTerminate task) = refl
not_guarded s (Event.Allocate task right) = refl
not_guarded s (Event.AllocateName task right name) = refl
not_guarded s (Event.Deallocate task name) = refl
not_guarded s (Event.Destroy task name) = refl
not_guarded s (Event.ModRefs task name right delta) = refl
not_guarded s (Event.GetRefs task name right) = refl
not_guarded s (Event.NameType task name) = refl
not_guarded s (Event.Names task) = refl
not_guarded s (Event.Rename task o n) = refl
not_guarded s (Event.ReceiveStatus task name) = refl
not_guarded s (Event.SetQlimit task name n) = refl
not_guarded s (Event.SetMscount task name n) = refl
not_guarded s (Event.SetSeqno task name n) = refl
not_guarded s (Event.SetStatus task name) = refl
not_guarded s (Event.MoveMember task member after) = refl
not_guarded s (Event.InsertMember task member set) = refl
not_guarded s (Event.ExtractMember task member set) = refl
not_guarded s (Event.InsertRight task name from poly number) = refl
not_guarded s (Event.ExtractRight task name number to) = refl
not_guarded s (Event.RequestNotification task name variant sync notify number) = refl
not_guarded s (Event.Send task bytes) = refl
not_guarded s (Event.Receive task name room large) = refl
not_guarded s (Event.ReceiveAgain task (Waited.Port p) room large) = refl
not_guarded s (Event.ReceiveAgain task (Waited.Set set) room large) = refl

-- What is refused for want of memory is so by what is judged after the guards.
pub shortage_later : (s : State) (event : Event) → Refuses s event (kern_number ResourceShortage) → RefusesLater s event (kern_number ResourceShortage)
shortage_later s event (inl f) = absurd (not_first (guards s event) (kern_number ResourceShortage) (not_guarded s event) f)
shortage_later s event (inr later) = later.1

-- What the tables tell of a refusal by a guard: it isn't for want of memory.
pub not_short : (w : WorldView) (event : Event) → Stands w → (code : KernReturn) → IsRefused w (λ s. call_guards s event) (kern_number code) → kern_number code ≡ kern_number ResourceShortage → ⊥
not_short w event stands code r is = grind (arith, not_first, not_guarded)

pub judged_wants : (w : WorldView) (event : Event) (r : Result Reply Code) (code : KernReturn) → IsErrAnd r (λ given. given ≡ Kern code) → Stands w → IsRefused w (λ s. call_guards s event) (kern_number code) →
    IfErr r (λ given. code_number given ≡ kern_number ResourceShortage → MayLackMemory w event)
judged_wants w event (Ok reply) code is stands why = tt
judged_wants w event (Err given) code is stands why = λ e. absurd (not_short w event stands code why (sym (ap code_number is) ∙ e))

-- ---- calls that take no memory

abbrev pub TakesNoMemory : Event → Type 0
TakesNoMemory (Event.TaskTerminate task) = Unit {0}
TakesNoMemory (Event.Deallocate task name) = Unit {0}
TakesNoMemory (Event.Destroy task name) = Unit {0}
TakesNoMemory (Event.ModRefs task name right delta) = Unit {0}
TakesNoMemory (Event.GetRefs task name right) = Unit {0}
TakesNoMemory (Event.NameType task name) = Unit {0}
TakesNoMemory (Event.ReceiveStatus task name) = Unit {0}
TakesNoMemory (Event.SetQlimit task name n) = Unit {0}
TakesNoMemory (Event.SetMscount task name n) = Unit {0}
TakesNoMemory (Event.SetSeqno task name n) = Unit {0}
TakesNoMemory (Event.MoveMember task member after) = Unit {0}
TakesNoMemory (Event.ExtractMember task member set) = Unit {0}
TakesNoMemory event = ⊥

none_later : (s : State) (event : Event) → TakesNoMemory event → (code : ℕ) → RefusesLater s event code → ⊥
none_later s (Event.Deallocate task name) none code later = cc
none_later s (Event.Destroy task name) none code later = cc
none_later s (Event.ModRefs task name right delta) none code later = cc
none_later s (Event.GetRefs task name right) none code later = cc
none_later s (Event.NameType task name) none code later = cc
none_later s (Event.ReceiveStatus task name) none code later = cc
none_later s (Event.SetQlimit task name n) none code later = cc
none_later s (Event.SetMscount task name n) none code later = cc
none_later s (Event.SetSeqno task name n) none code later = cc
none_later s (Event.MoveMember task member after) none code later = cc
none_later s Event.TaskCreate none code later = none
none_later s (Event.TaskTerminate task) none code later = cc
none_later s (Event.Allocate task right) none code later = none
none_later s (Event.AllocateName task right name) none code later = none
none_later s (Event.Names task) none code later = none
none_later s (Event.Rename task o n) none code later = none
none_later s (Event.SetStatus task name) none code later = none
none_later s (Event.InsertMember task member set) none code later = none
none_later s (Event.ExtractMember task member set) none code later = cc
none_later s (Event.InsertRight task name from poly number) none code later = none
none_later s (Event.ExtractRight task name number to) none code later = none
none_later s (Event.RequestNotification task name variant sync notify number) none code later = none
none_later s (Event.Send task bytes) none code later = none
none_later s (Event.Receive task name room large) none code later = none
none_later s (Event.ReceiveAgain task waited room large) none code later = none

-- Such a call never lacks memory: what it promises says so.
pub takes_none : (w v : WorldView) (event : Event) → Stands w → TakesNoMemory event → (r : Result Reply Code) → Serves w event r v →
    IfErr r (λ code. code_number code ≡ kern_number ResourceShortage → MayLackMemory w event)
takes_none w v event stands none (Ok reply) serves = tt
takes_none w v event stands none (Err code) serves = grind (arith, none_later, shortage_later)

-- ---- A task that ends: the call does what the machine does, up to the end of the step.

-- a notice that a right was unused brings no send right
pub posted_sends : (now : ℕ) (mid : State) (xs : List Token) (q : ℕ) → count (is_of send q) (with_posted now mid (list_map (λ (x : Token). (x, right_unused)) xs)).ledger ≡ count (is_of send q) mid.ledger
posted_sends now mid [] q = refl
posted_sends now mid (x ∷ xs) q = let r = posted_sends now (with_notice now mid (x, right_unused)) xs q in omega (arith, r)

-- and the end of a task makes none
ended_sends : (now : ℕ) (w : WorldView) (s : State) → Shows w s → (task : ℕ) (v : WorldView) → HasEnded now w task s v → (q : ℕ) → (counts_of v.ledger q).send ≤ (counts_of w.ledger q).send
ended_sends now w s sh task v e q = grind (arith, posted_sends)

pub task_ended : (w : WorldView) (task : ℕ) (v : WorldView) → HasTask w task → Ends w task v → Completes w (Event.TaskTerminate task) (Reply.Code 0) v
task_ended w task v lives ends = done_leaving w (Event.TaskTerminate task) (Reply.Code 0) v lives (record { allowed = λ s sh. tt })
    (λ now s sh. let e = ends.ends now s sh in record {
      mid = e.mid;
      owed = e.owed;
      does = (refl, e.ends);
      judged = tt;
      agrees = e.agrees;
      holders = e.holders;
      carriers = e.carriers;
      slots = e.slots;
      requested = e.requested;
      notes = e.notes;
      makes = λ lost c q. ended_sends now w s sh task v e q;
      left = e.left;
    })
