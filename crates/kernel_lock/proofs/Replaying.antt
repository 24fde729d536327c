-- A step at the end of a history.
use Rattle.std.proofs.Common.{◌≡◌, ◌≢◌, ℕ, ◌+◌, Bool, true, false, refl, List, [], ◌∷◌, ◌++◌, length, sym, subst}
use mathlib.Core.List.{map-append}
use Rattle.mach_types.specs.declared.calls.Event.{Event}
use Rattle.mach_types.specs.declared.calls.Reply.{Reply}
use Rattle.mach_types.specs.declared.profiles.Profile.{Profile}
use Rattle.mach_model.specs.State.{State}
use Rattle.mach_model.specs.State.{opening_in}
use Rattle.mach_model.specs.Machine.{Step, RunIn}
use Rattle.mach_model.proofs.StepLawful.{RunFrom-push}
use Rattle.copyin_base.specs.Shows.{Shows}
use Rattle.kernel_core.specs.Answers.{Answers}
use Rattle.kernel_core.specs.Bounds.{IsWithin}
use Rattle.kernel_core.specs.Kernels.{KernelView}
use Rattle.kernel_lock.specs.declared.entry.Entry.{Entry}
use Rattle.kernel_lock.specs.History.{events_of, replies_of, LeadsTo, Legal}
use Rattle.kernel_lock.specs.Replays.{Replays, kept_of}
use Rattle.kernel_lock.proofs.Answered.{answered}

-- the number of the step that comes next
abbrev pub next : List Entry → ℕ
next log = 0 + length (events_of log)

pub leads_push : (profile : Profile) (log : List Entry) (s t : State) (e : Entry) → LeadsTo profile log s → Step (next log) s e.event e.reply t → LeadsTo profile (log ++ e ∷ []) t
leads_push profile log s t e run step =
    subst
    (λ (x : List Event × List Reply). RunIn profile x.0 x.1 t)
    (λ i. (sym (map-append (λ (x : Entry). x.event) log (e ∷ [])) i, sym (map-append (λ (x : Entry). x.reply) log (e ∷ [])) i))
    (RunFrom-push 0 (opening_in profile) (events_of log) (replies_of log) s e.event e.reply t run step)

pub replays_push : (profile : Profile) (log : List Entry) (old new : KernelView) (e : Entry) → Replays profile log old → Answers old.tables e.event e.reply new.tables → Replays profile (log ++ e ∷ []) new
replays_push profile log old new e r answers =
    let a = answers (next log) r.state r.shown in record {
      state = a.0;
      leads = leads_push profile log r.state a.0 e r.leads a.1;
      shown = a.2;
    }

pub legal_of : (profile : Profile) (log : List Entry) (kernel : KernelView) → Replays profile log kernel → Legal profile log
legal_of profile log kernel r = record { state = r.state; leads = r.leads }

-- the entries that are kept, with one more
pub kept_push : (keeps : Bool) (log : List Entry) (e : Entry) → kept_of keeps (log ++ e ∷ []) ≡ kept_of keeps log ++ kept_of keeps (e ∷ [])
kept_push true log e = refl
kept_push false log e = refl

-- what is so of each reply to the event, by the states that the kernel shows, is so of its step's
pub is_within : (profile : Profile) (log : List Entry) (old new : KernelView) (event : Event) (most : ℕ) (reply : Reply) → Replays profile log old → Answers old.tables event reply new.tables
    → ((now : ℕ) (s t : State) (reply : Reply) → Shows old.tables s → Step now s event reply t → IsWithin event most reply) → IsWithin event most reply
is_within profile log old new event most reply r answers within =
    let a = answers (next log) r.state r.shown in
    within (next log) r.state a.0 reply r.shown a.1

pub is_answered : (profile : Profile) (log : List Entry) (old new : KernelView) (event : Event) (reply : Reply) → Replays profile log old → Answers old.tables event reply new.tables → reply ≢ Reply.NoRecord
is_answered profile log old new event reply r answers =
    let a = answers (next log) r.state r.shown in
    answered (next log) r.state event reply a.0 a.1
