-- Histories that are checked again.
use Rattle.std.specs.Prelude.{◌≡◌, ◌≢◌, ◌⊎◌, ℕ, ◌+◌, List, ◌∷◌, ◌++◌, length}
use Rattle.mach_types.specs.declared.profiles.Profile.{Profile}
use Rattle.mach_types.specs.declared.calls.Event.{Event}
use Rattle.mach_types.specs.declared.calls.Reply.{Reply}
use Rattle.mach_model.specs.State.{State}
use Rattle.mach_model.specs.Refusals.{Refuses}
use Rattle.copyin_base.specs.Shows.{Shows}
use Rattle.kernel_core.specs.Answers.{Answers}
use Rattle.kernel_core.specs.Kernels.{KernelView}
use Rattle.kernel_core.specs.Limits.{PassesLimit, IsNearLimit}
use Rattle.kernel_core.specs.Wanted.{memory_code}
use Rattle.kernel_lock.specs.declared.entry.Entry.{Entry}
use Rattle.kernel_lock.specs.History.{Legal, LeadsTo}
use Rattle.kernel_lock.specs.Replays.{Replays}

-- The reply is a code by which the machine refuses the event in each state that the kernel shows.
pub record IsRefusal (kernel : KernelView) (event : Event) (reply : Reply) : Type 0 where
  pub code : ℕ
  pub told : reply ≡ Reply.Code code
  pub refuses : (s : State) → Shows kernel.tables s → Refuses s event code

-- The reply is no refusal of the event for want of memory, in any state that the kernel shows.
pub record IsNoWant (kernel : KernelView) (event : Event) (reply : Reply) : Type 0 where
  pub never : (s : State) → Shows kernel.tables s → reply ≡ Reply.Code (memory_code event) → ¬ (Refuses s event (memory_code event))

-- The kernel's own step answers the event by another reply. The entry's reply is no refusal for want of memory; nor is the kernel's, but where the message
-- has words enough to pass the limit of rights, which has the same code.
pub record AnswersOtherwise (kernel : KernelView) (event : Event) (reply : Reply) : Type 0 where
  pub plain : IsNoWant kernel event reply
  pub own : Reply
  pub next : KernelView
  pub answers : Answers kernel.tables event own next.tables
  pub owned : IsNoWant next event own ⊎ IsNearLimit kernel.tables event
  pub other : own ≢ reply

-- The entry of this number, from 1, isn't confirmed: those before it are a history that is legal by the profile, and a kernel that shows what they lead
-- to answers otherwise.
pub record IsUnconfirmed (profile : Profile) (entries : List Entry) (n : ℕ) : Type 0 where
  pub before : List Entry
  pub entry : Entry
  pub behind : List Entry
  pub parts : before ++ entry ∷ behind ≡ entries
  pub number : length before + 1 ≡ n
  pub legal : Legal profile before
  pub kernel : KernelView
  pub replays : Replays profile before kernel
  pub otherwise : AnswersOtherwise kernel entry.event entry.reply

-- Want of memory may be why a call isn't answered as its entry says: those before it lead to this state by the profile, and in it the limit of rights
-- doesn't refuse the call.
pub record MayLackMemory (profile : Profile) (entries : List Entry) : Type 0 where
  pub before : List Entry
  pub entry : Entry
  pub behind : List Entry
  pub parts : before ++ entry ∷ behind ≡ entries
  pub state : State
  pub leads : LeadsTo profile before state
  pub room : ¬ (PassesLimit state entry.event)
