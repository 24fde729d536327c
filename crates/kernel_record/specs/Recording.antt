-- A kernel that may keep its last call.
use Rattle.std.specs.Prelude.{◌≡◌, ◌≢◌, ◌⊎◌, ◌<◌, ℕ, refl}
use Rattle.std.specs.Coded.{Coded, code_by, coded×}
use Rattle.mach_types.specs.declared.calls.Event.{Event}
use Rattle.mach_types.specs.declared.calls.Reply.{Reply}
use Rattle.kernel_core.specs.Answers.{Answers}
use Rattle.kernel_core.specs.Bounds.{most_told}
use Rattle.kernel_core.specs.Kernels.{KernelView}
use Rattle.kernel_core.specs.Wanted.{memory_code}
use Rattle.kernel_record.specs.declared.recorded.LastCall.{LastCall}
use Rattle.kernel_record.specs.declared.recorded.LastCall.TheVariants.{NotKept, NotMade, Made}

-- a kernel, and what is kept of its last call
pub record RecordedView : Type 0 where
  pub kernel : KernelView
  pub last : LastCall

abbrev pub recorded_code : Coded KernelView → Coded LastCall → Coded RecordedView
recorded_code kernel last = code_by (KernelView × LastCall) (coded× kernel last) (λ k. (k.kernel, k.last)) (λ x. record { kernel = x.0; last = x.1 }) (λ _. refl)

-- ---- what is kept

-- calls are kept from now on
abbrev pub kept_from : LastCall → LastCall
kept_from NotKept = NotMade
kept_from last = last

-- of a call that was made
abbrev pub made_after : LastCall → Event → Reply → LastCall
made_after NotKept event reply = NotKept
made_after last event reply = Made event reply

-- of one that was not made
abbrev pub missed : LastCall → LastCall
missed NotKept = NotKept
missed last = NotMade

-- ---- a step

-- The call was made, and where calls are kept it is the last one, with this reply.
pub record IsMade (old : RecordedView) (event : Event) (reply : Reply) (new : RecordedView) : Type 0 where
  pub answers : Answers old.kernel.tables event reply new.kernel.tables
  pub last : new.last ≡ made_after old.last event reply

-- The copies of the call and of its reply take memory: for the bytes that it sends, or for what the reply may have at most.
abbrev pub IsSend : Event → Type 0
IsSend (Event.Send task bytes) = Unit {0}
IsSend event = ⊥

abbrev pub TakesCopies : Event → (most : ℕ) → Type 0
TakesCopies event most = IsSend event ⊎ (0 < most)

-- Calls are kept, memory for the copies of this one was refused, and it was not made: the kernel is as it was.
pub record IsNotMade (old : RecordedView) (event : Event) (reply : Reply) (new : RecordedView) : Type 0 where
  pub keeps : old.last ≢ NotKept
  pub copies : TakesCopies event (most_told old.kernel.tables event)
  pub code : reply ≡ Reply.Code (memory_code event)
  pub kernel : new.kernel ≡ old.kernel
  pub last : new.last ≡ NotMade

abbrev pub StepsRecorded : (old : RecordedView) → Event → Reply → (new : RecordedView) → Type 0
StepsRecorded old event reply new = IsMade old event reply new ⊎ IsNotMade old event reply new
