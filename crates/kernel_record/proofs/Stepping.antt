-- A step from tables that show a state.
use Rattle.std.proofs.Common.{◌≡◌, ◌≢◌, ℕ, refl}
use Rattle.mach_types.specs.declared.calls.Event.{Event}
use Rattle.mach_types.specs.declared.calls.Reply.{Reply}
use Rattle.mach_model.specs.State.{State}
use Rattle.mach_model.specs.Machine.{Step}
use Rattle.copyin_base.specs.Shows.{Shows}
use Rattle.copyin_base.specs.Stands.{Stands}
use Rattle.copyin_base.specs.Worlds.{WorldView}
use Rattle.kernel_core.specs.Answers.{Answers}
use Rattle.kernel_core.specs.Bounds.{IsWithin}
use Rattle.kernel_record.specs.declared.recorded.LastCall.{LastCall}
use Rattle.kernel_record.specs.declared.recorded.LastCall.TheVariants.{NotKept, NotMade, Made}
use Rattle.kernel_record.specs.Recording.{made_after}

-- it leads to such tables
pub stands : (old : WorldView) (event : Event) (reply : Reply) (new : WorldView) → Stands old → Answers old event reply new → Stands new
stands old event reply new s answers = let a = answers 0 s.state s.shown in record { state = a.0; shown = a.2 }

-- and its reply is as long as each step's may be
pub is_within : (old : WorldView) (event : Event) (most : ℕ) (reply : Reply) (new : WorldView) → Stands old → Answers old event reply new
    → ((now : ℕ) (s t : State) (reply : Reply) → Shows old s → Step now s event reply t → IsWithin event most reply) → IsWithin event most reply
is_within old event most reply new s answers within = let a = answers 0 s.state s.shown in within 0 s.state a.0 reply s.shown a.1

-- where calls are kept, the one that was made is
pub is_kept : (last : LastCall) (event : Event) (reply : Reply) → last ≢ NotKept → Made event reply ≡ made_after last event reply
is_kept NotKept event reply keeps = absurd (keeps refl)
is_kept NotMade event reply keeps = refl
is_kept (Made e r) event reply keeps = refl
