-- The kernel that is taken out of a handle, steps and is put back makes the call that the handle makes.
use Rattle.std.proofs.Common.{◌≡◌, sym, subst, Some, Option}
use Rattle.mach_types.specs.declared.calls.Event.{Event}
use Rattle.mach_types.specs.declared.calls.Reply.{Reply}
use Rattle.kernel_record.specs.Recording.{StepsRecorded}
use Rattle.kernel_record.specs.contracts.recorded.RecordedKernel.{the_row}
use Rattle.gelvonds_c.specs.Held.{Kept}
use Rattle.gelvonds_c.specs.Calls.{Calls}

pub called : (before after : Kept) (old now new : the_row.Denot) (event : Event) (reply : Reply)
    → before ≡ Some old → now ≡ old → after ≡ Some new → StepsRecorded now event reply new → Calls before event (Some reply) after
called before after old now new event reply e f g a =
    subst (λ (x : Kept). Calls x event (Some reply) after) (sym e)
    (subst (λ (y : Kept). Calls (Some old) event (Some reply) y) (sym g)
    (subst (λ (n : the_row.Denot). StepsRecorded n event reply new) f a))

-- the call of the kernel that was taken is the handle's
pub taken : (held : Kept) (old : the_row.Denot) (event : Event) (reply : Option Reply) (after : Kept) → held ≡ Some old → Calls (Some old) event reply after → Calls held event reply after
taken held old event reply after e calls = subst (λ (x : Kept). Calls x event reply after) (sym e) calls
