-- The line of the last call in a history, and the line that a history begins with, for C.
use Rattle.std.specs.Prelude.{◌≡◌, ◌⊎◌, ℕ, ℤ, List, None, Some, length, if◌then◌else◌, nat_lt}
use Rattle.mach_types.specs.declared.codes.KernReturn.TheVariants.{ResourceShortage}
use Rattle.mach_types.specs.Codes.{kern_number}
use Rattle.mach_model.specs.State.{State}
use Rattle.copyin_base.specs.Shows.{Shows}
use Rattle.copyin_base.specs.Worlds.{WorldView}
use Rattle.kernel_record.specs.declared.recorded.LastCall.{LastCall}
use Rattle.kernel_record.specs.declared.recorded.LastCall.TheVariants.{Made}
use Rattle.kernel_record.specs.Recording.{kept_from}
use Rattle.kernel_lock.specs.History.{entry}
use Rattle.tracer.specs.Histories.{entry_line, heading}
use Rattle.gelvonds_c.specs.Held.{Kept}
use Rattle.gelvonds_c_base.specs.Codes.{signed, no_entry, no_kernel, too_short}
use Rattle.gelvonds_c.specs.Calls.{put_list}

-- Calls are kept from now on. A handle without a kernel has none.
abbrev pub KeepsEntries : (old : Kept) → (code : ℤ) → (new : Kept) → Type 0
KeepsEntries None code new = (code ≡ signed no_kernel) × (new ≡ None)
KeepsEntries (Some kernel) code new = (code ≡ signed 0) × (new ≡ Some (record { kernel = kernel.kernel; last = kept_from kernel.last }))

-- The text stands at the front of the caller's room, where there is room for it. Its length is told in both cases.
pub record PutsLine (text : List ℕ) (code : ℤ) (before after : List ℕ) (told : ℕ) : Type 0 where
  pub code_is : code ≡ signed (if nat_lt (length before) (length text) then too_short else 0)
  pub after_is : after ≡ put_list (length before) (length text) text before
  pub told_is : told ≡ length text

-- Nothing is written, and the code says why.
pub record PutsNothing (why : ℕ) (code : ℤ) (before after : List ℕ) (told_before told_after : ℕ) : Type 0 where
  pub code_is : code ≡ signed why
  pub after_is : after ≡ before
  pub told_is : told_after ≡ told_before

-- It is what a history begins with that the kernel's calls make, by the profile of the state that the kernel shows.
abbrev pub IsHeadingOf : WorldView → (text : List ℕ) → Type 0
IsHeadingOf tables text = (s : State) → Shows tables s → text ≡ heading s.profile

abbrev pub TellsHeading : (old : Kept) → (code : ℤ) → (new : Kept) → (before after : List ℕ) → (told_before told_after : ℕ) → Type 0
TellsHeading None code new before after told_before told_after = (new ≡ None) × PutsNothing no_kernel code before after told_before told_after
TellsHeading (Some kernel) code new before after told_before told_after =
    (new ≡ Some kernel) × (text : List ℕ) × IsHeadingOf kernel.kernel.tables text × PutsLine text code before after told_after

-- Of a call that was made it is the line of the call and its reply, with this caller, unless memory for the text is refused. Else there is no line.
abbrev pub TellsLast : LastCall → (caller : ℕ) → (code : ℤ) → (before after : List ℕ) → (told_before told_after : ℕ) → Type 0
TellsLast (Made event reply) caller code before after told_before told_after =
    PutsLine (entry_line (entry caller event reply)) code before after told_after ⊎ PutsNothing (kern_number ResourceShortage) code before after told_before told_after
TellsLast last caller code before after told_before told_after = PutsNothing no_entry code before after told_before told_after

-- The line of the kernel's last call, and the kernel and its last call stay.
abbrev pub TellsEntry : (old : Kept) → (caller : ℕ) → (code : ℤ) → (new : Kept) → (before after : List ℕ) → (told_before told_after : ℕ) → Type 0
TellsEntry None caller code new before after told_before told_after = (new ≡ None) × PutsNothing no_kernel code before after told_before told_after
TellsEntry (Some kernel) caller code new before after told_before told_after = (new ≡ Some kernel) × TellsLast kernel.last caller code before after told_before told_after
