use Rattle.std.proofs.Common.{◌≡◌, ◌+◌, ℕ, List, [], All, Option, length}
use Rattle.std.specs.Io.KnownBytes.{Consumes}
use Rattle.mach_types.specs.declared.profiles.Profile.{Profile}
use Rattle.kernel_lock.specs.declared.entry.Entry.{Entry}
use Rattle.tracer.specs.Histories.{history_text, FitsLine}
use Rattle.mach_run_base.specs.Verdicts.{HasSeen}
use Rattle.mach_run_base.proofs.checking.judge_entries.Given as goal

-- what is read so far is the text of the entries that were seen, whatever the profile, and the next one's number is one more than theirs
abbrev pub invariant-loop-number : goal.invariant-loop-number
invariant-loop-number g l =
    (done : List Entry) × All FitsLine done × (length done + 1 ≡ l.number)
    × ((whole : Option (List ℕ)) (profile : Profile) → Consumes whole (g.B.Read.remaining l.fn.reader) (history_text profile []) → Consumes whole (g.B.Read.remaining l.reader) (history_text profile done))
    × ((profile : Profile) → HasSeen profile l.fn.judge [] → HasSeen profile l.judge done)
