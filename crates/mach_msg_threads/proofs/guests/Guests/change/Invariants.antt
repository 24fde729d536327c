use Rattle.std.proofs.Common.{◌≡◌, take, drop}
use Rattle.std.specs.List.{AllZip}
use Rattle.mach_msg_threads.specs.Waiting.{Hears}
use Rattle.mach_msg_threads.proofs.guests.Guests.change.Given as goal

abbrev pub invariant-loop-guest : goal.invariant-loop-guest
invariant-loop-guest l =
    AllZip (Hears l.touched) (take l.guest-index l.initial.guest-items) (take l.guest-index l.guest-items)
    × (drop l.guest-index l.guest-items ≡ drop l.guest-index l.initial.guest-items)
