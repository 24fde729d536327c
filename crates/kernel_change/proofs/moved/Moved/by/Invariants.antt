use Rattle.std.proofs.Common.{◌≡◌, take}
use Rattle.kernel_change.specs.Changing.{receives_of, moved_by}
use Rattle.kernel_change.proofs.moved.Moved.by.Given as goal

abbrev pub invariant-loop-carried : goal.invariant-loop-carried
invariant-loop-carried l = l.moved ≡ moved_by (receives_of (take l.carried-index l.rights))
