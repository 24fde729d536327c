use Rattle.std.proofs.Common.{◌≡◌, ◌++◌, take}
use Rattle.std.specs.Option.{option_to_list}
use Rattle.kernel_change.specs.Changing.{by_destroying}
use Rattle.kernel_change.proofs.change.by_destroying.Given as goal

-- The reply right goes, and those before this place.
abbrev pub invariant-loop-place : goal.invariant-loop-place
invariant-loop-place l = l.told ≡ by_destroying l.fn.port (option_to_list l.fn.queued.reply ++ take l.place l.fn.queued.rights)
