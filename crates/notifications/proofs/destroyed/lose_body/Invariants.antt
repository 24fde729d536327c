use Rattle.std.specs.Prelude.{take}
use Rattle.notifications.specs.Destroying.{LosesAll}
use Rattle.notifications.proofs.destroyed.lose_body.Given as goal

-- Those before this place were lost.
abbrev pub invariant-loop-place : goal.invariant-loop-place
invariant-loop-place l = LosesAll l.fn.world (take l.place l.fn.queued.rights) l.world
