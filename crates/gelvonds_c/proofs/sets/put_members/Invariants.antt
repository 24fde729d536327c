use Rattle.std.proofs.Common.{◌≡◌, ◌++◌, take, drop}
use Rattle.gelvonds_c.proofs.sets.put_members.Given as goal

-- the names before this place are written
abbrev pub invariant-loop-place : goal.invariant-loop-place
invariant-loop-place l = l.members ≡ take l.place l.found ++ drop l.place l.initial.members
