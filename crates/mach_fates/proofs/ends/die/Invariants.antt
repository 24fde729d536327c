use Rattle.std.specs.Prelude.{◌≡◌, map, take}
use Rattle.mach_fates.specs.Noting.{died}
use Rattle.mach_fates.proofs.ends.die.Given as goal

-- those before this place are there
abbrev pub invariant-loop-end : goal.invariant-loop-end
invariant-loop-end l = l.after.items ≡ map (died l.number) (take l.end-index l.ends)
