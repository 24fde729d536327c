use Rattle.std.proofs.Common.{take}
use Rattle.copyin.specs.Loops.{MakesLoop}
use Rattle.copyin.proofs.loops.any_leads_on.Given as goal

abbrev pub invariant-loop-carried : goal.invariant-loop-carried
invariant-loop-carried l = ¬ (MakesLoop l.world.ports l.port (take l.carried-index l.rights))
