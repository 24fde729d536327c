use Rattle.std.proofs.Common.{◌≡◌, drop}
use Rattle.mach_run_base.specs.Scripts.{has_number}
use Rattle.mach_run_base.proofs.script.has.Given as goal

abbrev pub invariant-loop-block : goal.invariant-loop-block
invariant-loop-block l = has_number (drop l.block-index l.blocks) l.number ≡ has_number l.blocks l.number
