use Rattle.std.specs.Prelude.{take}
use Rattle.mach_fates.specs.Noting.{SettlesAll}
use Rattle.mach_fates.proofs.ends.Ends.settle_all.Given as goal

-- the ports before this place were settled
abbrev pub invariant-loop-port : goal.invariant-loop-port
invariant-loop-port l = SettlesAll l.number l.fates (take l.port-index l.ports) l.initial.self l.self
