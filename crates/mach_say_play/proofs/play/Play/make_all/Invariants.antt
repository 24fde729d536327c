use Rattle.std.proofs.Common.{take}
use Rattle.mach_say_play.proofs.Playing.{Plays}
use Rattle.mach_say_play.proofs.play.Play.make_all.Given as goal

-- the statements so far have made their entries
abbrev pub invariant-loop-place : goal.invariant-loop-place
invariant-loop-place l = Plays l.fn.self.stage l.self.stage (take l.place l.statements)
