use Rattle.mach_say_play.proofs.Playing.{Tasks}
use Rattle.mach_say_play.proofs.play.Play.make_tasks.Given as goal

-- each word so far has its task
abbrev pub invariant-loop-word : goal.invariant-loop-word
invariant-loop-word l = Tasks l.fn.self.stage l.self.stage l.word-index
