use Rattle.std.proofs.Common.{◌≡◌, take}
use Rattle.std.specs.Prelude.{map}
use Rattle.mach_say_syntax.specs.declared.syntax.ReceivedRight.{ReceivedRight}
use Rattle.mach_say_play.proofs.answers.kinds.Given as goal

-- the kinds of the rights so far
abbrev pub invariant-loop-right : goal.invariant-loop-right
invariant-loop-right l = l.kinds.items ≡ map (λ (one : ReceivedRight). one.kind) (take l.right-index l.rights)
