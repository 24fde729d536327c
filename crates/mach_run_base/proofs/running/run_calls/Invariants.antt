use Rattle.std.proofs.Common.{◌≡◌, ℕ, List}
use Rattle.std.specs.Io.KnownBytes.{Appends}
use Rattle.mach_run_base.specs.Output.{AreAnswers}
use Rattle.mach_run_base.proofs.running.run_calls.Given as goal

-- what is written so far is the answers to the calls so far
abbrev pub invariant-loop-call : goal.invariant-loop-call
invariant-loop-call g l =
    (l.pass.table ≡ l.fn.shared.table)
    × ((text : List ℕ) × AreAnswers l.fn.pass l.yielded text l.pass × Appends (g.W.Write.contents l.fn.out) (g.W.Write.contents l.out) text)
