use Rattle.std.proofs.Common.{◌≡◌, ℕ, List}
use Rattle.std.specs.Io.KnownBytes.{Appends}
use Rattle.mach_run_base.specs.Output.{AreReplies}
use Rattle.mach_run_base.proofs.running.run_opening.Given as goal

-- what is written so far is the replies to the calls so far, and the pass has seen the whole history
abbrev pub invariant-loop-event : goal.invariant-loop-event
invariant-loop-event g l =
    (l.held.kernel.table ≡ l.fn.shared.table) × (l.pass.table ≡ l.fn.shared.table) × (l.pass.seen ≡ l.held.kernel.log)
    × ((text : List ℕ) × AreReplies l.fn.pass l.yielded text l.pass × Appends (g.W.Write.contents l.fn.out) (g.W.Write.contents l.out) text)
