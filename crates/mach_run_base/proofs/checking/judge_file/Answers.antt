use Rattle.std.proofs.Common.{ℕ, List, Option, IfOk, subst}
use Rattle.mach_run_base.specs.Verdicts.{IsVerdict}
use Rattle.mach_run_base.proofs.LineLemmas.{new-buffer}
use Rattle.mach_run_base.proofs.checking.judge_file.Goals as goal

pub returns-in-Ok : goal.returns-in-Ok
returns-in-Ok g c =
    let made = c.in-Ok.ensures in
    let left = new-buffer (λ m. g.R.Read.remaining m.now) c.in-Ok.reader _ made.inner made.capacity made.empty in
    subst (λ (known : Option (List ℕ)). IfOk c.judge_lines.result (IsVerdict known)) left c.judge_lines.ensures
