use Rattle.std.proofs.Common.{◌≡◌, ℕ, List, Option, IfOk, IfSome, flat_map, subst}
use Rattle.tracer_base.specs.Blocks.{said_line}
use Rattle.mach_run_base.specs.Scripts.{IsScript, IsFirstBadLine, said_script}
use Rattle.mach_run_base.proofs.LineLemmas.{new-buffer}
use Rattle.mach_run_base.proofs.reading.read_script.Goals as goal

pub returns-in-Ok-clause-ok : goal.returns-in-Ok-clause-ok
returns-in-Ok-clause-ok g c =
    let made = c.in-Ok.ensures in
    let left = new-buffer (λ m. g.R.Read.remaining m.now) c.in-Ok.reader _ made.inner made.capacity made.empty in
    subst (λ (known : Option (List ℕ)). IfOk c.read_lines.result (λ script. IsScript (said_script script) × IfSome known (λ text. flat_map said_line (said_script script) ≡ text))) left c.read_lines.ensures.ok

pub returns-in-Ok-clause-line : goal.returns-in-Ok-clause-line
returns-in-Ok-clause-line g c =
    λ n told.
    let made = c.in-Ok.ensures in
    let left = new-buffer (λ m. g.R.Read.remaining m.now) c.in-Ok.reader _ made.inner made.capacity made.empty in
    subst (λ (known : Option (List ℕ)). IfSome known (λ text. IsFirstBadLine text n)) left (c.read_lines.ensures.line n told)
