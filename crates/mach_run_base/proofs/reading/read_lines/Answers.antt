use Rattle.std.proofs.Common.{rules, ◌≡◌, ◌<◌, ◌+◌, ◌∙◌, ◌++◌, ◌∷◌, [], sym, subst, length, arith, refl}
use Rattle.std.proofs.KnownBytes.{Consumes-nil}
use Rattle.std.proofs.lemmas.List.{length_push}
use Rattle.tracer_base.specs.declared.blocks.ScriptLine.{ScriptLine}
use Rattle.tracer_base.specs.Blocks.{said_line}
use Rattle.mach_run_base.specs.Scripts.{IsScript, said_script}
use Rattle.mach_run_base.specs.declared.fault.Fault.TheVariants.{BadCall}
use Rattle.mach_run_base.proofs.LineLemmas.{reads-line, reads-all, first-bad, no_lines}
use Rattle.mach_run_base.proofs.reading.read_lines.Goals as goal

pub loop-number-init : goal.loop-number-init
loop-number-init g c = rw c.new-script.ensures (no_lines, Consumes-nil _, refl)

pub returns-then-branch-eq0-clause-ok : goal.returns-then-branch-eq0-clause-ok
returns-then-branch-eq0-clause-ok g c =
    let inv = c.loop-number.invariant in
    (inv.0, reads-all _ _ _ inv.1 (c.in_ok-next_line.ensures.end c.if-branch-eq0.true))

pub returns-in-Err-Bad-clause-line : goal.returns-in-Err-Bad-clause-line
returns-in-Err-Bad-clause-line g c =
    λ n told.
    let inv = c.loop-number.invariant in
    let fault : c.bad_line.result ≡ BadCall n = cc in
    let place = c.bad_line.ensures n fault in
    let number : length (said_script c.loop-number.script) + 1 ≡ n = search (rules, place) in
    let some : 0 < length c.next_line.new.line.items = search rules in
    let refused : (said : ScriptLine) → IsScript (said_script c.loop-number.script ++ said ∷ []) → said_line said ≡ c.next_line.new.line.items → ⊥ =
    λ said more same. c.read_line.ensures.bad (search rules) said more (same ∙ sym c.as_slice.ensures.value) in
    first-bad _ _ (said_script c.loop-number.script) c.next_line.new.line.items n inv.0 inv.1 c.in_ok-next_line.ensures.taken refused some number

pub loop-number-preserved : goal.loop-number-preserved
loop-number-preserved g c =
    let inv = c.loop-number.invariant in
    let read = c.in-Ok.ensures.ok in
    let done = said_script c.loop-number.script in
    rw read.2 (
      subst IsScript read.2 c.in-Ok.ensures.good,
      reads-line _ _ _ done read.0 _ inv.1 c.in_ok-next_line.ensures.left (read.1 ∙ c.as_slice.ensures.value),
      (let more = length_push done read.0 in let before = inv.2 in omega (arith, more, before)),
    )
