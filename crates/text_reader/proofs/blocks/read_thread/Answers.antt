use Rattle.std.proofs.Common.{rules, ◌<◌, ◌^◌, arith, subst, sym}
use Rattle.tracer_base.specs.Blocks.{FitsThread}
use Rattle.text_reader.proofs.BlockLemmas.{same_number}
use Rattle.text_reader.proofs.blocks.read_thread.Goals as goal

pub returns-else-is_thread_number-clause-each : goal.returns-else-is_thread_number-clause-each
returns-else-is_thread_number-clause-each c =
    λ number fits same.
    let small : number < 2 ^ 32 = omega (arith, fits.0, fits.1) in
    let found = same_number c.in_ok-number.number number _ _ c.in_ok-number.ensures.fits small c.in_ok-number.ensures.ok same in
    let there : FitsThread c.in_ok-number.number = subst FitsThread (sym found) fits in
    absurd (search (rules, there))
