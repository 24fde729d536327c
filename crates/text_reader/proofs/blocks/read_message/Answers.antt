use Rattle.std.proofs.Common.{rules, ◌<◌, ◌≤◌, ◌^◌, arith, subst, sym}
use Rattle.mach_types.specs.Numbers.{most_bytes}
use Rattle.text_reader.proofs.BlockLemmas.{same_room}
use Rattle.text_reader.proofs.blocks.read_message.Goals as goal

pub returns-else-call-le-MOST_BYTES-clause-each : goal.returns-else-call-le-MOST_BYTES-clause-each
returns-else-call-le-MOST_BYTES-clause-each c =
    λ call fits same.
    let small : call.room < 2 ^ 32 = omega (arith, fits.room) in
    let found = same_room c.in_ok-call.call call _ _ c.in_ok-call.ensures.fits.3 small c.in_ok-call.ensures.ok same in
    let there : c.in_ok-call.call.room ≤ most_bytes = subst (λ n. n ≤ most_bytes) (sym found) fits.room in
    absurd (search (rules, there))
