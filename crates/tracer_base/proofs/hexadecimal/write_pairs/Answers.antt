use Rattle.std.proofs.Common.{◌++◌, refl, [], take, drop, take-append-drop, rules}
use Rattle.tracer_base.proofs.ReplyLemmas.{parts_more, appends-digits, ok-digits, appends-none}
use Rattle.tracer_base.proofs.hexadecimal.write_pairs.Goals as goal

pub loop-block-init : goal.loop-block-init
loop-block-init g c = ([], refl, appends-none _)

pub loop-block-preserved : goal.loop-block-preserved
loop-block-preserved g c =
    let inv = c.loop-block.invariant in
    let rest = c.loop-block.rest.now in
    let out = appends-digits _ _ _ inv.0 (take 32 rest) (inv.0 ++ take 32 rest) refl inv.2 (search rules) in
    (inv.0 ++ take 32 rest, search (rules, parts_more inv.0 (take 32 rest) rest (drop 32 rest) _ inv.1 (take-append-drop 32 rest)), out)

pub returns : goal.returns
returns g c =
    let inv = c.loop-block.invariant in
    ok-digits _ _ _ _ inv.0 c.loop-block.rest.now c.args.bytes.now inv.1 inv.2 (search rules)
