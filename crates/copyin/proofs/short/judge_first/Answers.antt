use Rattle.std.proofs.Common.{refl}
use Rattle.copyin.proofs.short.judge_first.Goals as goal

pub returns-in-Some-marked_port-clause-ok : goal.returns-in-Some-marked_port-clause-ok
returns-in-Some-marked_port-clause-ok c =
    let g = c.in-Some-carried_from.ensures c.args.space.now.names c.in-Some.ensures.some in
    record { by = refl; to_port = c.in-Some-marked_port.ensures; after = g.0; copies = g.1 }
