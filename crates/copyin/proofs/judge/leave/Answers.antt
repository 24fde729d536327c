use Rattle.std.proofs.Common.{sym, ◌∙◌}
use Rattle.copyin.proofs.HoldersKept.{leaves}
use Rattle.copyin.proofs.Judging.{overlays-same}
use Rattle.copyin.proofs.judge.leave.Goals as goal

pub returns-then-makes_right-clause-ok : goal.returns-then-makes_right-clause-ok
returns-then-makes_right-clause-ok c = λ names now k o found is.
    overlays-same c.args.touched.now names now c.args.name k.left (found ∙ sym (leaves c.args.given c.args.entry.now k (sym c.makes_right.ensures ∙ c.if-makes_right.true) is)) o
