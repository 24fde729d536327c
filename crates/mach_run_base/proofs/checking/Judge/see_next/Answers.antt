use Rattle.std.proofs.Common.{Ok, ap, refl}
use Rattle.mach_run_base.proofs.HistoryLemmas.{seen-next, seen-last}
use Rattle.mach_run_base.proofs.checking.Judge.see_next.Goals as goal

pub returns-then-branch : goal.returns-then-branch
returns-then-branch c =
    λ profile entries number seen. seen-next profile c.args.self.now _ entries c.args.entry.now c.requires refl (c.in_ok-confirm.ensures.confirmed (ap Ok c.if-branch.true)) seen

pub returns : goal.returns
returns c = λ profile entries number seen. seen-last profile c.args.self.now _ entries c.args.entry.now c.args.number c.requires refl number (c.in_ok-confirm.ensures.not (ap Ok c.if-branch.false)) seen
