use Rattle.mach_run_base.proofs.HistoryLemmas.{seen-behind}
use Rattle.mach_run_base.proofs.checking.Judge.see.Goals as goal

pub returns-in-Some : goal.returns-in-Some
returns-in-Some c = λ profile entries number seen. seen-behind profile c.args.self.now entries c.args.entry.now _ c.in-Some.is seen
