use Rattle.mach_run_base.proofs.HistoryLemmas.{legal-text}
use Rattle.mach_run_base.proofs.checking.Judge.verdict.Goals as goal

pub returns-in-None : goal.returns-in-None
returns-in-None c = λ bytes profile entries text number seen. legal-text profile bytes c.args.self.now entries c.args.count c.in-None.is text number seen
