use Rattle.mach_laws.proofs.Promised.{run_headline}
use Rattle.mach_laws.proofs.headline.Goals as goal

pub returns : goal.returns
returns c = run_headline
