use Rattle.mach_laws.proofs.Dying.{sending_away_run}
use Rattle.mach_laws.proofs.port_sent_away.Goals as goal

pub returns : goal.returns
returns c = sending_away_run
