use Rattle.destroy.proofs.EndIdle.{idle_told}
use Rattle.destroy.proofs.ending.is_idle.Goals as goal

pub returns-clause-idle : goal.returns-clause-idle
returns-clause-idle c = idle_told c.args.world.now c.are_ports_idle.result c.are_ports_idle.ensures.idle c.first_went.result c.first_went.ensures c.is_none.result c.is_none.ensures
