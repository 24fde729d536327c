use Rattle.copyin_base.specs.Worlds.{port_at}
use Rattle.copyin_base.proofs.Told.{port_got}
use Rattle.destroy.proofs.judging.reset.Goals as goal

pub returns : goal.returns
returns c =
    let x = port_got (port_at c.args.world.now c.args.port) c.requires in
    record { v = x.0; there = x.1; rest = c.restart_port.ensures.live x.0 x.1 }
