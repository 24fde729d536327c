use Rattle.std.proofs.Common.{◌∙◌, refl}
use Rattle.member_lists.specs.Lists.{without}
use Rattle.port.specs.Holding.{held}
use Rattle.port.specs.Ports.{with_port}
use Rattle.port.specs.Records.{lost_with, doomed_with}
use Rattle.port.proofs.Sound.{relisted}
use Rattle.port.proofs.Waiting.{lost_held, doomed_held}
use Rattle.port.proofs.Ports.hold.Goals as goal

pub returns-clause-after : goal.returns-clause-after
returns-clause-after g c p h =
    c.set_holder.ensures.held p h
    ∙ relisted (with_port c.args.self.now.bare c.args.port (held p c.args.holder)) (lost_with c.args.holder c.args.port (without c.args.port c.args.self.now.bare.lost)) (doomed_with c.args.holder c.args.port (without c.args.port c.args.self.now.bare.doomed)) c.args.self.now.bare.noted
    (without c.args.port c.args.self.now.bare.lost) c.args.self.now.bare.doomed c.args.self.now.bare.noted (record {
      lost_is = lost_held c.args.holder c.args.port (without c.args.port c.args.self.now.bare.lost) c.requires.holder;
      doomed_is = doomed_held c.args.holder c.args.port (without c.args.port c.args.self.now.bare.doomed) c.requires.holder ∙ c.set_holder.ensures.doomed p h (c.requires.stays p h);
      noted_is = refl;
    })
