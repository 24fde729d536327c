use Rattle.port.specs.declared.Holder.TheVariants as holder
use Rattle.port.specs.Holding.{held}
use Rattle.destroy.proofs.JudgeSaved.{waits_somewhere, none_waiting}
use Rattle.destroy.proofs.judging.doom.Goals as goal

pub doom_first-requires : goal.doom_first-requires
doom_first-requires c = (c.args.port, c.requires.first, c.requires.lost)

pub returns-clause-doomed : goal.returns-clause-doomed
returns-clause-doomed c =
    let r = c.requires.lost in
    record {
      v = r.view;
      there = r.there;
      rest = waits_somewhere c.args.world.now c.doom_first.new.self c.args.port (held r.view holder.Doomed) _ _ (c.doom_first.ensures.doomed c.args.port r.view c.requires.first r.there);
    }

pub returns-clause-none : goal.returns-clause-none
returns-clause-none c =
    let r = c.requires.lost in
    none_waiting c.args.world.now c.doom_first.new.self c.args.port (held r.view holder.Doomed) _ _ (c.doom_first.ensures.doomed c.args.port r.view c.requires.first r.there)
    c.doom_first.result (c.doom_first.ensures.queued c.args.port r.view c.requires.first r.there)
