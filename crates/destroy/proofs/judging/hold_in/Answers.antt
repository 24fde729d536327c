use Rattle.port.specs.declared.Holder.TheVariants as holder
use Rattle.port.specs.Holding.{held}
use Rattle.destroy.proofs.JudgeSaved.{waits_somewhere}
use Rattle.destroy.proofs.judging.hold_in.Goals as goal

pub returns : goal.returns
returns c = record {
  v = c.requires.view;
  there = c.requires.there;
  rest = waits_somewhere c.args.world.now c.hold_in.new.self c.args.port (held c.requires.view (holder.QueueOf c.args.queue)) _ _ (c.hold_in.ensures c.requires.view c.requires.there);
}
