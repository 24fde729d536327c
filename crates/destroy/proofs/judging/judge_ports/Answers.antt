use Rattle.std.proofs.Common.{◌∙◌}
use Rattle.destroy.proofs.JudgeDoomed.{continues_more, still_at, judges_all}
use Rattle.destroy.proofs.judging.judge_ports.Goals as goal

pub judge-requires-clause-at : goal.judge-requires-clause-at
judge-requires-clause-at c = still_at c.args.world.now c.loop-port.world c.loop-port.turns c.requires c.loop-port.invariant.0

pub loop-port-preserved : goal.loop-port-preserved
loop-port-preserved c = (
  continues_more c.args.world.now c.loop-port.world c.judge.new.world c.loop-port.turns c.judge.result c.loop-port.invariant.0 c.judge.ensures.continues _ c.saturating_add-turns.ensures,
  c.judge.ensures.spaces ∙ c.loop-port.invariant.1,
)

pub returns-clause-continues : goal.returns-clause-continues
returns-clause-continues c = judges_all c.args.world.now c.loop-port.world c.loop-port.turns c.loop-port.invariant.0 c.in_default.ensures.none.0 c.in_default.ensures.none.1
