use Rattle.std.proofs.Common.{◌∙◌}
use Rattle.destroy.proofs.TellTurns.{loop_can, loop_fewer, loop_next, loop_done}
use Rattle.destroy.proofs.BurySteps.{tells_spaces, noted_spaces, untaken_spaces}
use Rattle.destroy.proofs.telling.tell_senderless.Goals as goal

pub tell_no_senders-requires : goal.tell_no_senders-requires
tell_no_senders-requires c = loop_can c.loop-port.world c.take_noted.new.self c.take_noted.result c.in-Some.port c.take_noted.ensures.first c.in-Some.is c.take_noted.ensures.taken
    c.args.world.now c.loop-port.turns c.loop-port.invariant.0 c.requires

pub loop-port-smaller : goal.loop-port-smaller
loop-port-smaller c = loop_fewer c.loop-port.world c.take_noted.new.self c.take_noted.result c.in-Some.port c.take_noted.ensures.first c.in-Some.is c.take_noted.ensures.taken
    c.tell_no_senders.result c.tell_no_senders.new.world c.tell_no_senders.ensures

pub loop-port-preserved : goal.loop-port-preserved
loop-port-preserved c = (
  loop_next c.loop-port.world c.take_noted.new.self c.take_noted.result c.in-Some.port c.take_noted.ensures.first c.in-Some.is c.take_noted.ensures.taken
      c.args.world.now c.loop-port.turns c.loop-port.invariant.0 c.tell_no_senders.result c.tell_no_senders.new.world c.tell_no_senders.ensures _ c.saturating_add-turns.ensures,
  tells_spaces c.take_noted.new.self c.in-Some.port c.tell_no_senders.result c.tell_no_senders.new.world c.tell_no_senders.ensures
      ∙ noted_spaces c.loop-port.world c.take_noted.new.self c.take_noted.result c.in-Some.port c.in-Some.is c.take_noted.ensures.taken ∙ c.loop-port.invariant.1,
)

pub returns-clause-continues : goal.returns-clause-continues
returns-clause-continues c = loop_done c.args.world.now c.loop-port.turns c.loop-port.world c.take_noted.new.self c.take_noted.result c.loop-port.invariant.0 c.take_noted.ensures.first c.in_default.is c.take_noted.ensures.none

pub returns-clause-spaces : goal.returns-clause-spaces
returns-clause-spaces c = untaken_spaces c.loop-port.world c.take_noted.new.self c.take_noted.result c.in_default.is c.take_noted.ensures.none ∙ c.loop-port.invariant.1
