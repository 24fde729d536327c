use Rattle.std.proofs.Common.{◌∙◌}
use Rattle.destroy.proofs.LoseMessage.{loop_losing, loop_next, loop_fewer, all_lost}
use Rattle.destroy.proofs.BurySteps.{taken_spaces, untaken_spaces}
use Rattle.destroy.proofs.losing.lose_messages.Goals as goal

pub lose_rights-requires : goal.lose_rights-requires
lose_rights-requires c = loop_losing c.loop-queued.world c.take_destroyed.new.self c.take_destroyed.result c.in-Some.queued c.take_destroyed.ensures.first c.in-Some.is c.take_destroyed.ensures.taken
    c.args.world.now c.loop-queued.turns c.loop-queued.invariant.0 c.requires

pub loop-queued-smaller : goal.loop-queued-smaller
loop-queued-smaller c = loop_fewer c.loop-queued.world c.take_destroyed.new.self c.take_destroyed.result c.in-Some.queued c.take_destroyed.ensures.first c.in-Some.is c.take_destroyed.ensures.taken
    c.args.world.now c.loop-queued.turns c.loop-queued.invariant.0 c.requires c.lose_rights.result c.lose_rights.new.world c.lose_rights.ensures.loses

pub loop-queued-preserved : goal.loop-queued-preserved
loop-queued-preserved c = (
  loop_next c.loop-queued.world c.take_destroyed.new.self c.take_destroyed.result c.in-Some.queued c.take_destroyed.ensures.first c.in-Some.is c.take_destroyed.ensures.taken
      c.args.world.now c.loop-queued.turns c.loop-queued.invariant.0 c.lose_rights.result c.lose_rights.new.world c.lose_rights.ensures.loses _ c.saturating_add-turns.ensures,
  c.lose_rights.ensures.spaces ∙ taken_spaces c.loop-queued.world c.take_destroyed.new.self c.take_destroyed.result c.in-Some.queued c.in-Some.is c.take_destroyed.ensures.taken ∙ c.loop-queued.invariant.1,
)

pub loop-queued-smaller-in-Some : goal.loop-queued-smaller-in-Some
loop-queued-smaller-in-Some c = loop_fewer c.loop-queued.world c.take_destroyed.new.self c.take_destroyed.result c.in-Some.queued c.take_destroyed.ensures.first c.in-Some.is c.take_destroyed.ensures.taken
    c.args.world.now c.loop-queued.turns c.loop-queued.invariant.0 c.requires c.lose_rights.result c.lose_rights.new.world c.lose_rights.ensures.loses

pub loop-queued-preserved-in-Some : goal.loop-queued-preserved-in-Some
loop-queued-preserved-in-Some c = (
  loop_next c.loop-queued.world c.take_destroyed.new.self c.take_destroyed.result c.in-Some.queued c.take_destroyed.ensures.first c.in-Some.is c.take_destroyed.ensures.taken
      c.args.world.now c.loop-queued.turns c.loop-queued.invariant.0 c.lose_rights.result c.lose_rights.new.world c.lose_rights.ensures.loses _ c.saturating_add-turns.ensures,
  c.lose_rights.ensures.spaces ∙ taken_spaces c.loop-queued.world c.take_destroyed.new.self c.take_destroyed.result c.in-Some.queued c.in-Some.is c.take_destroyed.ensures.taken ∙ c.loop-queued.invariant.1,
)

pub loop-queued-smaller-in-Some-2 : goal.loop-queued-smaller-in-Some-2
loop-queued-smaller-in-Some-2 c = loop_fewer c.loop-queued.world c.take_destroyed.new.self c.take_destroyed.result c.in-Some.queued c.take_destroyed.ensures.first c.in-Some.is c.take_destroyed.ensures.taken
    c.args.world.now c.loop-queued.turns c.loop-queued.invariant.0 c.requires c.lose_rights.result c.lose_rights.new.world c.lose_rights.ensures.loses

pub loop-queued-preserved-in-Some-2 : goal.loop-queued-preserved-in-Some-2
loop-queued-preserved-in-Some-2 c = (
  loop_next c.loop-queued.world c.take_destroyed.new.self c.take_destroyed.result c.in-Some.queued c.take_destroyed.ensures.first c.in-Some.is c.take_destroyed.ensures.taken
      c.args.world.now c.loop-queued.turns c.loop-queued.invariant.0 c.lose_rights.result c.lose_rights.new.world c.lose_rights.ensures.loses _ c.saturating_add-turns.ensures,
  c.lose_rights.ensures.spaces ∙ taken_spaces c.loop-queued.world c.take_destroyed.new.self c.take_destroyed.result c.in-Some.queued c.in-Some.is c.take_destroyed.ensures.taken ∙ c.loop-queued.invariant.1,
)

pub returns-clause-continues : goal.returns-clause-continues
returns-clause-continues c = all_lost c.args.world.now c.loop-queued.turns c.loop-queued.world c.take_destroyed.new.self c.take_destroyed.result c.loop-queued.invariant.0 c.take_destroyed.ensures.first c.in_default.is c.take_destroyed.ensures.none

pub returns-clause-spaces : goal.returns-clause-spaces
returns-clause-spaces c = untaken_spaces c.loop-queued.world c.take_destroyed.new.self c.take_destroyed.result c.in_default.is c.take_destroyed.ensures.none ∙ c.loop-queued.invariant.1
