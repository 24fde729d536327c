use Rattle.std.proofs.Common.{ap, subst, sym, ◌∙◌, length}
use Rattle.copyin_base.specs.Losing.{DestroysNext}
use Rattle.copyin_base.specs.Worlds.{WorldView}
use Rattle.destroy.specs.Judging.{CarriesAmong, LosesAmong, Empties}
use Rattle.destroy.proofs.JudgeQueue.{last_is, remains, fewer, w2_is, empties_one, empties_more}
use Rattle.destroy.proofs.judging.destroy_queue.Goals as goal

destroyed : (c : goal.After-lose_carried) → DestroysNext c.loop-port.world c.args.port c.destroy_first.new.self
destroyed c = c.loop-port-test.ensures

lost : (c : goal.After-lose_carried) → LosesAmong (CarriesAmong (destroyed c).first.first (length (destroyed c).first.first.rights)) c.destroy_first.new.self c.lose_carried.new.world
lost c = c.lose_carried.ensures (destroyed c).first.first (last_is c.loop-port.world c.args.port c.destroy_first.new.self (destroyed c))

pub loop-port-smaller : goal.loop-port-smaller
loop-port-smaller c = fewer c.loop-port.world c.args.port c.destroy_first.new.self (destroyed c) c.lose_carried.new.world (lost c)

pub loop-port-preserved : goal.loop-port-preserved
loop-port-preserved c = (
  empties_more c.args.world.now c.loop-port.world c.lose_carried.new.world c.args.port c.loop-port.turns c.loop-port.invariant.0
      (empties_one c.loop-port.world c.args.port c.destroy_first.new.self (destroyed c) c.lose_carried.new.world (lost c)) _ c.saturating_add-turns.ensures,
  remains c.loop-port.world c.args.port c.destroy_first.new.self (destroyed c) c.lose_carried.new.world (lost c) ∙ c.loop-port.invariant.1,
  ap (λ (w : WorldView). w.spaces) (w2_is c.loop-port.world c.args.port c.destroy_first.new.self (destroyed c) c.lose_carried.new.world (lost c)) ∙ c.loop-port.invariant.2,
)

pub returns-clause-empties : goal.returns-clause-empties
returns-clause-empties c = subst (λ (w : WorldView). Empties c.args.world.now c.args.port c.loop-port.turns w) (sym c.loop-port-test.ensures.1) c.loop-port.invariant.0

pub returns-clause-spaces : goal.returns-clause-spaces
returns-clause-spaces c = ap (λ (w : WorldView). w.spaces) c.loop-port-test.ensures.1 ∙ c.loop-port.invariant.2
