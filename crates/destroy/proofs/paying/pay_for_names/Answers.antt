use Rattle.std.proofs.Common.{refl, ap, ◌∙◌}
use Rattle.copyin_base.specs.Worlds.{WorldView}
use Rattle.destroy.proofs.PayTurns.{pays_first, can_pay, pays_more, pays_last}
use Rattle.copyin_base.specs.declared.Notice.TheVariants.{PortDeleted}
use Rattle.destroy.proofs.RequestEnds.{lives_or_not}
use Rattle.destroy.proofs.Rooms.{pays_spaces}
use Rattle.destroy.proofs.paying.pay_for_names.Goals as goal

pub loop-request-init : goal.loop-request-init
loop-request-init c = (pays_first c.args.world.now c.requires.doomed c.requires.lost, refl)

pub pay-requires : goal.pay-requires
pay-requires c = can_pay c.args.world.now c.loop-request.world c.take_went.new.self c.loop-request.invariant.0 c.in-Some.request c.in-Some.ensures.some c.requires.midway

pub loop-request-preserved : goal.loop-request-preserved
loop-request-preserved c = (
  pays_more c.args.world.now c.loop-request.world c.take_went.new.self c.loop-request.invariant.0 c.in-Some.request c.in-Some.ensures.some c.pay.new.world c.pay.ensures.pays,
  pays_spaces c.take_went.new.self c.in-Some.request.notify (PortDeleted c.in-Some.request.name) c.pay.new.world c.pay.ensures.pays (lives_or_not c.take_went.new.self c.in-Some.request.notify)
      ∙ ap (λ (w : WorldView). w.spaces) c.in-Some.ensures.some.rest ∙ c.loop-request.invariant.1,
)

pub returns-clause-starts : goal.returns-clause-starts
returns-clause-starts c = pays_last c.args.world.now c.loop-request.world c.take_went.new.self c.loop-request.invariant.0 c.in_default.ensures.none

pub returns-clause-spaces : goal.returns-clause-spaces
returns-clause-spaces c = ap (λ (w : WorldView). w.spaces) c.in_default.ensures.none.1 ∙ c.loop-request.invariant.1
