use Rattle.std.proofs.Common.{◌∙◌, ap, arith}
use Rattle.port_base.specs.Memberships.{membership_in}
use Rattle.copyin_base.specs.Worlds.{sets_at}
use Rattle.copyin_base.proofs.InSets.{in_none, membership_at}
use Rattle.kernel_core_base.proofs.Members.{not_in_set, may_leave}
use Rattle.kernel_core_base.proofs.sets.judge_leaving.Goals as goal

pub returns-in-Nowhere-clause-err : goal.returns-in-Nowhere-clause-err
returns-in-Nowhere-clause-err c =
    let told = membership_at c.args.world.now c.in_ok-port.port c.membership.result c.membership.ensures.live c.membership.ensures.gone in
    not_in_set c.args.world.now c.args.task c.args.member c.in_ok-port.port c.in_ok-port.ensures.ok (in_none (sets_at c.args.world.now c.in_ok-port.port) c.membership.result told c.in-Nowhere.is)

pub returns-in-Alone-clause-ok : goal.returns-in-Alone-clause-ok
returns-in-Alone-clause-ok c =
    let told = membership_at c.args.world.now c.in_ok-port.port c.membership.result c.membership.ensures.live c.membership.ensures.gone in
    may_leave c.args.world.now c.args.task c.args.member c.in_ok-port.port c.in_ok-port.ensures.ok (λ none. grind (arith, told ∙ ap membership_in none, c.in-Alone.is))
