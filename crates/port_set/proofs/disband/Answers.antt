use Rattle.std.proofs.Common.{refl, sym, ◌∙◌}
use Rattle.port_set.proofs.Disbanding.{none_left, left_next, left_last}
use Rattle.port_set.proofs.disband.Goals as goal

pub loop-set-init : goal.loop-set-init
loop-set-init g c = (none_left c.args.ports.now.bare c.args.set, refl)

pub loop-set-preserved : goal.loop-set-preserved
loop-set-preserved g c = ((left_next c.args.ports.now.bare c.loop-set.ports.bare c.leave_front.new.self.bare c.args.set c.leave_front.result c.leave_front.ensures.some c.leave_front.ensures.left (sym c.is_some.ensures ∙ (assumption)) c.loop-set.invariant.0).0, c.leave_front.ensures.counts ∙ c.loop-set.invariant.1)

pub loop-set-smaller : goal.loop-set-smaller
loop-set-smaller g c = (left_next c.args.ports.now.bare c.loop-set.ports.bare c.leave_front.new.self.bare c.args.set c.leave_front.result c.leave_front.ensures.some c.leave_front.ensures.left (sym c.is_some.ensures ∙ (assumption)) c.loop-set.invariant.0).1

pub returns-clause-after : goal.returns-clause-after
returns-clause-after g c = left_last c.args.ports.now.bare c.loop-set.ports.bare c.leave_front.new.self.bare c.args.set c.leave_front.result c.leave_front.ensures.none (sym c.is_some.ensures ∙ (assumption)) c.loop-set.invariant.0

pub returns-clause-counts : goal.returns-clause-counts
returns-clause-counts g c = c.leave_front.ensures.counts ∙ c.loop-set.invariant.1
