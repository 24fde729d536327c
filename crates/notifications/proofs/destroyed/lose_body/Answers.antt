use Rattle.std.proofs.Common.{refl, sym, subst, ◌∙◌, arith, List}
use Rattle.mach_types.specs.Numbers.{kind_sent}
use Rattle.copyin_base.specs.declared.Carried.{Carried}
use Rattle.notifications.specs.Destroying.{LosesMark, LosesAll}
use Rattle.std.proofs.lemmas.List.{take_all}
use Rattle.notifications.proofs.MessageRights.{can_next, lost_next, none_past}
use Rattle.notifications.proofs.destroyed.lose_body.Goals as goal
use Rattle.notifications.proofs.destroyed.lose_body.Goals.{in-Some, in-None}

pub loop-place-init : goal.loop-place-init
loop-place-init c = refl

pub lose_right-requires : goal.lose_right-requires
lose_right-requires c = can_next c.args.world.now c.args.queued.now.rights c.requires c.loop-place.place c.loop-place.world c.loop-place.invariant c.in-Some.carried (sym c.right_at.ensures ∙ c.in-Some.is)

pub loop-place-preserved : goal.loop-place-preserved
loop-place-preserved c = elim c.match-right_at.branch [
  | in-Some w ↦ lost_next c.args.world.now c.args.queued.now.rights c.requires c.loop-place.place c.loop-place.world c.loop-place.invariant w.in-Some.carried (sym c.right_at.ensures ∙ w.in-Some.is) c.match-right_at.world (subst (λ v. LosesMark c.loop-place.world (kind_sent w.in-Some.carried.given) w.in-Some.carried.mark v) (sym w.world-is) w.lose_right.ensures)
  | in-None w ↦ absurd (none_past c.args.queued.now.rights c.loop-place.place (let a = c.loop-place-test.true in let e = c.count_rights-place-end.ensures in omega (arith, a, e)) (sym c.right_at.ensures ∙ w.in-None.is))
]

pub returns : goal.returns
returns c = subst (λ (cs : List Carried). LosesAll c.args.world.now cs c.loop-place.world)
    (take_all c.loop-place.place c.args.queued.now.rights (let a = c.loop-place-test.false in let e = c.count_rights-place-end.ensures in omega (arith, a, e))) c.loop-place.invariant
