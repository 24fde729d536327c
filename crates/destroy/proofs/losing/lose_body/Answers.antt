use Rattle.std.proofs.Common.{◌≡◌, ◌+◌, List, [], ◌∷◌, drop, subst, ◌∙◌}
use Rattle.copyin_base.specs.declared.Carried.{Carried}
use Rattle.destroy.specs.Losing.{LosesTo}
use Rattle.destroy.proofs.LoseRights.{next_item, no_item, can_next, loses_one}
use Rattle.destroy.proofs.BurySteps.{loses_spaces}
use Rattle.destroy.proofs.losing.lose_body.Goals as goal

pub lose_right-requires : goal.lose_right-requires
lose_right-requires c =
    let i = c.loop-carried.carried-index in
    let e : drop i c.args.rights.now ≡ c.carried-item.result ∷ drop (i + 1) c.args.rights.now = next_item c.args.rights.now i c.carried-item.result c.loop-carried-test.true c.carried-item.is in
    can_next c.args.rights.now (drop (i + 1) c.args.rights.now) c.carried-item.result c.args.world.now c.loop-carried.turns c.loop-carried.world
    (subst (λ (cs : List Carried). LosesTo c.args.rights.now cs c.args.world.now c.loop-carried.turns c.loop-carried.world) e c.loop-carried.invariant.0) c.requires

pub loop-carried-preserved : goal.loop-carried-preserved
loop-carried-preserved c =
    let i = c.loop-carried.carried-index in
    let e : drop i c.args.rights.now ≡ c.carried-item.result ∷ drop (i + 1) c.args.rights.now = next_item c.args.rights.now i c.carried-item.result c.loop-carried-test.true c.carried-item.is in (
      loses_one c.args.rights.now (drop (i + 1) c.args.rights.now) c.carried-item.result c.args.world.now c.loop-carried.turns c.loop-carried.world c.lose_right.result c.lose_right.new.world
          (subst (λ (cs : List Carried). LosesTo c.args.rights.now cs c.args.world.now c.loop-carried.turns c.loop-carried.world) e c.loop-carried.invariant.0) c.lose_right.ensures _ c.saturating_add-turns.ensures,
      loses_spaces c.loop-carried.world c.carried-item.result c.lose_right.result c.lose_right.new.world c.lose_right.ensures ∙ c.loop-carried.invariant.1,
    )

pub returns-clause-loses : goal.returns-clause-loses
returns-clause-loses c =
    let i = c.loop-carried.carried-index in
    let e : drop i c.args.rights.now ≡ [] = no_item c.args.rights.now i c.loop-carried-test.false in
    subst (λ (cs : List Carried). LosesTo c.args.rights.now cs c.args.world.now c.loop-carried.turns c.loop-carried.world) e c.loop-carried.invariant.0
