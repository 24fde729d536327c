use Rattle.std.specs.Prelude.{◌≡◌, drop}
use Rattle.destroy.specs.Losing.{LosesTo}
use Rattle.destroy.proofs.losing.lose_body.Given as goal

abbrev pub invariant-loop-carried : goal.invariant-loop-carried
invariant-loop-carried l = LosesTo l.rights (drop l.carried-index l.rights) l.initial.world l.turns l.world × (l.world.spaces ≡ l.initial.world.spaces)
