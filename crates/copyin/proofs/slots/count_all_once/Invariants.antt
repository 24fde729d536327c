use Rattle.std.proofs.Common.{◌≡◌, ◌≤◌, ◌+◌, drop}
use Rattle.copyin.specs.Slots.{once_made_by_all}
use Rattle.copyin.proofs.slots.count_all_once.Given as goal

abbrev pub invariant-loop-carried : goal.invariant-loop-carried
invariant-loop-carried l = record {
  few : l.made ≤ l.carried-index;
  rest : l.made + once_made_by_all (drop l.carried-index l.rights) ≡ once_made_by_all l.rights;
}
