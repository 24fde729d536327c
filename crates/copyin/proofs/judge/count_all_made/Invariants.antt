use Rattle.std.proofs.Common.{◌≡◌, ◌≤◌, ◌+◌, drop}
use Rattle.copyin.specs.Judging.{made_by_all}
use Rattle.copyin.proofs.judge.count_all_made.Given as goal

abbrev pub invariant-loop-carried : goal.invariant-loop-carried
invariant-loop-carried l = record {
  few : l.made ≤ l.carried-index;
  rest : l.made + made_by_all (drop l.carried-index l.rights) ≡ made_by_all l.rights;
}
