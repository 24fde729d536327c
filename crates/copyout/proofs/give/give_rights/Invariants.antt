use Rattle.std.proofs.Common.{ℕ, ◌≤◌, ◌+◌, List, ◌++◌, length, drop}
use Rattle.copyin_base.specs.Worlds.{WorldView}
use Rattle.copyout.specs.Giving.{GivesAll}
use Rattle.copyout.specs.Ready.{CanGive}
use Rattle.copyout.proofs.give.give_rights.Given as goal

abbrev pub invariant-loop-carried : goal.invariant-loop-carried
invariant-loop-carried l = record {
  can : CanGive l.world l.task (drop l.carried-index l.rights);
  room : length l.names.items + length (drop l.carried-index l.rights) ≤ l.names.capacity;
  gives : (more : List ℕ) (new : WorldView) → GivesAll l.world l.task (drop l.carried-index l.rights) more new → GivesAll l.initial.world l.task l.rights (l.names.items ++ more) new;
}
