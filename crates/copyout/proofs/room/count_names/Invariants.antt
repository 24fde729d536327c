use Rattle.std.proofs.Common.{ℕ, ◌+◌, ◌≤◌, ◌<◌, [], ◌++◌, take, drop, length}
use Rattle.std.specs.Option.{option_to_list}
use Rattle.copyout.specs.Room.{Needs, Marks}
use Rattle.copyout.proofs.room.count_names.Given as goal

abbrev pub invariant-loop-i : goal.invariant-loop-i
invariant-loop-i l = record {
  few : l.count ≤ l.i + 1;
  some : 0 < length l.marks;
  marked : Marks l.marks l.space.names (option_to_list l.reply ++ take l.i l.rights);
  needs : (m : ℕ) → Needs l.world.ports l.space.names (option_to_list l.reply ++ take l.i l.rights) (drop l.i l.rights) m → Needs l.world.ports l.space.names [] (option_to_list l.reply ++ l.rights) (l.count + m);
}
