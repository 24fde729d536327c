use Rattle.std.proofs.Common.{◌≢◌, ℕ, List, Contains}
use Rattle.member_lists.specs.Lists.{list_of}
use Rattle.shared_lists.specs.Places.{list_at}
use Rattle.shared_lists.proofs.Walk.{IsAt, left_from}
use Rattle.shared_lists.proofs.find.Given as goal

abbrev pub invariant-loop-next : goal.invariant-loop-next
invariant-loop-next l = record {
  front : List ℕ;
  back : List ℕ;
  at : IsAt (list_of l.keys l.item) l.next front back;
  none : (k : ℕ) → Contains front k → list_at l.further k ≢ l.list;
}

abbrev pub decreases-loop-next : goal.decreases-loop-next
decreases-loop-next l = left_from (list_of l.keys l.item) l.next
