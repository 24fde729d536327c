use Rattle.std.proofs.Common.{◌≡◌, ℕ, List, Contains}
use Rattle.member_lists.specs.Lists.{list_of, IsApart}
use Rattle.shared_lists.specs.Places.{far}
use Rattle.shared_lists.specs.Marked.{joined_far}
use Rattle.shared_lists.proofs.Walk.{IsAt, left_from}
use Rattle.shared_lists.proofs.mark_each.Given as goal

abbrev pub invariant-loop-next : goal.invariant-loop-next
invariant-loop-next l = record {
  front : List ℕ;
  back : List ℕ;
  at : IsAt (list_of l.keys l.item) l.next front back;
  marked : joined_far l.places.marked l.further back ≡ joined_far l.fn.places.marked l.further (list_of l.keys l.item);
  all : l.places.all ≡ l.fn.places.all;
  left : (k : ℕ) → Contains back k → IsApart l.places.marked (far k);
}

abbrev pub decreases-loop-next : goal.decreases-loop-next
decreases-loop-next l = left_from (list_of l.keys l.item) l.next
