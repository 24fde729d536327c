use Rattle.std.proofs.Common.{◌≡◌, ℕ, List, Contains}
use Rattle.member_lists.specs.Lists.{list_of}
use Rattle.shared_lists.specs.Places.{far, list_at}
use Rattle.shared_lists.specs.Marked.{parted_far}
use Rattle.shared_lists.proofs.Walk.{IsAt, left_from}
use Rattle.shared_lists.proofs.unmark_each.Given as goal

abbrev pub invariant-loop-next : goal.invariant-loop-next
invariant-loop-next l = record {
  front : List ℕ;
  back : List ℕ;
  at : IsAt (list_of l.keys l.item) l.next front back;
  marked : parted_far l.places.marked l.further back ≡ parted_far l.fn.places.marked l.further (list_of l.keys l.item);
  all : l.places.all ≡ l.fn.places.all;
  left : (k : ℕ) → Contains back k → Contains (list_of l.places.marked (list_at l.further k)) (far k);
}

abbrev pub decreases-loop-next : goal.decreases-loop-next
decreases-loop-next l = left_from (list_of l.keys l.item) l.next
