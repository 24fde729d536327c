use Rattle.std.proofs.Common.{◌≡◌, ◌≤◌, ◌∷◌, [], None, IfSome, IfNone, length}
use Rattle.member_lists.specs.Lists.{IsApart}
use Rattle.shared_lists.specs.Shared.{IsFirst, IsReady, more_of, left_each, with_first, OthersKeep}
use Rattle.shared_lists.proofs.Leaving.{bare}
use Rattle.shared_lists.proofs.SharedLists.leave_all.Given as goal

abbrev pub invariant-loop-first : goal.invariant-loop-first
invariant-loop-first l = record {
  after : bare (left_each l.self (with_first l.first (more_of l.self l.item)) l.item l.is_ready) ≡ bare (left_each l.fn.self (l.own ∷ more_of l.fn.self l.item) l.item l.is_ready);
  first : IfSome l.first (λ first. IsFirst l.self first l.item);
  apart : IfNone l.first (IsApart l.self.all l.item);
  none : l.first ≡ None → more_of l.self l.item ≡ [];
  ready : IsReady l.self l.item l.is_ready;
  others : OthersKeep l.fn.self l.self l.item;
  room : l.fn.self.room ≤ l.self.room;
}

abbrev pub decreases-loop-first : goal.decreases-loop-first
decreases-loop-first l = length (with_first l.first (more_of l.self l.item))
