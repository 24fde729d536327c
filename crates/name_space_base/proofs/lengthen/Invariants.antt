use Rattle.std.proofs.Common.{◌≡◌, ◌≤◌, ℕ, max, length}
use Rattle.name_space_base.specs.Sound.{page_at}
use Rattle.name_space_base.proofs.lengthen.Given as goal

abbrev pub invariant-loop-known : goal.invariant-loop-known
invariant-loop-known g l = record {
  same : (page : ℕ) → page_at l.pages.items page ≡ page_at l.initial.pages.items page;
  long : length l.pages.items ≡ l._known;
  few : length l.pages.items ≤ max (length l.initial.pages.items) l.count;
}
