use Rattle.std.proofs.Common.{◌≡◌, ◌+◌, ◌*◌, ◌<◌, ◌≤◌, ℕ, None}
use Rattle.name_space_base.specs.Sound.{look}
use Rattle.name_space_base.proofs.Pages.next_used.Given as goal

abbrev pub invariant-loop-page : goal.invariant-loop-page
invariant-loop-page g l = record {
  place : l.place < 256;
  start : l.from ≤ 256 * l.page + l.place;
  free : (n : ℕ) → l.from ≤ n → n < 256 * l.page + l.place → look l.self-inside.pages.items n ≡ None;
}
