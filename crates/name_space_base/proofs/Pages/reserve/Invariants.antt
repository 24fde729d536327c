use Rattle.std.proofs.Common.{◌≡◌, ◌-◌, ◌<◌, ℕ, length}
use Rattle.name_space_base.specs.Sound.{page_at, values_of, IsSound}
use Rattle.name_space_base.proofs.Pages.reserve.Given as goal

abbrev pub invariant-loop-self : goal.invariant-loop-self
invariant-loop-self g l = record {
  sound : IsSound l.self-inside.pages.items l.self-inside.full.words l.self-inside.len l.self-inside.front l.self-inside.front_free l.self-inside.room;
  values : values_of l.self-inside.pages.items ≡ values_of l.initial.self-inside.pages.items;
  made : (page : ℕ) → 0 < length (page_at l.initial.self-inside.pages.items page) → 0 < length (page_at l.self-inside.pages.items page);
  room : l.self-inside.room ≡ l.initial.self-inside.room;
}

abbrev pub decreases-loop-self : goal.decreases-loop-self
decreases-loop-self g l = 256 - l.self-inside.front
