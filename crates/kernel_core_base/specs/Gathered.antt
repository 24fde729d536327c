-- How the names of a set's members are gathered. No public clause cites this module.
use Rattle.std.specs.Prelude.{◌≡◌, ◌⊎◌, ℕ, true, List, Option, Some}
use Rattle.std.specs.List.{Contains}
use Rattle.std.specs.BTreeSet.{BTreeSet, contains, IsOrdered}
use Rattle.std.specs.FinMap as map
use Rattle.std.specs.Ordering.{nat_cmp}
use Rattle.name_space.specs.Names.{Names, port_at}
use Rattle.copyin_base.specs.Worlds.{WorldView}
use Rattle.kernel_core_base.specs.Sets.{is_member}

-- the numbers are now those of before and this name, if there is one
pub record IsNoted (old new : BTreeSet ℕ) (name : Option ℕ) : Type 0 where
  pub ordered : IsOrdered nat_cmp new
  pub only : (n : ℕ) → contains nat_cmp new n ≡ true → (contains nat_cmp old n ≡ true) ⊎ (name ≡ Some n)
  pub kept : (n : ℕ) → contains nat_cmp old n ≡ true → contains nat_cmp new n ≡ true
  pub has : (n : ℕ) → name ≡ Some n → contains nat_cmp new n ≡ true

-- the numbers are members' names, and the name of each of these ports is among them that is a member's
pub record AreGathered (w : WorldView) (set : ℕ) (names : Names) (ports : List ℕ) (numbers : BTreeSet ℕ) : Type 0 where
  pub ordered : IsOrdered nat_cmp numbers
  pub only : (n : ℕ) → contains nat_cmp numbers n ≡ true → is_member w set (map.get names n) ≡ true
  pub all : (p n : ℕ) → Contains ports p → port_at names n ≡ Some p → is_member w set (map.get names n) ≡ true → contains nat_cmp numbers n ≡ true
