-- How the ends of two lists are kept, each in a field. No public clause cites this module.
use Rattle.std.specs.Prelude.{◌≡◌, ℕ, Option, Some, None}
use Rattle.std.specs.FinMap as finite
use Rattle.std.specs.Ordering.{nat_cmp}
use Rattle.member_lists.specs.declared.Ends.{Ends}
use Rattle.member_lists.specs.Chains.{blank_ends}

-- how many lists with items the ends with this first item are those of
abbrev pub taken : Option ℕ → ℕ
taken None = 0
taken (Some x) = 1

abbrev pub put_if : Option ℕ → finite.FinMap nat_cmp Ends → ℕ → Ends → finite.FinMap nat_cmp Ends
put_if None m list ends = m
put_if (Some x) m list ends = finite.insert m list ends

-- the map with these ends of a list, where it has items
abbrev pub with_ends : finite.FinMap nat_cmp Ends → ℕ → Ends → finite.FinMap nat_cmp Ends
with_ends m list ends = put_if ends.first m list ends

-- the ends of those of the two lists that have items
abbrev pub both_ends : (of_zero of_one : Ends) → finite.FinMap nat_cmp Ends
both_ends of_zero of_one = with_ends (with_ends finite.empty 0 of_zero) 1 of_one

-- a list without a first item has no last one
pub record AreEnds (of_zero of_one : Ends) : Type 0 where
  pub blank_zero : of_zero.first ≡ None → of_zero ≡ blank_ends
  pub blank_one : of_one.first ≡ None → of_one ≡ blank_ends
