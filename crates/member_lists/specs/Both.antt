-- How the ends of lists, and those of their marked items, stand in one map. No public clause cites this module.
use Rattle.std.specs.Prelude.{◌≡◌, ℕ, Some, None, is_some}
use Rattle.std.specs.FinMap as finite
use Rattle.std.specs.Ordering.{nat_cmp}
use Rattle.member_lists.specs.declared.Ends.{Ends}
use Rattle.member_lists.specs.declared.marked.BothEnds.{BothEnds}
use Rattle.member_lists.specs.Chains.{blank_ends, ends_at}
use Rattle.member_lists.specs.Values.{with_values}

abbrev pub all_ends : finite.FinMap nat_cmp BothEnds → finite.FinMap nat_cmp Ends
all_ends m = with_values (λ b. b.all) m

abbrev pub mark_ends : finite.FinMap nat_cmp BothEnds → finite.FinMap nat_cmp Ends
mark_ends m = with_values (λ b. b.marked) m

-- those of the lists that have marked items
abbrev pub marked_ends : finite.FinMap nat_cmp BothEnds → finite.FinMap nat_cmp Ends
marked_ends m = finite.retain_keys (mark_ends m) (λ list. is_some (ends_at (mark_ends m) list).first)

-- where a list has no first marked item, it has no last one
abbrev pub AreBlank : finite.FinMap nat_cmp BothEnds → Type 0
AreBlank m = (list : ℕ) (b : BothEnds) → finite.get m list ≡ Some b → b.marked.first ≡ None → b.marked ≡ blank_ends
