use Rattle.std.proofs.Common.{Option, Some, None, sym, ap, ◌∙◌, slice_index_or}
use Rattle.member_lists.proofs.Times.{none_some}
use Rattle.shared_lists.proofs.Fresh.{shared_none, seen_none}
use Rattle.shared_lists.proofs.SharedLists.new.Goals as goal

pub invariant_of-result : goal.invariant_of-result
invariant_of-result c = (rw c.new-4.ensures.items (shared_none c.args.several c.new.result c.new-2.result c.new-3.result c.new.ensures c.new-2.ensures.empty c.new-2.ensures.capacity c.new-3.ensures), λ k f at. absurd (none_some f (sym (ap (λ xs. slice_index_or xs k None) c.new-2.ensures.empty) ∙ at)))

pub returns : goal.returns
returns c = rw c.new-4.ensures.items (seen_none c.args.several c.new.result c.new-2.result c.new-3.result c.new.ensures c.new-2.ensures.empty c.new-2.ensures.capacity c.new-3.ensures)
