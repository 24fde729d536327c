use Rattle.std.proofs.Common.{refl}
use Rattle.name_space.proofs.Tables.{none_high, laid_empty, joined_empty, same_space}
use Rattle.name_space.proofs.plain.Plain.new.Goals as goal

pub invariant_of-result : goal.invariant_of-result
invariant_of-result c = laid_empty c.new.result c.new-2.result c.new.ensures.values (none_high c.new-2.result c.new-2.ensures)

pub returns : goal.returns
returns c = same_space _ _ 0 0 _ _ (joined_empty c.new.result.values c.new-2.result.names c.new.ensures.values (none_high c.new-2.result c.new-2.ensures)) refl refl
