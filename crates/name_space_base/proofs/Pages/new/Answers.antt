use Rattle.name_space_base.proofs.Held.{sound-none, values-none, made-none}
use Rattle.name_space_base.proofs.Pages.new.Goals as goal

pub invariant_of-result : goal.invariant_of-result
invariant_of-result g c = sound-none c.new.result.items c.new-2.result.words c.new.ensures.items c.new-2.ensures

pub returns-clause-values : goal.returns-clause-values
returns-clause-values g c = values-none c.new.result.items c.new.ensures.items

pub returns-clause-made : goal.returns-clause-made
returns-clause-made g c = made-none c.new.result.items c.new.ensures.items
