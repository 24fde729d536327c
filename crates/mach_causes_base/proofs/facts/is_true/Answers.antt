use Rattle.mach_causes_base.proofs.facts.is_true.Goals as goal

pub returns-else-is_true_of_name : goal.returns-else-is_true_of_name
returns-else-is_true_of_name c = c.is_true_of_numbers.ensures c.args.world.now
