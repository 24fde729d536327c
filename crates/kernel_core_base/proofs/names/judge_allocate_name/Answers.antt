use Rattle.kernel_core_base.proofs.names.judge_allocate_name.Goals as goal

pub returns-clause-made : goal.returns-clause-made
returns-clause-made c = record { number_is = c.in_ok-made.ensures.ok; room = c.is_full.ensures.room c.if-is_full.false }
