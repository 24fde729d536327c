use Rattle.kernel_core_base.proofs.references.set_references.Goals as goal

pub returns : goal.returns
returns c = record { counted = c.count_references.new.world; counts = c.count_references.ensures; notes = c.note_fewer.ensures }
