use Rattle.mach_model.proofs.TurnsBounded.{turns_end}
use Rattle.mach_model.proofs.TurnsSettle.{end_of}
use Rattle.mach_laws.proofs.turns_end_a_step.Goals as goal

pub returns : goal.returns
returns c = λ now old mid owed e lawful reached done.
    let ends = turns_end now old mid owed e lawful reached done in (end_of now mid e, ends.0, ends.1, ends.2, ends.3)
