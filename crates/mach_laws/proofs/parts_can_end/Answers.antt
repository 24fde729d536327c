use Rattle.mach_model.proofs.StepLawful.{Run-lawful}
use Rattle.mach_model.proofs.EndingLawful.{EndsTask-mid, DestroysFront-mid}
use Rattle.mach_model.proofs.LosingLawful.{Requests-mid}
use Rattle.mach_model.proofs.SettledEnd.{can_end}
use Rattle.mach_model.proofs.SettledLawful.{settled_lawful}
use Rattle.mach_laws.proofs.parts_can_end.Goals as goal

pub returns-clause-task : goal.returns-clause-task
returns-clause-task c = λ profile events replies s run task mid owed. EndsTask-mid task s mid owed (Run-lawful profile events replies s run)

pub returns-clause-message : goal.returns-clause-message
returns-clause-message c = λ profile events replies s run port e mid owed. DestroysFront-mid port e s mid owed (Run-lawful profile events replies s run)

pub returns-clause-request : goal.returns-clause-request
returns-clause-request c = λ profile events replies s run task name variant sync notify number previous mid owed.
    Requests-mid task name variant sync notify number previous s mid owed (Run-lawful profile events replies s run)

pub returns-clause-ends : goal.returns-clause-ends
returns-clause-ends c = can_end

pub returns-clause-lawful : goal.returns-clause-lawful
returns-clause-lawful c = settled_lawful
