use Rattle.mach_model.proofs.StepLawful.{Run-lawful}
use Rattle.mach_laws.proofs.one_receive_right.Goals as goal

pub returns : goal.returns
returns c = λ profile events replies s run. (Run-lawful profile events replies s run).one_receive
