use Rattle.std.proofs.Common.{length}
use Rattle.mach_model.proofs.StepLawful.{Run-lawful}
use Rattle.mach_laws.proofs.Deciding.{one_reply}
use Rattle.mach_laws.proofs.one_answer.Goals as goal

pub returns : goal.returns
returns c = λ profile events replies s run event a b new other. one_reply (length events) s event a b new other (Run-lawful profile events replies s run)
