use Rattle.std.proofs.Common.{length}
use Rattle.mach_model.proofs.StepLawful.{Run-lawful}
use Rattle.mach_laws.proofs.NoticeMeans.{notice_is_meant}
use Rattle.mach_laws.proofs.notice_means.Goals as goal

pub returns : goal.returns
returns c = λ profile events replies s run event reply new done x posted. notice_is_meant (length events) s event reply new (Run-lawful profile events replies s run) done x posted
