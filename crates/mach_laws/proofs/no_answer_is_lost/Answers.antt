use Rattle.std.proofs.Common.{length}
use Rattle.mach_model.proofs.StepLawful.{Run-lawful, Does-mid}
use Rattle.mach_model.proofs.SettledOnce.{once_kept}
use Rattle.mach_laws.proofs.no_answer_is_lost.Goals as goal

pub returns : goal.returns
returns c = λ profile events replies s run event reply new done p live. once_kept (length events) s done.mid done.owed new
    (Does-mid (length events) s event reply done.mid done.owed done.unrefused done.does done.judged (Run-lawful profile events replies s run)) done.settles p live
