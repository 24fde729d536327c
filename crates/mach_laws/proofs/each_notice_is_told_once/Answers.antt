use Rattle.std.proofs.Common.{length}
use Rattle.mach_model.proofs.StepLawful.{Run-lawful, Does-mid}
use Rattle.mach_model.proofs.SettledLawful.{told_weight}
use Rattle.mach_laws.proofs.each_notice_is_told_once.Goals as goal

pub returns : goal.returns
returns c = λ profile events replies s run event reply new done. record {
  told = λ p. (done.settles.notices.logs p).0;
  logs = λ p. (done.settles.notices.logs p).1;
  each = λ p g. told_weight (length events) s done.mid done.owed new
      (Does-mid (length events) s event reply done.mid done.owed done.unrefused done.does done.judged (Run-lawful profile events replies s run)) done.settles p g;
}
