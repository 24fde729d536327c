use Rattle.std.proofs.Common.{length}
use Rattle.mach_model.proofs.StepLawful.{Run-lawful, Does-mid}
use Rattle.mach_model.proofs.SettledDetermined.{determined}
use Rattle.mach_laws.proofs.ends_are_fixed.Goals as goal

pub returns : goal.returns
returns c = λ profile events replies s run event reply a b x y. determined (length events) s x.mid x.owed a b
    (Does-mid (length events) s event reply x.mid x.owed x.unrefused x.does x.judged (Run-lawful profile events replies s run)) x.settles y
