use Rattle.std.proofs.Common.{length}
use Rattle.mach_model.proofs.StepLawful.{Run-lawful}
use Rattle.mach_laws.proofs.Leaving.{onces_leave, senders_leave}
use Rattle.mach_laws.proofs.rights_leave_by_these.Goals as goal

pub returns-clause-once : goal.returns-clause-once
returns-clause-once c = λ profile events replies s run event reply new done p live. onces_leave (length events) s event reply new (Run-lawful profile events replies s run) done p live

pub returns-clause-send : goal.returns-clause-send
returns-clause-send c = λ profile events replies s run event reply new done p live. senders_leave (length events) s event reply new (Run-lawful profile events replies s run) done p live
