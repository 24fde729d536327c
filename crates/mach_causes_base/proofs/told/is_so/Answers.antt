use Rattle.mach_causes_base.proofs.Tables.{told}
use Rattle.mach_causes_base.proofs.told.is_so.Goals as goal

pub returns-then-suits-clause-holds : goal.returns-then-suits-clause-holds
returns-then-suits-clause-holds c s shown so = told c.args.world.now s shown c.args.cause.now.reason (c.is_true.ensures so)
