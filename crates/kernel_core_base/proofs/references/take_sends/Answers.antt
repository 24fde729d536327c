use Rattle.std.proofs.Common.{ap, arith}
use Rattle.rights.specs.Ledger.{LedgerView}
use Rattle.kernel_core_base.proofs.ReferencesLost.{none_taken}
use Rattle.kernel_core_base.proofs.references.take_sends.Goals as goal

pub returns-else-gone-gt0 : goal.returns-else-gone-gt0
returns-else-gone-gt0 c =
    ap (λ (l : LedgerView). record c.args.world.now { ledger = l }) (none_taken c.args.world.now.ledger c.args.port c.args.gone c.requires.entered (omega (arith, c.if-gone-gt0.false)))
