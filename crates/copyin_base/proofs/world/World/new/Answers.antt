use Rattle.std.proofs.Common.{sym, subst}
use Rattle.rights.specs.declared.Ledger.{Ledger}
use Rattle.rights.specs.Counted.{IsCounted}
use Rattle.rights.proofs.Found.{counted-empty}
use Rattle.copyin_base.specs.Reading.{AreGiven}
use Rattle.copyin_base.proofs.Reading.{given_none}
use Rattle.copyin_base.proofs.world.World.new.Goals as goal

pub invariant_of-result : goal.invariant_of-result
invariant_of-result c = (
  subst (λ xs. AreGiven xs c.new-2.result.bare) (sym c.new.ensures.items) (subst (AreGiven _) (sym c.new-2.ensures.after) given_none),
  subst (λ (l : Ledger). IsCounted c.new-2.result.counts l.total l.unused) (sym c.new-3.ensures) (counted-empty c.new-2.result.counts c.new-2.ensures.counts),
)
