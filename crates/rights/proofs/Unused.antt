-- The unused send-once rights of a port are among those of all.
use Rattle.std.proofs.Common.{◌≡◌, ℕ, ◌≤◌, Option, Some, None, refl, arith}
use Rattle.std.specs.Option.{unwrap_or}
use Rattle.std.specs.FinMap as map
use Rattle.rights.specs.declared.Counts.{Counts}
use Rattle.rights.specs.Counts.{no_rights}
use Rattle.rights.specs.Ledger.{LedgerView, counts_of}
use Rattle.rights.specs.Unused.{IsUnusedOfAll}
use Rattle.rights.proofs.Sums.{sum-remove}

pub once_among : (l : LedgerView) → IsUnusedOfAll l → (port : ℕ) → (counts_of l port).send_once ≤ l.unused
once_among l all port = among (map.get l.counts port) refl
  where
    among : (o : Option Counts) → map.get l.counts port ≡ o → (unwrap_or o no_rights).send_once ≤ l.unused
    among None is = omega arith
    among (Some c) is = let rest = sum-remove l.counts port (λ x. x.send_once) c is in omega (arith, rest, all)
