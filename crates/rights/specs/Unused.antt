-- What a ledger's number of unused send-once rights is, port by port.
use Rattle.std.specs.Prelude.{◌≡◌}
use Rattle.std.specs.List.{sum_by}
use Rattle.std.specs.FinMap as map
use Rattle.rights.specs.Ledger.{LedgerView}

-- It is the sum over all ports.
abbrev pub IsUnusedOfAll : LedgerView → Type 0
IsUnusedOfAll l = sum_by (λ c. c.send_once) (map.values l.counts) ≡ l.unused
