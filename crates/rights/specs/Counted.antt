-- How a ledger keeps its counts. No public clause cites this module.
use Rattle.std.specs.Prelude.{◌≡◌, ℕ}
use Rattle.std.specs.List.{sum_by}
use Rattle.std.specs.FinMap as map
use Rattle.std.specs.Ordering.{nat_cmp}
use Rattle.rights.specs.declared.Counts.{Counts}
use Rattle.rights.specs.Counts.{all_of}

pub record IsCounted (counts : map.FinMap nat_cmp Counts) (total unused : ℕ) : Type 0 where
  pub all_counted : sum_by all_of (map.values counts) ≡ total
  pub once_counted : sum_by (λ c. c.send_once) (map.values counts) ≡ unused
