-- What contracts see of a ledger: the counts of each port, the total, and the send-once rights that no queued message goes by.
use Rattle.std.specs.Prelude.{◌≡◌, ℕ, ◌+◌, ◌-◌, refl, true}
use Rattle.std.specs.Option.{unwrap_or}
use Rattle.std.specs.Coded.{Coded, code_by, coded×, coded_ℕ}
use Rattle.std.specs.FinMap as map
use Rattle.std.specs.Ordering.{nat_cmp}
use Rattle.rights.specs.declared.Counts.{Counts}
use Rattle.rights.specs.declared.RightKind.{RightKind}
use Rattle.rights.specs.Counts.{no_rights, with_more, with_fewer, one_shifted, unused_of, all_of}

pub record LedgerView : Type 0 where
  pub counts : map.FinMap nat_cmp Counts
  pub total : ℕ
  pub unused : ℕ

abbrev pub ledger_code : Coded Counts → Coded LedgerView
ledger_code code =
    code_by
    (map.FinMap nat_cmp Counts × (ℕ × ℕ))
    (coded× (map.code coded_ℕ code) (coded× coded_ℕ coded_ℕ))
    (λ l. (l.counts, (l.total, l.unused)))
    (λ p. record { counts = p.0; total = p.1.0; unused = p.1.1 })
    (λ _. refl)

abbrev pub IsEntered : LedgerView → ℕ → Type 0
IsEntered l port = map.contains_key l.counts port ≡ true

-- the port's counts; of one that was not entered, none
abbrev pub counts_of : LedgerView → ℕ → Counts
counts_of l port = unwrap_or (map.get l.counts port) no_rights

-- ---- the ledger after a change, in which each other count stays

abbrev pub entered : LedgerView → ℕ → LedgerView
entered l port = record l { counts = map.insert l.counts port no_rights }

abbrev pub made : LedgerView → (port : ℕ) → RightKind → ℕ → LedgerView
made l port kind n = record {
  counts = map.insert l.counts port (with_more kind n (counts_of l port));
  total = l.total + n;
  unused = l.unused + unused_of kind n;
}

abbrev pub taken : LedgerView → (port : ℕ) → RightKind → ℕ → LedgerView
taken l port kind n = record {
  counts = map.insert l.counts port (with_fewer kind n (counts_of l port));
  total = l.total - n;
  unused = l.unused - unused_of kind n;
}

-- a send-once right of the port is one that a queued message goes by
abbrev pub shifted : LedgerView → (port : ℕ) → LedgerView
shifted l port = record l {
  counts = map.insert l.counts port (one_shifted (counts_of l port));
  unused = l.unused - 1;
}

-- the port and all its rights are gone
abbrev pub left : LedgerView → ℕ → LedgerView
left l port = record {
  counts = map.remove l.counts port;
  total = l.total - all_of (counts_of l port);
  unused = l.unused - (counts_of l port).send_once;
}
