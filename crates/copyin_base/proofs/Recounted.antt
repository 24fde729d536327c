-- The counts of rights in the tables: those of each port, and what there is in all.
use Rattle.std.proofs.Common.{◌≡◌, if◌then◌else◌, Bool, false, slice_get, ℕ, ◌+◌, ◌-◌, ◌<◌, ◌≤◌, ◌∙◌, List, Option, Some, None, Ok, Err, OnErr, is_some, true, refl, ap, sym, subst, arith}
use Rattle.std.specs.Prelude.{Result}
use Rattle.std.specs.Option.{unwrap_or, option_and_then}
use Rattle.std.specs.FinMap as map
use Rattle.std.specs.Ordering.{nat_cmp}
use Rattle.mach_types.specs.declared.profiles.Profile.{Profile}
use Rattle.name_space.specs.Names.{SpaceView}
use Rattle.port.specs.Ports.{PortView, CountedPorts, rights_for, with_rights}
use Rattle.port_set.specs.Sets.{SetsView}
use Rattle.rights.specs.declared.Counts.{Counts}
use Rattle.rights.specs.declared.RightKind.{RightKind}
use Rattle.rights.specs.declared.Ledger.{Ledger}
use Rattle.rights.specs.Counts.{no_rights, all_of, number_of, one_shifted}
use Rattle.rights.specs.Counted.{IsCounted}
use Rattle.rights.specs.Ledger.{LedgerView, IsEntered, counts_of, left, shifted}
use Rattle.rights.proofs.Changing.{counted-shifted, some_unused}
use Rattle.rights.proofs.Found.{lent-within}
use Rattle.tables_base.specs.Kept.{Kept}
use Rattle.request_table.specs.Tables.{RequestTablesView}
use Rattle.copyin_base.specs.Destinations.{destination_right}
use Rattle.copyin_base.specs.Reading.{AreGiven}
use Rattle.copyin_base.specs.Worlds.{WorldView, port_at}
use Rattle.copyin_base.proofs.Written.{tables}

-- what is seen of them
abbrev pub ledger_of : map.FinMap nat_cmp Counts → Ledger → LedgerView
ledger_of counts all = record { counts = counts; total = all.total; unused = all.unused }

-- where the counts stay, so do the sums
pub still_counted : {m n : map.FinMap nat_cmp Counts} {total unused : ℕ} → n ≡ m → IsCounted m total unused → IsCounted n total unused
still_counted {m} {n} {total} {unused} same counted = subst (λ (x : map.FinMap nat_cmp Counts). IsCounted x total unused) (sym same) counted

-- the ports stay where they stay with their counts
pub bare_same : {v w : CountedPorts Kept} → v ≡ w → v.bare ≡ w.bare
bare_same e = ap (λ (x : CountedPorts Kept). x.bare) e

pub bare_if_err : {T E : Type 0} (v w : CountedPorts Kept) (r : Result T E) → OnErr r (v ≡ w) → OnErr r (v.bare ≡ w.bare)
bare_if_err v w (Ok x) same = tt
bare_if_err v w (Err e) same = bare_same same

-- ---- the counts of one port, and the sums, changed

pub ledgers_are : {m n : map.FinMap nat_cmp Counts} {all after : Ledger} → n ≡ m → after ≡ all → ledger_of n after ≡ ledger_of m all
ledgers_are {m} {n} {all} {after} counts sums = ap (λ (x : map.FinMap nat_cmp Counts). ledger_of x after) counts ∙ ap (ledger_of m) sums

pub sums_are : {m n : map.FinMap nat_cmp Counts} {all after : Ledger} → n ≡ m → after ≡ all → IsCounted m all.total all.unused → IsCounted n after.total after.unused
sums_are {m} {n} {all} {after} counts sums counted =
    subst (λ (x : map.FinMap nat_cmp Counts). IsCounted x after.total after.unused) (sym counts) (subst (λ (l : Ledger). IsCounted m l.total l.unused) (sym sums) counted)

pub given_recounted : (spaces : List (Option SpaceView)) (ports : CountedPorts Kept) (p : ℕ) (k : Counts) {new : CountedPorts Kept} → new ≡ with_rights ports p k → AreGiven spaces ports.bare → AreGiven spaces new.bare
given_recounted spaces ports p k is given = subst (AreGiven spaces) (sym (bare_same is)) given

pub counts_put : (ports : CountedPorts Kept) (p : ℕ) (k : Counts) {new : CountedPorts Kept} → new ≡ with_rights ports p k → new.counts ≡ map.insert ports.counts p k
counts_put ports p k is = ap (λ (x : CountedPorts Kept). x.counts) is

-- the ledger without a port
pub gone_ledger : (m : map.FinMap nat_cmp Counts) (all : Ledger) (p : ℕ) (c : Counts) → map.get m p ≡ Some c → {n : map.FinMap nat_cmp Counts} {after : Ledger} → n ≡ map.remove m p → after ≡ record { total = all.total - all_of c; unused = all.unused - c.send_once } →
    ledger_of n after ≡ left (ledger_of m all) p
gone_ledger m all p c found counts sums =
    ledgers_are counts sums
    ∙ ap (λ (k : Counts). let l : LedgerView = record { counts = map.remove m p; total = all.total - all_of k; unused = all.unused - k.send_once } in l) (ap (λ (o : Option Counts). unwrap_or o no_rights) (sym found))

-- a send right was made, where there was room for one
pub sent_ledger : (all after : Ledger) → after ≡ record all { total = all.total + 1 } → after ≡ record { total = all.total + 1; unused = all.unused + 0 }
sent_ledger all after is = let none : all.unused ≡ all.unused + 0 = omega arith in is ∙ ap (λ (unused : ℕ). record all { total = all.total + 1; unused = unused }) none

-- a port with an unused send-once right is there
pub once_entered : (m : map.FinMap nat_cmp Counts) (p : ℕ) → 0 < (unwrap_or (map.get m p) no_rights).send_once → map.contains_key m p ≡ true
once_entered m p = go (map.get m p)
  where
    go : (o : Option Counts) → 0 < (unwrap_or o no_rights).send_once → is_some o ≡ true
    go None some = absurd (omega (arith, some))
    go (Some c) some = refl

-- a send-once right is shifted, or none

module _ (m : map.FinMap nat_cmp Counts) (total unused : ℕ) (counted : IsCounted m total unused) (p : ℕ) where
  -- all rights for a port are within the sum, also where it is gone
  pub within_all : all_of (unwrap_or (map.get m p) no_rights) ≤ total
  within_all = go (map.get m p) refl
    where
      go : (o : Option Counts) → map.get m p ≡ o → all_of (unwrap_or o no_rights) ≤ total
      go None is = omega arith
      go (Some c) is = (lent-within m total unused counted p c is).0

  pub paid_unused : 0 < (unwrap_or (map.get m p) no_rights).send_once → 0 < unused
  paid_unused paid = some_unused m total unused counted p (once_entered m p paid) paid

module _ (m : map.FinMap nat_cmp Counts) (all : Ledger) (p : ℕ) where
  abbrev own : Counts
  own = unwrap_or (map.get m p) no_rights

  pub sums_shifted : (b : Bool) → (b ≡ true → 0 < own.send_once) → {n : map.FinMap nat_cmp Counts} {after : Ledger} → n ≡ (if b then map.insert m p (one_shifted own) else m) → after ≡ (if b then record all { unused = all.unused - 1 } else all) →
      IsCounted m all.total all.unused → IsCounted n after.total after.unused
  sums_shifted true paid counts sums counted = sums_are counts sums (counted-shifted m all.total all.unused counted p (once_entered m p (paid refl)) (paid refl))
  sums_shifted false paid counts sums counted = sums_are counts sums counted

  pub ledger_shifted : (b : Bool) → {n : map.FinMap nat_cmp Counts} {after : Ledger} → n ≡ (if b then map.insert m p (one_shifted own) else m) → after ≡ (if b then record all { unused = all.unused - 1 } else all) →
      ledger_of n after ≡ (if b then shifted (ledger_of m all) p else ledger_of m all)
  ledger_shifted true counts sums = ledgers_are counts sums
  ledger_shifted false counts sums = ledgers_are counts sums

module _ (old : WorldView) {profile : Profile} (spaces : List (Option SpaceView)) (ports : CountedPorts Kept) (all : Ledger) (sets : SetsView) (requests : RequestTablesView)
    (view : tables profile spaces ports.bare (ledger_of ports.counts all) sets requests ≡ old) (p : ℕ) where
  pub is_entered : IsEntered old.ledger p → map.contains_key ports.counts p ≡ true
  is_entered entered = ap (λ (w : WorldView). map.contains_key w.ledger.counts p) view ∙ entered

  -- how many rights there are for the port
  pub own_is : rights_for ports p ≡ counts_of old.ledger p
  own_is = ap (λ (w : WorldView). counts_of w.ledger p) view

  pub total_is : all.total ≡ old.ledger.total
  total_is = ap (λ (w : WorldView). w.ledger.total) view

  pub unused_is : all.unused ≡ old.ledger.unused
  unused_is = ap (λ (w : WorldView). w.ledger.unused) view

  -- the right that a message was sent to is counted, if the one of the front is
  pub counted_some : (front : Kept) → option_and_then (λ (v : PortView Kept). slice_get v.queue 0) (map.get ports.bare.ports p) ≡ Some front →
      ((m : Kept) → option_and_then (λ (v : PortView Kept). slice_get v.queue 0) (port_at old p) ≡ Some m → 0 < number_of (destination_right m) (counts_of old.ledger p)) → (kind : RightKind) → kind ≡ destination_right front →
      1 ≤ number_of kind (rights_for ports p)
  counted_some front is counted kind same =
      let some : 0 < number_of (destination_right front) (counts_of old.ledger p) = counted front (ap (λ (w : WorldView). option_and_then (λ (v : PortView Kept). slice_get v.queue 0) (port_at w p)) (sym view) ∙ is) in
      subst (λ (k : RightKind). 0 < number_of k (rights_for ports p)) (sym same) (subst (λ (c : Counts). 0 < number_of (destination_right front) c) (sym own_is) some)

  -- nothing but the ledger changed
  pub recounted_written : (k : Counts) {new : CountedPorts Kept} {sums after : Ledger} → new ≡ with_rights ports p k → after ≡ sums → (change : LedgerView → LedgerView) → ledger_of (map.insert ports.counts p k) sums ≡ change (ledger_of ports.counts all) →
      tables profile spaces new.bare (ledger_of new.counts after) sets requests ≡ record old { ledger = change old.ledger }
  recounted_written k {new} {sums} {after} is are change same =
      ap (λ (x : CountedPorts Kept). tables profile spaces x.bare (ledger_of x.counts after) sets requests) is
      ∙ ap (λ (l : LedgerView). tables profile spaces ports.bare l sets requests) (ap (ledger_of (map.insert ports.counts p k)) are ∙ same)
      ∙ ap (λ (w : WorldView). record w { ledger = change w.ledger }) view
