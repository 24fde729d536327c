-- A ledger that a port came to with its receive right, and left again.
use Rattle.std.proofs.Common.{◌≡◌, ℕ, Option, Some, None, sym, ap, arith, ◌∙◌}
use Rattle.std.specs.Prelude.{is_some}
use Rattle.std.specs.Option.{unwrap_or}
use Rattle.std.specs.FinMap as map
use Rattle.std.specs.Ordering.{nat_cmp}
use Rattle.mach_model.proofs.Names.{get_own, alike}
use Rattle.rights.specs.declared.Counts.{Counts}
use Rattle.rights.specs.declared.RightKind.TheVariants as right
use Rattle.rights.specs.Counts.{no_rights, with_more}
use Rattle.rights.specs.Ledger.{LedgerView, IsEntered, counts_of, entered, left, made}
use Rattle.copyin_base.proofs.Putting.{each_put, put_other}

-- the ledger once the port came
abbrev pub came : LedgerView → (port : ℕ) → LedgerView
came l p = made (entered l p) p right.Receive 1

-- what it counts of the port then
abbrev counted : LedgerView → (port : ℕ) → Counts
counted l p = with_more right.Receive 1 (counts_of (entered l p) p)

counted_is : (l : LedgerView) (p : ℕ) → counted l p ≡ with_more right.Receive 1 no_rights
counted_is l p = ap (λ (o : Option Counts). with_more right.Receive 1 (unwrap_or o no_rights)) (get_own l.counts p no_rights)

no_more : (m : map.FinMap nat_cmp Counts) (p : ℕ) (c : Counts) → map.get m p ≡ None → map.remove (map.insert (map.insert m p no_rights) p c) p ≡ m
no_more m p c none = alike (map.remove (map.insert (map.insert m p no_rights) p c) p) m
    (each_put (map.insert (map.insert m p no_rights) p c) p None (λ n o. o ≡ map.get m n) (sym none) (λ n not. put_other (map.insert m p no_rights) p (Some c) n not ∙ put_other m p (Some no_rights) n not))

same_ledger : (l : LedgerView) (m : map.FinMap nat_cmp Counts) (t u : ℕ) → m ≡ l.counts → t ≡ l.total → u ≡ l.unused → ◌≡◌ {A = LedgerView} (record { counts = m; total = t; unused = u }) l
same_ledger l m t u e f g = λ i. record { counts = e i; total = f i; unused = g i }

pub came_and_left : (l : LedgerView) (p : ℕ) → map.get l.counts p ≡ None → left (came l p) p ≡ l
came_and_left l p none = grind (arith, get_own, counted_is, same_ledger, no_more)

pub came_there : (l m : LedgerView) (p : ℕ) → m ≡ came l p → IsEntered m p
came_there l m p is = rw is (ap is_some (get_own (map.insert l.counts p no_rights) p (counted l p)))
