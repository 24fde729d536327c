-- What the counts of a port are among all.
use Rattle.std.proofs.Common.{◌≡◌, inl, inr, ℕ, ◌+◌, ◌-◌, ◌≤◌, Bool, true, false, cond, eqb, refl, ap, sym, ◌∙◌, Some, None, arith}
use Rattle.std.specs.Option.{unwrap_or, option_map}
use Rattle.std.specs.FinMap as map
use Rattle.std.specs.Ordering.{nat_cmp, eq_by_cmp}
use Rattle.std.specs.Cmp.{nat_cmp_total, unsigned_tied}
use Rattle.std.proofs.lemmas.Bool.Decides.{eqb_tells}
use Rattle.std.proofs.lemmas.List.Sums.{sum_by-le-sum_by}
use Rattle.rights.specs.declared.Counts.{Counts}
use Rattle.rights.specs.declared.RightKind.TheVariants.{Receive}
use Rattle.rights.specs.Counts.{no_rights, with_more, all_of}
use Rattle.rights.specs.Counted.{IsCounted}
use Rattle.rights.specs.Ledger.{LedgerView, made, entered}
use Rattle.rights.proofs.Sums.{Counted, sum_over, sum-empty, sum-insert, sum-remove}

abbrev once_of : Counts → ℕ
once_of c = c.send_once

pub counted-empty : (m : Counted) → m ≡ map.empty → IsCounted m 0 0
counted-empty m e = record {
  all_counted = ap (λ (n : Counted). sum_over all_of n) e ∙ sum-empty all_of;
  once_counted = ap (λ (n : Counted). sum_over once_of n) e ∙ sum-empty once_of;
}

module _ (m : Counted) (total unused : ℕ) (counted : IsCounted m total unused) where
  -- a send-once right is a right
  pub unused-within : unused ≤ total
  unused-within =
      let less : sum_over once_of m ≤ sum_over all_of m = sum_by-le-sum_by once_of all_of (map.values m) (λ c. omega arith) in
      omega (arith, less, counted.all_counted, counted.once_counted)

  -- ---- counts that lie under a number

  module _ (number : ℕ) (was : Counts) (at : map.get m number ≡ Some was) where
    pub lent-within : (all_of was ≤ total) × (was.send_once ≤ unused)
    lent-within =
        let all = sum-remove m number all_of was at in
        let once = sum-remove m number once_of was at in
        (omega (arith, all, counted.all_counted), omega (arith, once, counted.once_counted))

    -- what the sum is, once others are left there
    sum-lent : (c : Counts) (f : Counts → ℕ) → sum_over f (map.insert m number c) + f was ≡ sum_over f m + f c
    sum-lent c f =
        let more = sum-insert m number f c in
        let held : unwrap_or (option_map f (map.get m number)) 0 ≡ f was = ap (λ o. unwrap_or (option_map f o) 0) at in
        omega (arith, more, held)

    pub counted-lent : (c : Counts) (then then_unused : ℕ) → then + all_of was ≡ total + all_of c → then_unused + was.send_once ≡ unused + c.send_once → IsCounted (map.insert m number c) then then_unused
    counted-lent c then then_unused balance once = record {
      all_counted = let s = sum-lent c all_of in omega (arith, s, balance, counted.all_counted);
      once_counted = let s = sum-lent c once_of in omega (arith, s, once, counted.once_counted);
    }

    -- without the port
    pub counted-gone : IsCounted (map.remove m number) (total - all_of was) (unused - was.send_once)
    counted-gone = record {
      all_counted = let s = sum-remove m number all_of was at in omega (arith, s, counted.all_counted);
      once_counted = let s = sum-remove m number once_of was at in omega (arith, s, counted.once_counted);
    }

  -- ---- a port that comes

  pub counted-came : (number : ℕ) (c : Counts) → map.get m number ≡ None → IsCounted (map.insert m number c) (total + all_of c) (unused + c.send_once)
  counted-came number c none =
      let held : (f : Counts → ℕ) → unwrap_or (option_map f (map.get m number)) 0 ≡ 0 = λ f. ap (λ o. unwrap_or (option_map f o) 0) none in
      record {
        all_counted = let s = sum-insert m number all_of c in let h = held all_of in omega (arith, s, h, counted.all_counted);
        once_counted = let s = sum-insert m number once_of c in let h = held once_of in omega (arith, s, h, counted.once_counted);
      }

-- ---- a port's counts are put in twice

cond_twice : {X : Type 0} (b : Bool) (x y z : X) → cond b x (cond b y z) ≡ cond b x z
cond_twice true x y z = refl
cond_twice false x y z = refl

twice : (m : Counted) (k : ℕ) (a b : Counts) → map.insert (map.insert m k a) k b ≡ map.insert m k b
twice m k a b = map.same_map nat_cmp_total map.nat_cmp-IsAntisymmetric _ _ (λ q.
    map.get-insert nat_cmp_total (map.insert m k a) k b q
    ∙ ap (λ o. cond (eq_by_cmp nat_cmp q k) (Some b) o) (map.get-insert nat_cmp_total m k a q)
    ∙ cond_twice (eq_by_cmp nat_cmp q k) (Some b) (Some a) (map.get m q)
    ∙ sym (map.get-insert nat_cmp_total m k b q))

put_here : (m : Counted) (k : ℕ) (a : Counts) → map.get (map.insert m k a) k ≡ Some a
put_here m k a = map.get-insert nat_cmp_total m k a k ∙ ap (λ b. cond b (Some a) (map.get m k)) (unsigned_tied k k ∙ same k)
  where
    same : (q : ℕ) → eqb q q ≡ true
    same q = elim (eqb_tells q q) [ inl h ↦ h.0 | inr h ↦ absurd (h.1 refl) ]

-- a new port's first right
pub first-made : (l : LedgerView) (port : ℕ) → ◌≡◌ {A = LedgerView} (record { counts = map.insert l.counts port (with_more Receive 1 no_rights); total = l.total + 1; unused = l.unused }) (made (entered l port) port Receive 1)
first-made l port =
    ap (λ (x : Counted). let v : LedgerView = record { counts = x; total = l.total + 1; unused = l.unused } in v)
    (sym (twice l.counts port no_rights (with_more Receive 1 no_rights))
    ∙ ap (λ o. map.insert (map.insert l.counts port no_rights) port (with_more Receive 1 (unwrap_or o no_rights))) (sym (put_here l.counts port no_rights)))
    ∙ ap (λ n. let v : LedgerView = record { counts = map.insert (map.insert l.counts port no_rights) port (with_more Receive 1 (unwrap_or (map.get (map.insert l.counts port no_rights) port) no_rights)); total = l.total + 1; unused = n } in v)
    (let e : l.unused ≡ l.unused + 0 = omega arith in e)
