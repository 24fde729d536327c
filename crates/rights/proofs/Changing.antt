-- The sums over all counts, where those of one port change.
use Rattle.std.proofs.Common.{◌≡◌, ℕ, ◌+◌, ◌-◌, ◌<◌, ◌≤◌, ◌^◌, Bool, true, false, Option, Some, None, is_some, refl, arith}
use Rattle.std.specs.Option.{unwrap_or}
use Rattle.std.specs.FinMap as map
use Rattle.mach_types.specs.Numbers.{most_rights}
use Rattle.rights.specs.declared.Counts.{Counts}
use Rattle.rights.specs.declared.RightKind.{RightKind}
use Rattle.rights.specs.declared.RightKind.TheVariants.{Receive, Send, SendOnce, Destination}
use Rattle.rights.specs.Counts.{no_rights, number_of, with_more, with_fewer, one_shifted, unused_of, all_of}
use Rattle.rights.specs.Counted.{IsCounted}
use Rattle.rights.proofs.Found.{lent-within, counted-lent}
use Rattle.rights.proofs.Sums.{Counted}

some_unwrapped : {X : Type 0} (o : Option X) (d : X) → is_some o ≡ true → o ≡ Some (unwrap_or o d)
some_unwrapped None d h = absurd (let no_true : false ≡ true = h in cc)
some_unwrapped (Some x) d h = refl

-- ---- the counts of one port

all-more : (kind : RightKind) (n : ℕ) (c : Counts) → (all_of (with_more kind n c) ≡ all_of c + n) × ((with_more kind n c).send_once ≡ c.send_once + unused_of kind n)
all-more Receive n c = (omega arith, omega arith)
all-more Send n c = (omega arith, omega arith)
all-more SendOnce n c = (omega arith, omega arith)
all-more Destination n c = (omega arith, omega arith)

all-fewer : (kind : RightKind) (n : ℕ) (c : Counts) → n ≤ number_of kind c → (all_of (with_fewer kind n c) + n ≡ all_of c) × ((with_fewer kind n c).send_once + unused_of kind n ≡ c.send_once)
all-fewer Receive n c h = (omega (arith, h), omega (arith, h))
all-fewer Send n c h = (omega (arith, h), omega (arith, h))
all-fewer SendOnce n c h = (omega (arith, h), omega (arith, h))
all-fewer Destination n c h = (omega (arith, h), omega (arith, h))

module _ (m : Counted) (total unused : ℕ) (counted : IsCounted m total unused) (p : ℕ) (there : map.contains_key m p ≡ true) where
  -- the port's counts
  abbrev pub own : Counts
  own = unwrap_or (map.get m p) no_rights

  pub own_found : map.get m p ≡ Some own
  own_found = some_unwrapped (map.get m p) no_rights there

  pub own_within : (all_of own ≤ total) × (own.send_once ≤ unused)
  own_within = lent-within m total unused counted p own own_found

  pub counted-more : (kind : RightKind) (n : ℕ) → IsCounted (map.insert m p (with_more kind n own)) (total + n) (unused + unused_of kind n)
  counted-more kind n = let e = all-more kind n own in counted-lent m total unused counted p own own_found (with_more kind n own) (total + n) (unused + unused_of kind n) (omega (arith, e.0)) (omega (arith, e.1))

  pub more_fits : (n : ℕ) → total + n ≤ most_rights → all_of own + n < 2 ^ 32
  more_fits n few = let within = own_within in omega (arith, within.0, few)

  module _ (kind : RightKind) (n : ℕ) (some : n ≤ number_of kind own) where
    pub fewer_within : (n ≤ total) × (unused_of kind n ≤ unused)
    fewer_within = let e = all-fewer kind n own some in let within = own_within in (omega (arith, e.0, within.0), omega (arith, e.1, within.1))

    pub counted-fewer : IsCounted (map.insert m p (with_fewer kind n own)) (total - n) (unused - unused_of kind n)
    counted-fewer = let e = all-fewer kind n own some in let within = own_within in
        counted-lent m total unused counted p own own_found (with_fewer kind n own) (total - n) (unused - unused_of kind n) (omega (arith, e.0, within.0)) (omega (arith, e.1, within.1))

  module _ (some : 0 < own.send_once) where
    pub some_unused : 0 < unused
    some_unused = let within = own_within in omega (arith, within.1, some)

    pub counted-shifted : IsCounted (map.insert m p (one_shifted own)) total (unused - 1)
    counted-shifted = let within = own_within in counted-lent m total unused counted p own own_found (one_shifted own) total (unused - 1) (omega (arith, some)) (omega (arith, within.1, some))
