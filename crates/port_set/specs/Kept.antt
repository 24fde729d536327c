-- How sets are kept. No public clause cites this module.
use Rattle.std.specs.Prelude.{◌≡◌, ◌≢◌, ◌⊎◌, ℕ, zero, suc, ◌+◌, ◌<◌, ◌^◌, Bool, true, false, cond, Option, Some, None}
use Rattle.std.specs.Ordering.{nat_cmp}
use Rattle.std.specs.FinMap as map
use Rattle.port.specs.Ports.{PortView, PortsView, sets_in, with_sets, without}
use Rattle.port.specs.Records.{made_of}
use Rattle.port.specs.Turns.{turns_of, contains_number}
use Rattle.port_set.specs.declared.SetRecord.{SetRecord}
use Rattle.std.specs.List.{Contains}

-- each set's identity was given, and another is next
pub record IsKept (sets : map.FinMap nat_cmp SetRecord) (next : Option ℕ) : Type 0 where
  pub given : (set : ℕ) → map.contains_key sets set ≡ true → set < made_of next
  pub next_fits : (n : ℕ) → next ≡ Some n → n < 2 ^ 64

module _ {M : Type 0} where
  -- Some members of the set are in their other sets alone now; each other port, the turns in each other set, the counts, the destroyed messages, and the ports lost, doomed and noted, are as they were.
  pub record IsLeaving (old new : PortsView M) (set : ℕ) : Type 0 where
    pub gone : (q : ℕ) → map.get old.ports q ≡ None → map.get new.ports q ≡ None
    pub members : (q : ℕ) (p : PortView M) → map.get old.ports q ≡ Some p → Contains (sets_in p) set → (map.get new.ports q ≡ Some p) ⊎ (map.get new.ports q ≡ Some (with_sets p (without set (sets_in p))))
    pub others : (q : ℕ) (p : PortView M) → map.get old.ports q ≡ Some p → ¬ (Contains (sets_in p) set) → map.get new.ports q ≡ Some p
    pub turns : (other : ℕ) → other ≢ set → turns_of new.ready other ≡ turns_of old.ready other
    pub made : new.made ≡ old.made
    pub spare : new.spare ≡ old.spare
    pub destroyed : new.destroyed ≡ old.destroyed
    pub lost : new.lost ≡ old.lost
    pub doomed : new.doomed ≡ old.doomed
    pub noted : new.noted ≡ old.noted
    pub several : new.several ≡ old.several

  abbrev pub is_member : ℕ → Option (PortView M) → Bool
  is_member set None = false
  is_member set (Some p) = contains_number (sets_in p) set

  -- how many of the first so many ports are in the set
  abbrev pub members_below : PortsView M → (set : ℕ) → ℕ → ℕ
  members_below v set zero = 0
  members_below v set (suc n) = cond (is_member set (map.get v.ports n)) 1 0 + members_below v set n
