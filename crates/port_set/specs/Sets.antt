-- What contracts see of port sets: each set's record, how many were made, and what the ports' attributes say of members.
use Rattle.std.specs.Prelude.{◌≡◌, ◌≢◌, ℕ, ◌+◌, Some, None, [], refl, true}
use Rattle.std.specs.Coded.{Coded, code_by, coded×, coded_ℕ}
use Rattle.std.specs.FinMap as map
use Rattle.std.specs.Ordering.{nat_cmp}
use Rattle.port.specs.Ports.{PortView, PortsView, sets_in, with_sets, without}
pub use Rattle.port.specs.Ports.{in_set}
use Rattle.std.specs.List.{Contains}
use Rattle.port.specs.Turns.{turns_of}
pub use Rattle.port.specs.Ports.{IsReadyIn as IsReady, NoneReadyIn as NoneReady}
use Rattle.port_set.specs.declared.SetRecord.{SetRecord}

pub record SetsView : Type 0 where
  pub sets : map.FinMap nat_cmp SetRecord
  pub made : ℕ

abbrev pub sets_code : Coded SetRecord → Coded SetsView
sets_code code = code_by
    (map.FinMap nat_cmp SetRecord × ℕ) (coded× (map.code coded_ℕ code) coded_ℕ)
    (λ s. (s.sets, s.made))
    (λ p. record { sets = p.0; made = p.1 })
    (λ _. refl)

abbrev pub no_sets : SetsView
no_sets = record { sets = map.empty; made = 0 }

abbrev pub IsThere : SetsView → ℕ → Type 0
IsThere v set = map.contains_key v.sets set ≡ true

-- one more set, whose identity is the number of those made before
abbrev pub created : SetsView → (owner name : ℕ) → SetsView
created v owner name = record { sets = map.insert v.sets v.made (record { owner = owner; name = name }); made = v.made + 1 }

-- a set's task has another name for it
abbrev pub renamed : SetsView → (set : ℕ) → SetRecord → (name : ℕ) → SetsView
renamed v set r name = record v { sets = map.insert v.sets set (record r { name = name }) }

abbrev pub removed : SetsView → (set : ℕ) → SetsView
removed v set = record v { sets = map.remove v.sets set }

module _ {M : Type 0} where
  -- Each member of the set is in its other sets alone, and none has a turn in it; each other port, the turns in each other set, the counts, the destroyed messages, and the ports lost, doomed and noted, are as they were.
  pub record IsDisbanded (old new : PortsView M) (set : ℕ) : Type 0 where
    pub gone : (port : ℕ) → map.get old.ports port ≡ None → map.get new.ports port ≡ None
    pub members : (port : ℕ) (p : PortView M) → map.get old.ports port ≡ Some p → Contains (sets_in p) set → map.get new.ports port ≡ Some (with_sets p (without set (sets_in p)))
    pub others : (port : ℕ) (p : PortView M) → map.get old.ports port ≡ Some p → ¬ (Contains (sets_in p) set) → map.get new.ports port ≡ Some p
    pub no_turns : turns_of new.ready set ≡ []
    pub turns : (other : ℕ) → other ≢ set → turns_of new.ready other ≡ turns_of old.ready other
    pub made : new.made ≡ old.made
    pub spare : new.spare ≡ old.spare
    pub destroyed : new.destroyed ≡ old.destroyed
    pub lost : new.lost ≡ old.lost
    pub doomed : new.doomed ≡ old.doomed
    pub noted : new.noted ≡ old.noted
    pub several : new.several ≡ old.several
