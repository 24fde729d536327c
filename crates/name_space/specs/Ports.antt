-- How the names of ports are kept. No public clause cites this module.
use Rattle.std.specs.Prelude.{◌≡◌, ◌≢◌, ℕ, Option, Some, None, refl}
use Rattle.std.specs.Coded.{Coded, code_by, coded×, coded_ℕ, coded_option}
use Rattle.std.specs.FinMap as map
use Rattle.std.specs.Ordering.{nat_cmp}

-- names by ports
abbrev pub PortNames : Type 0
PortNames = map.FinMap nat_cmp ℕ

pub record PortsView : Type 0 where
  pub names : PortNames
  -- for how many more ports there is room
  pub room : ℕ
  -- the name for whose port a place is kept
  pub kept : Option ℕ

abbrev pub ports_code : Coded PortsView
ports_code =
    code_by (PortNames × (ℕ × Option ℕ)) (coded× (map.code coded_ℕ coded_ℕ) (coded× coded_ℕ (coded_option coded_ℕ))) (λ v. (v.names, (v.room, v.kept))) (λ p. record { names = p.0; room = p.1.0; kept = p.1.1 }) (λ _. refl)

-- the map with the port that is in the place for that name's
abbrev pub with_port : (port name : Option ℕ) → PortNames → PortNames
with_port None name m = m
with_port (Some port) None m = m
with_port (Some port) (Some name) m = map.insert m port name

abbrev pub without : Option ℕ → PortNames → PortNames
without None m = m
without (Some port) m = map.remove m port

-- A port in the place isn't among the others, and the place is for a name.
pub record IsApart (port name : Option ℕ) (others : PortNames) : Type 0 where
  pub absent : (p : ℕ) → port ≡ Some p → map.get others p ≡ None
  pub named : (p : ℕ) → port ≡ Some p → (n : ℕ) × (name ≡ Some n)

-- No port's name has the place that is kept.
abbrev pub HasNoneKept : PortsView → Type 0
HasNoneKept v = (port name : ℕ) → v.kept ≡ Some name → map.get v.names port ≢ Some name
