-- How many names the rights of a message need, told from the names that the task has now. No public clause cites this module.
use Rattle.std.specs.Prelude.{◌≡◌, ◌≢◌, ℕ, ◌+◌, ◌⊎◌, Bool, true, false, ◌||◌, ◌==◌, List, [], ◌∷◌, ◌++◌, ◌%◌, Some, is_some, length, slice_get}
use Rattle.std.specs.FinMap as map
use Rattle.mach_types.specs.Numbers.{kind_sent}
use Rattle.mach_types.specs.Tokens.{Kind, receive, send, send_once}
use Rattle.name_space.specs.Names.{Names, port_at}
use Rattle.copyin_base.specs.declared.Carried.{Carried}
use Rattle.copyin_base.specs.declared.Mark.{Mark}
use Rattle.copyin_base.specs.declared.Mark.TheVariants as mark
use Rattle.copyin_base.specs.Kept.{Kept}
use Rattle.port.specs.Ports.{PortsView}

-- whether the receiver has a name for the port once the right was given: a send-once right gives none
abbrev pub names_port : Kind → Mark → (port : ℕ) → Bool
names_port send (mark.Port q) p = q == p
names_port receive (mark.Port q) p = q == p
names_port kind one p = false

-- one of the rights gives a name for the port
abbrev pub named_by : List Carried → (port : ℕ) → Bool
named_by [] p = false
named_by (c ∷ cs) p = names_port (kind_sent c.given) c.mark p || named_by cs p

abbrev pub IsThere : PortsView Kept → (port : ℕ) → Type 0
IsThere ports p = is_some (map.get ports.ports p) ≡ true

abbrev pub IsNamed : Names → (port : ℕ) → Type 0
IsNamed names p = (name : ℕ) × (port_at names name ≡ Some p)

abbrev pub HasNone : Names → (port : ℕ) → Type 0
HasNone names p = (name : ℕ) → port_at names name ≢ Some p

abbrev pub IsMarked : (marks : List Bool) → (port : ℕ) → Type 0
IsMarked marks p = slice_get marks (p % length marks) ≡ Some true

-- Each port that the task has no name for, and that one of the rights gives a name for, is marked.
abbrev pub Marks : (marks : List Bool) → Names → List Carried → Type 0
Marks marks names carried = (p : ℕ) → HasNone names p → named_by carried p ≡ true → IsMarked marks p

-- Behind these rights the right needs a name of its own.
pub record Owns (ports : PortsView Kept) (names : Names) (earlier : List Carried) (c : Carried) : Type 0 where
  pub port : ℕ
  pub for_port : c.mark ≡ mark.Port port
  pub there : IsThere ports port
  pub own : (kind_sent c.given ≡ send_once) ⊎ (HasNone names port × (named_by earlier port ≡ false))

-- With none before it, the right is for this port and needs a name of its own.
pub record OwnsAlone (ports : PortsView Kept) (names : Names) (c : Carried) (port : ℕ) : Type 0 where
  pub for_port : c.mark ≡ mark.Port port
  pub there : IsThere ports port
  pub own : (kind_sent c.given ≡ send_once) ⊎ HasNone names port

-- It needs none: there is no port, or the port has a name.
abbrev pub Shares : PortsView Kept → Names → (earlier : List Carried) → Carried → Type 0
Shares ports names earlier c =
    ((p : ℕ) → c.mark ≡ mark.Port p → is_some (map.get ports.ports p) ≡ false)
    ⊎ ((p : ℕ) × (c.mark ≡ mark.Port p) × IsThere ports p × (kind_sent c.given ≢ send_once) × (IsNamed names p ⊎ (named_by earlier p ≡ true)))

-- So many of the rights that come behind these need a name of their own.
abbrev pub Needs : PortsView Kept → Names → (earlier : List Carried) → List Carried → (number : ℕ) → Type 0
Needs ports names earlier [] n = n ≡ 0
Needs ports names earlier (c ∷ cs) n =
    Owns ports names earlier c × ((m : ℕ) × (n ≡ m + 1) × Needs ports names (earlier ++ c ∷ []) cs m)
    ⊎ Shares ports names earlier c × Needs ports names (earlier ++ c ∷ []) cs n

-- So many names are enough for the rights: they need just so many, or there are so many rights.
abbrev pub Suffice : PortsView Kept → Names → List Carried → (number : ℕ) → Type 0
Suffice ports names carried number = Needs ports names [] carried number ⊎ (number ≡ length carried)
