-- Giving a task a right under a name that the caller chose: the task's name for the port, or one that isn't in use.
use Rattle.std.specs.Prelude.{◌≡◌, ◌≢◌, ℕ, ◌-◌, ◌<◌, ◌≤◌, ◌⊎◌, true, Some, None, is_some}
use Rattle.std.specs.FinMap as map
use Rattle.mach_types.specs.Numbers.{most_names}
use Rattle.mach_types.specs.Tokens.{Kind, send, send_once}
use Rattle.name_space.specs.Names.{Names, SpaceView, IsUsable, HasPlace, port_at}
use Rattle.rights.specs.Ledger.{LedgerView, IsEntered, counts_of}
use Rattle.copyin_base.specs.Worlds.{WorldView, NoneLost, space_at, with_space}
use Rattle.copyin_base.specs.Worlds.{port_at as table_at}
use Rattle.copyout.specs.Giving.{alone, JoinsName, ledger_joined, ports_given}

-- A right comes under a name that isn't in use; a send or receive right where the task has no name for the port.
pub record NewName (names : Names) (kind : Kind) (port word : ℕ) (after : Names) : Type 0 where
  pub unused : map.get names word ≡ None
  pub lone : kind ≢ send_once → (name : ℕ) → port_at names name ≢ Some port
  pub rest : after ≡ map.insert names word (alone kind port)

-- The right for a port that is there comes to the task under this name.
pub record PutsPort (old : WorldView) (task : ℕ) (kind : Kind) (port word : ℕ) (new : WorldView) : Type 0 where
  pub space : SpaceView
  pub there : space_at old task ≡ Some space
  pub after : Names
  pub room : ℕ
  pub ledger : LedgerView
  pub given : ((j : JoinsName space.names kind port word after) × (ledger ≡ ledger_joined kind port j.entry old.ledger) × (room ≡ space.room))
      ⊎ (NewName space.names kind port word after × (ledger ≡ old.ledger) × (room ≡ space.room - 1))
  pub rest : new ≡ record (with_space old task (record space { names = after; room = room })) { ports = ports_given kind task port old.ports; ledger = ledger }

-- The name is the task's for the port, or it isn't in use and the task has none for it.
abbrev pub MayName : Names → Kind → (port word : ℕ) → Type 0
MayName names kind port word =
    (kind ≢ send_once) × (port_at names word ≡ Some port)
    ⊎ (map.get names word ≡ None) × (map.len names < most_names) × (kind ≢ send_once → (name : ℕ) → port_at names name ≢ Some port)

-- A right for a port that is there can come so.
pub record CanPut (w : WorldView) (task : ℕ) (kind : Kind) (port word : ℕ) : Type 0 where
  pub space : SpaceView
  pub there : space_at w task ≡ Some space
  pub place : map.get space.names word ≡ None → HasPlace space word
  pub usable : IsUsable word
  pub may : MayName space.names kind port word
  pub live : is_some (table_at w port) ≡ true
  pub entered : IsEntered w.ledger port
  pub counted : kind ≡ send → 1 ≤ (counts_of w.ledger port).send
  pub none_lost : NoneLost w
