-- Tables that show some state, and what of it is true of the tables alone.
use Rattle.std.specs.Prelude.{◌≡◌, ℕ, ◌<◌, Some, None}
use Rattle.std.specs.FinMap as map
use Rattle.mach_types.specs.Numbers.{null_word, dead_word}
use Rattle.mach_model.specs.State.{State}
use Rattle.name_space.specs.declared.Entry.{Entry}
use Rattle.name_space.specs.declared.Entry.TheVariants.{SendOnce}
use Rattle.name_space.specs.Entry.{port_of}
use Rattle.name_space.specs.Names.{Names, SpaceView}
use Rattle.port.specs.Ports.{PortsView, IsLive}
use Rattle.rights.specs.Ledger.{LedgerView, IsEntered, counts_of}
use Rattle.tables_base.specs.Kept.{Kept}
use Rattle.copyin_base.specs.Worlds.{WorldView, space_at}
use Rattle.copyin_base.specs.Shows.{Shows}

-- The tables show a state of the machine.
pub record Stands (w : WorldView) : Type 0 where
  pub state : State
  pub shown : Shows w state

-- Each right of a task is for a port that is in the tables, and stands under a name.
pub record AreTied (names : Names) (ports : PortsView Kept) (ledger : LedgerView) : Type 0 where
  pub live : (name : ℕ) (e : Entry) (p : ℕ) → map.get names name ≡ Some e → port_of e ≡ Some p → IsLive ports p
  pub entered : (name : ℕ) (e : Entry) (p : ℕ) → map.get names name ≡ Some e → port_of e ≡ Some p → IsEntered ledger p
  pub not_null : map.get names null_word ≡ None
  pub not_dead : map.get names dead_word ≡ None

-- The rights of this task are so. It is true of tables that show a state.
pub record IsTied (w : WorldView) (task : ℕ) : Type 0 where
  pub tied : (space : SpaceView) → space_at w task ≡ Some space → AreTied space.names w.ports w.ledger
  -- a send-once right of the task is one that no queued message goes by
  pub unused : (space : SpaceView) → space_at w task ≡ Some space → (name p : ℕ) → map.get space.names name ≡ Some (SendOnce p) → 0 < (counts_of w.ledger p).send_once
