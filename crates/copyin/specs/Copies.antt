-- What becomes of the tables as a right is copied in.
use Rattle.std.specs.Prelude.{◌≡◌, ℕ, Bool, ◌+◌, ◌%◌, ◌^◌, Option, Some, None, if◌then◌else◌, slice_set}
use Rattle.std.specs.FinMap as map
use Rattle.mach_types.specs.declared.rights.Disposition.{Disposition}
use Rattle.mach_types.specs.declared.rights.Disposition.TheVariants.{MoveReceive, CopySend, MakeSend, MakeSendOnce}
use Rattle.name_space.specs.declared.Entry.{Entry}
use Rattle.name_space.specs.Names.{SpaceView}
use Rattle.port.specs.Ports.{PortView, PortsView, restarted, with_port}
use Rattle.rights.specs.Ledger.{LedgerView, made, shifted}
use Rattle.rights.specs.declared.RightKind.TheVariants as right
use Rattle.copyin_base.specs.declared.Mark.{Mark}
use Rattle.copyin_base.specs.declared.Mark.TheVariants as mark
use Rattle.copyin_base.specs.Kept.{Kept}
use Rattle.copyin_base.specs.Requests.{requests_after}
use Rattle.copyin_base.specs.Worlds.{WorldView, put, space_at}
use Rattle.dispositions.specs.Copies.{copied_from}
use Rattle.dispositions.specs.declared.Copied.{Copied}

abbrev pub view_copied : Disposition → PortView Kept → PortView Kept
view_copied MakeSend v = record v { attributes = record v.attributes { make_send = (v.attributes.make_send + 1) % 2 ^ 32 } }
view_copied MoveReceive v = restarted v
view_copied d v = v

abbrev pub port_copied : Disposition → (port : ℕ) → PortsView Kept → Option (PortView Kept) → PortsView Kept
port_copied d p ports (Some v) = with_port ports p (view_copied d v)
port_copied d p ports None = ports

-- the ports after a right went by the disposition
abbrev pub ports_copied : Disposition → Mark → PortsView Kept → PortsView Kept
ports_copied MakeSend (mark.Port p) ports = port_copied MakeSend p ports (map.get ports.ports p)
ports_copied MoveReceive (mark.Port p) ports = port_copied MoveReceive p ports (map.get ports.ports p)
ports_copied d one ports = ports

-- the counts after a right went by the disposition
abbrev pub ledger_copied : Disposition → Mark → LedgerView → LedgerView
ledger_copied CopySend (mark.Port p) ledger = made ledger p right.Send 1
ledger_copied MakeSend (mark.Port p) ledger = made ledger p right.Send 1
ledger_copied MakeSendOnce (mark.Port p) ledger = made ledger p right.SendOnce 1
ledger_copied d one ledger = ledger

-- the counts once a message is queued at the port: a send-once right that it goes by is unused no more
abbrev pub ledger_queued : (by_once : Bool) → (port : ℕ) → LedgerView → LedgerView
ledger_queued by_once port ledger = if by_once then shifted ledger port else ledger

-- A right is copied in from what stands under the name. Where nothing is left there the name goes, and the request on it ends.
pub record CopiesRight (old : WorldView) (task : ℕ) (d : Disposition) (name : ℕ) (one : Mark) (new : WorldView) : Type 0 where
  pub space : SpaceView
  pub there : space_at old task ≡ Some space
  pub entry : Entry
  pub found : map.get space.names name ≡ Some entry
  pub copied : Copied
  pub is : copied_from d entry ≡ Some copied
  pub mark_is : one ≡ copied.mark
  pub rest : new ≡ record old {
    spaces = slice_set old.spaces task (Some (record space { names = put space.names name copied.left }));
    ports = ports_copied d copied.mark old.ports;
    ledger = ledger_copied d copied.mark old.ledger;
    requests = requests_after old.requests task name copied.left;
  }
