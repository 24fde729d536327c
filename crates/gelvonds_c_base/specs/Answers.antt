-- What the kernel's answers are in C: ports and sets by identity, a status, what a call may have changed.
use Rattle.std.specs.Prelude.{◌≡◌, ◌≢◌, ℕ, ◌⊎◌, [], ◌∷◌, Option, None, Some}
use Rattle.mach_types.specs.declared.calls.Status.{Status}
use Rattle.mach_types.specs.declared.calls.Waited.{Waited}
use Rattle.mach_types.specs.declared.calls.Waited.TheVariants.{Port, Set}
use Rattle.mach_types.specs.declared.touched.Touched.{Touched}
use Rattle.mach_types.specs.declared.touched.Touched.TheVariants.{Few}
use Rattle.name_space.specs.declared.Entry.{Entry}
use Rattle.gelvonds_c_base.specs.declared.status.PortStatus.{PortStatus}
use Rattle.gelvonds_c_base.specs.declared.touched.TouchedPlaces.{TouchedPlaces}
use Rattle.gelvonds_c_base.specs.declared.waited.WaitedFor.{WaitedFor}

-- ---- ports and sets

-- what was waited for
abbrev pub c_waited : Waited → WaitedFor
c_waited (Port port) = record { identity = port; kind = 1 }
c_waited (Set set) = record { identity = set; kind = 2 }

-- What C says was waited for, by its kind and identity.
abbrev pub IsWaited : (kind identity : ℕ) → Waited → Type 0
IsWaited kind identity w = (kind ≡ 1) × (w ≡ Port identity) ⊎ (kind ≡ 2) × (w ≡ Set identity)

-- neither a port nor a set
abbrev pub IsNoKind : (kind : ℕ) → Type 0
IsNoKind kind = (kind ≢ 1) × (kind ≢ 2)

-- any right for a port is that port; a dead name is none any more
abbrev pub identity_of : Entry → WaitedFor
identity_of (Entry.Receive port) = record { identity = port; kind = 1 }
identity_of (Entry.Send port references) = record { identity = port; kind = 1 }
identity_of (Entry.ReceiveAndSend port references) = record { identity = port; kind = 1 }
identity_of (Entry.SendOnce port) = record { identity = port; kind = 1 }
identity_of (Entry.DeadName references) = record { identity = 0; kind = 3 }
identity_of (Entry.Set set) = record { identity = set; kind = 2 }

-- ---- a status

abbrev pub c_status : Status → PortStatus
c_status s = record {
  set = s.set;
  sequence = s.sequence;
  make_send = s.make_send;
  limit = s.limit;
  queued = s.queued;
  send_once = s.send_once;
  has_send = s.has_send;
  port_destroyed = s.port_destroyed;
  no_senders = s.no_senders;
}

-- ---- what a call may have changed

-- a port or a set, or a free place
abbrev pub c_place : Option Waited → WaitedFor
c_place (Some waited) = c_waited waited
c_place None = record { identity = 0; kind = 0 }

-- those that are named, or any
abbrev pub c_touched : Touched → TouchedPlaces
c_touched (Few (a ∷ b ∷ c ∷ d ∷ [])) = record { first = c_place a; second = c_place b; third = c_place c; fourth = c_place d; all = 0 }
c_touched touched = record { first = c_place None; second = c_place None; third = c_place None; fourth = c_place None; all = 1 }
