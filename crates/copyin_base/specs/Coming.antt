-- A port or a task comes: what that asks of the tables, and what it changes.
use Rattle.std.specs.Prelude.{ℕ, ◌+◌, ◌<◌, ◌++◌, ◌∷◌, [], Some, None}
use Rattle.std.specs.FinMap as map
use Rattle.mach_types.specs.declared.profiles.Profile.{Profile}
use Rattle.mach_types.specs.Numbers.{most_rights, most_identities}
use Rattle.name_space.specs.Names.{SpaceView, first_given}
use Rattle.port.specs.Ports.{PortView, first_attributes}
use Rattle.rights.specs.declared.RightKind.TheVariants as right
use Rattle.rights.specs.Ledger.{entered, made}
use Rattle.tables_base.specs.Kept.{Kept}
use Rattle.copyin_base.specs.Worlds.{WorldView, has_generations}

-- There is room for one more port, and for its receive right.
abbrev pub HasRoomForPort : WorldView → Type 0
HasRoomForPort w = (w.ledger.total < most_rights) × (w.ports.made < most_identities)

-- a new port, whose receive right the task holds
abbrev pub first_port : (task : ℕ) → PortView Kept
first_port task = record { queue = []; attributes = first_attributes task; more = [] }

-- one more port and its receive right, which the task holds and no name is for yet
abbrev pub with_new_port : WorldView → (task : ℕ) → WorldView
with_new_port w task = record w {
  ports = record w.ports { ports = map.insert w.ports.ports w.ports.made (first_port task); made = w.ports.made + 1 };
  ledger = made (entered w.ledger w.ports.made) w.ports.made right.Receive 1;
}

-- a new task's names
abbrev pub no_names : Profile → SpaceView
no_names profile = record { names = map.empty; room = 0; kept = None; given = first_given (has_generations profile) }

-- one more task, with no names
abbrev pub with_new_task : WorldView → WorldView
with_new_task w = record w { spaces = w.spaces ++ Some (no_names w.profile) ∷ [] }
