-- The kernel's tables as contracts see them.
use Rattle.std.specs.Prelude.{◌≡◌, ℕ, Bool, List, [], Option, Some, None, true, false, is_some, get_or, slice_set, refl}
use Rattle.std.specs.Coded.{Coded, code_by, coded×, coded_list, coded_option}
use Rattle.std.specs.FinMap as map
use Rattle.std.specs.Option.{option_map_or}
use Rattle.std.specs.Ordering.{nat_cmp}
use Rattle.mach_types.specs.declared.profiles.Profile.{Profile}
use Rattle.mach_types.specs.declared.profiles.Profile.TheVariants.{One, Two, Three}
use Rattle.name_space.specs.declared.Entry.{Entry}
use Rattle.name_space.specs.Names.{SpaceView}
use Rattle.port.specs.Ports.{PortView, PortsView, sets_in}
use Rattle.port_set.specs.Sets.{SetsView, no_sets}
use Rattle.rights.specs.Ledger.{LedgerView}
use Rattle.tables_base.specs.Kept.{Kept}
use Rattle.request_table.specs.Tables.{RequestTablesView, none_requested}

pub record WorldView : Type 0 where
  -- the names of each task, by the task's number, and nothing where the task has ended
  pub spaces : List (Option SpaceView)
  pub ports : PortsView Kept
  pub ledger : LedgerView
  pub sets : SetsView
  pub requests : RequestTablesView
  -- by which profile names are made
  pub profile : Profile

abbrev pub world_code : Coded SpaceView → Coded (PortsView Kept) → Coded LedgerView → Coded SetsView → Coded RequestTablesView → Coded Profile → Coded WorldView
world_code space ports ledger sets requests profile =
    code_by
    (List (Option SpaceView) × (PortsView Kept × (LedgerView × (SetsView × (RequestTablesView × Profile)))))
    (coded× (coded_list (coded_option space)) (coded× ports (coded× ledger (coded× sets (coded× requests profile)))))
    (λ w. (w.spaces, (w.ports, (w.ledger, (w.sets, (w.requests, w.profile))))))
    (λ x. record { spaces = x.0; ports = x.1.0; ledger = x.1.1.0; sets = x.1.1.1.0; requests = x.1.1.1.1.0; profile = x.1.1.1.1.1 })
    (λ _. refl)

-- whether fresh names have a generation
abbrev pub has_generations : Profile → Bool
has_generations One = false
has_generations Two = true
has_generations Three = true

-- whether a port may be in several sets
abbrev pub has_several_sets : Profile → Bool
has_several_sets One = false
has_several_sets Two = false
has_several_sets Three = true

-- the tables before anything was made
abbrev pub no_world : Profile → WorldView
no_world profile = record {
  spaces = [];
  ports = record { ports = map.empty; ready = map.empty; made = 0; spare = 0; destroyed = []; lost = []; doomed = []; noted = []; several = has_several_sets profile };
  ledger = record { counts = map.empty; total = 0; unused = 0 };
  sets = no_sets;
  requests = none_requested;
  profile = profile;
}

-- the names of the task; nothing where there was no such task, or it has ended
abbrev pub space_in : List (Option SpaceView) → (task : ℕ) → Option SpaceView
space_in spaces task = get_or spaces task None

abbrev pub space_at : WorldView → (task : ℕ) → Option SpaceView
space_at w task = space_in w.spaces task

-- The task lives.
abbrev pub HasTask : WorldView → (task : ℕ) → Type 0
HasTask w task = is_some (space_at w task) ≡ true

-- the tables where a task that lives has these names
abbrev pub with_space : WorldView → (task : ℕ) → SpaceView → WorldView
with_space w task space = record w { spaces = slice_set w.spaces task (Some space) }

-- what stands under a name; nothing where the task isn't there
abbrev pub entry_in : Option SpaceView → (name : ℕ) → Option Entry
entry_in (Some space) name = map.get space.names name
entry_in None name = None

abbrev pub entry_at : WorldView → (task name : ℕ) → Option Entry
entry_at w task name = entry_in (space_at w task) name

abbrev pub port_at : WorldView → ℕ → Option (PortView Kept)
port_at w p = map.get w.ports.ports p

-- the sets that the port is in, if it is there
abbrev pub sets_at : WorldView → ℕ → List ℕ
sets_at w p = option_map_or sets_in (port_at w p) []

-- the map with this under the name, or with nothing there
abbrev pub put : {V : Type 0} → map.FinMap nat_cmp V → (name : ℕ) → Option V → map.FinMap nat_cmp V
put m name (Some v) = map.insert m name v
put m name None = map.remove m name

-- ---- what a step's end has to do

-- No port has lost its receive right or is doomed, and no message was destroyed.
pub record NoneLost (w : WorldView) : Type 0 where
  pub lost : w.ports.lost ≡ []
  pub doomed : w.ports.doomed ≡ []
  pub destroyed : w.ports.destroyed ≡ []

-- Nothing is to be done: besides, no port was noted that lost its last send right, and no request waits whose name went.
pub record IsIdle (w : WorldView) : Type 0 where
  pub none_lost : NoneLost w
  pub noted : w.ports.noted ≡ []
  pub went : w.requests.names.went ≡ []
