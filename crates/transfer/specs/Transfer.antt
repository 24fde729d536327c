-- Handing a right from a task to another, in the tables: what goes, what is left then, and what refuses it there.
use Rattle.std.specs.Prelude.{◌≡◌, ◌≢◌, ℕ, ◌+◌, ◌-◌, ◌<◌, ◌≤◌, ◌⊎◌, Bool, [], ◌∷◌, Option, Some, None, if◌then◌else◌, ◌==◌, ◌&&◌, MatchBool}
use Rattle.std.specs.Option.{option_and_then}
use Rattle.std.specs.FinMap as map
use Rattle.mach_types.specs.declared.codes.KernReturn.{KernReturn}
use Rattle.mach_types.specs.declared.codes.KernReturn.TheVariants.{NoSpace, NameExists, UrefsOverflow, RightExists, InvalidName, InvalidRight}
use Rattle.mach_types.specs.Numbers.{disposition, kind_sent, most_names, most_references, most_rights}
use Rattle.mach_types.specs.Codes.{kern_number}
use Rattle.mach_types.specs.Tokens.{Kind, send, send_once}
use Rattle.mach_types.specs.Guards.{Guards, NoneHolds}
use Rattle.mach_model.specs.State.{State}
use Rattle.mach_model.specs.NameGuards.{IsDeadName, IsLegalName, IsNoName, IsUnused}
use Rattle.name_space.specs.declared.Entry.{Entry}
use Rattle.name_space.specs.Entry.{port_named, send_references}
use Rattle.name_space.specs.Names.{SpaceView}
use Rattle.copyin_base.specs.declared.Mark.TheVariants as mark
use Rattle.copyin_base.specs.Worlds.{WorldView, entry_at, space_at}
use Rattle.dispositions.specs.Copies.{copied_from}
use Rattle.copyin.specs.Judging.{made_by_mark}
use Rattle.transfer.specs.declared.judge.Going.{Going}
use Rattle.transfer.specs.declared.judge.Handed.{Handed}
use Rattle.transfer.specs.declared.judge.TaskName.{TaskName}

-- ---- the right that goes

-- By the disposition of this number it goes from what stands under its name.
pub record CanGo (w : WorldView) (number : ℕ) (g : Going) : Type 0 where
  pub given : disposition number ≡ Some g.given
  pub entry : Entry
  pub found : entry_at w g.from g.name ≡ Some entry
  pub is : copied_from g.given entry ≡ Some (record { left = g.left; mark = mark.Port g.port })

-- what refuses that a right for a port goes from the name
abbrev pub going_guards : State → (from name number : ℕ) → (dead : KernReturn) → Guards
going_guards s from name number dead =
    (IsDeadName s from name × (17 ≤ number) × (number ≤ 19), kern_number dead)
    ∷ (IsUnused s from name, kern_number InvalidName)
    ∷ (¬ (IsLegalName s from name number), kern_number InvalidRight)
    ∷ []

-- ---- what is left then

-- what stands under a name of the task
abbrev pub left_at : WorldView → (task : ℕ) → Going → (name : ℕ) → Option Entry
left_at w task g name = if task == g.from && name == g.name then g.left else entry_at w task name

abbrev pub names_in : Option SpaceView → ℕ
names_in (Some space) = map.len space.names
names_in None = 0

abbrev pub fewer_if : Bool → Option Entry → ℕ → ℕ
fewer_if same (Some entry) n = n
fewer_if same None n = if same then n - 1 else n

-- how many names the task has
abbrev pub names_left : WorldView → (task : ℕ) → Going → ℕ
names_left w task g = fewer_if (task == g.from) g.left (names_in (space_at w task))

-- how many rights there are
abbrev pub rights_then : WorldView → Going → ℕ
rights_then w g = w.ledger.total + made_by_mark g.given (mark.Port g.port)

abbrev pub port_under : Option Entry → Option ℕ
port_under o = option_and_then port_named o

abbrev pub references_under : Option Entry → ℕ
references_under (Some entry) = send_references entry
references_under None = 0

-- ---- refusals

-- The task has the port under another name.
abbrev pub IsElsewhere : (ℕ → Option Entry) → (name port : ℕ) → Kind → Type 0
IsElsewhere at name p kind = (kind ≢ send_once) × ((n : ℕ) × (n ≢ name) × (port_under (at n) ≡ Some p))

-- Something else stands under the name.
abbrev pub IsTaken : Option Entry → (port : ℕ) → Kind → Type 0
IsTaken entry p kind = (entry ≢ None) × ((kind ≡ send_once) ⊎ (port_under entry ≢ Some p))

abbrev pub Overflows : Option Entry → Kind → Type 0
Overflows entry kind = (kind ≡ send) × (most_references ≤ references_under entry)

-- There is no room for the right, or for its name where that is new.
abbrev pub LacksSpace : (names rights : ℕ) → (IsNew : Type 0) → Type 0
LacksSpace names rights IsNew = (most_names ≤ names) × IsNew ⊎ (most_rights < rights)

-- what refuses the right under a name, by what stands under each name, how many names there are, and how many rights
abbrev pub under_guards : (ℕ → Option Entry) → (names rights name port : ℕ) → Kind → Guards
under_guards at names rights name p kind =
    (IsElsewhere at name p kind, kern_number RightExists)
    ∷ (IsTaken (at name) p kind, kern_number NameExists)
    ∷ (Overflows (at name) kind, kern_number UrefsOverflow)
    ∷ (LacksSpace names rights (at name ≡ None), kern_number NoSpace)
    ∷ []

-- what refuses it where the kernel chooses the name
abbrev pub out_guards : (ℕ → Option Entry) → (names rights port : ℕ) → Kind → Guards
out_guards at names rights p kind = (LacksSpace names rights ((kind ≡ send_once) ⊎ ((n : ℕ) → port_under (at n) ≢ Some p)), kern_number NoSpace) ∷ []

abbrev pub insert_later : WorldView → (task name : ℕ) → Going → Guards
insert_later w task name g = under_guards (left_at w task g) (names_left w task g) (rights_then w g) name g.port (kind_sent g.given)

abbrev pub extract_later : WorldView → (task : ℕ) → Going → Guards
extract_later w task g = out_guards (left_at w task g) (names_left w task g) (rights_then w g) g.port (kind_sent g.given)

-- ---- what may be handed on

-- the right that goes so from a name, where this is left under it
abbrev pub going_from : TaskName → Handed → (left : Option Entry) → Going
going_from from handed left = record { from = from.task; name = from.name; given = handed.given; port = handed.port; left = left }

-- how many names more it needs
abbrev pub names_needed : Handed → ℕ
names_needed handed = if handed.is_new then 1 else 0

-- Where the kernel chooses the name, the right wants one of its own.
abbrev pub WantsName : WorldView → (task : ℕ) → Going → Type 0
WantsName w task g = (kind_sent g.given ≡ send_once) ⊎ ((n : ℕ) → port_under (left_at w task g n) ≢ Some g.port)

-- The right may be inserted so, where there is memory.
pub record MayInsert (w : WorldView) (to from : TaskName) (number : ℕ) (handed : Handed) : Type 0 where
  pub left : Option Entry
  pub goes : CanGo w number (going_from from handed left)
  pub to_named : ¬ (IsNoName to.name)
  pub from_named : ¬ (IsNoName from.name)
  pub unrefused : NoneHolds (insert_later w to.task to.name (going_from from handed left))
  pub is_new : MatchBool handed.is_new (left_at w to.task (going_from from handed left) to.name ≡ None) (left_at w to.task (going_from from handed left) to.name ≢ None)

-- The right may be extracted so, where there is memory.
pub record MayExtract (w : WorldView) (from : TaskName) (number to : ℕ) (handed : Handed) : Type 0 where
  pub left : Option Entry
  pub goes : CanGo w number (going_from from handed left)
  pub unrefused : NoneHolds (extract_later w to (going_from from handed left))
  pub is_new : MatchBool handed.is_new (WantsName w to (going_from from handed left)) (¬ (WantsName w to (going_from from handed left)))
