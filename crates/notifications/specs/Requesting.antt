-- Asking for a notice, in the tables: what is judged of the call, in its order, before anything changes.
use Rattle.std.specs.Prelude.{◌≡◌, ◌≢◌, ℕ, ◌+◌, ◌-◌, ◌<◌, ◌≤◌, ◌⊎◌, Bool, false, [], ◌∷◌, Option, Some, None, if◌then◌else◌, ◌==◌}
use Rattle.std.specs.Option.{option_and_then}
use Rattle.std.specs.FinMap as map
use Rattle.mach_types.specs.declared.codes.KernReturn.TheVariants.{InvalidName, InvalidRight, InvalidArgument, UrefsOverflow, InvalidCapability}
use Rattle.mach_types.specs.declared.rights.Disposition.{Disposition}
use Rattle.mach_types.specs.Guards.{Guards}
use Rattle.mach_types.specs.Numbers.{kind_sent, null_word, most_names, most_references, most_rights}
use Rattle.mach_types.specs.Codes.{kern_number}
use Rattle.mach_types.specs.Rights.{makes_right}
use Rattle.mach_types.specs.Tokens.{send_once, Request, no_senders, port_destroyed, dead_name}
use Rattle.mach_types.specs.Numbers.{disposition}
use Rattle.mach_model.specs.State.{State}
use Rattle.mach_model.specs.RequestRefusals.{IsVariant}
use Rattle.mach_model.specs.NameGuards.{IsDeadName, IsLegalName}
use Rattle.name_space.specs.declared.Entry.{Entry}
use Rattle.name_space.specs.declared.Entry.TheVariants as entry
use Rattle.name_space.specs.Entry.{port_of, receive_named}
use Rattle.name_space.specs.Names.{SpaceView}
use Rattle.port.specs.Ports.{IsLive}
use Rattle.copyin_base.specs.declared.Mark.TheVariants as mark
use Rattle.request_table.specs.Tables.{RequestTablesView}
use Rattle.copyin_base.specs.Requests.{notify_of}
use Rattle.copyin_base.specs.Worlds.{WorldView, entry_at, space_at}
use Rattle.dispositions.specs.Copies.{copied_from}
use Rattle.dispositions.specs.declared.Copied.{Copied}
use Rattle.notifications.specs.declared.request.Asked.{Asked}
use Rattle.notifications.specs.declared.request.Paying.{Paying}
use Rattle.notifications.specs.declared.request.Subject.{Subject}
use Rattle.notifications.specs.declared.request.Subject.TheVariants.{Receive, Senders, Live, Dead}
use Rattle.notifications.specs.declared.request.Variant.{Variant}
use Rattle.notifications.specs.declared.request.Variant.TheVariants.{PortDestroyed, NoSenders, DeadName}

-- ---- what is asked for

abbrev pub variant_number : Variant → ℕ
variant_number PortDestroyed = 69
variant_number NoSenders = 70
variant_number DeadName = 72

-- A number of the call is out of order.
abbrev pub IsMisasked : Asked → Type 0
IsMisasked asked =
    ¬ (IsVariant asked.variant) ⊎ (asked.notify ≢ null_word) × (asked.disposition ≢ 18) × (asked.disposition ≢ 21) ⊎ (asked.variant ≡ 69) × (asked.sync ≢ 0)

-- ---- the right that pays

-- It goes so from what stands under its name.
pub record CanPay (w : WorldView) (task : ℕ) (g : Paying) : Type 0 where
  pub entry : Entry
  pub found : entry_at w task g.name ≡ Some entry
  pub is : copied_from g.given entry ≡ Some (record { left = g.left; mark = mark.Port g.port })

-- No right for a port goes so from the name.
abbrev pub GoesNot : WorldView → (task name : ℕ) → Disposition → Type 0
GoesNot w task name d = (e : Entry) (c : Copied) (p : ℕ) → entry_at w task name ≡ Some e → copied_from d e ≡ Some c → c.mark ≢ mark.Port p

-- what refuses it
abbrev pub capability_guards : State → (task name number : ℕ) → Guards
capability_guards s task name number = (¬ (IsLegalName s task name number) ⊎ IsDeadName s task name, kern_number InvalidCapability) ∷ []

-- This right pays, or none is given.
abbrev pub Pays : WorldView → (task : ℕ) → Asked → Option Paying → Type 0
Pays w task asked None = asked.notify ≡ null_word
Pays w task asked (Some g) =
    (asked.notify ≢ null_word) × (g.name ≡ asked.notify) × (disposition asked.disposition ≡ Some g.given) × (kind_sent g.given ≡ send_once) × CanPay w task g

-- ---- what is left once it has gone

-- what stands under a name of the task
abbrev pub entry_left : WorldView → (task : ℕ) → Option Paying → (name : ℕ) → Option Entry
entry_left w task None name = entry_at w task name
entry_left w task (Some g) name = if g.name == name then g.left else entry_at w task name

abbrev pub names_in : Option SpaceView → ℕ
names_in (Some space) = map.len space.names
names_in None = 0

abbrev pub fewer : Option Entry → ℕ → ℕ
fewer (Some entry) n = n
fewer None n = n - 1

-- how many names the task has
abbrev pub names_left : WorldView → (task : ℕ) → Option Paying → ℕ
names_left w task None = names_in (space_at w task)
names_left w task (Some g) = fewer g.left (names_in (space_at w task))

-- whether there is one right more
abbrev pub is_made_by : Option Paying → Bool
is_made_by None = false
is_made_by (Some g) = makes_right g.given

-- how many rights there are
abbrev pub rights_then : WorldView → Option Paying → ℕ
rights_then w paying = w.ledger.total + (if is_made_by paying then 1 else 0)

-- ---- what the request is on

-- The request of this variant, where this stands under the name, is on this.
abbrev pub IsSubject : Option Entry → Variant → (sync notify : ℕ) → Subject → Type 0
IsSubject o variant sync notify (Receive p) = (variant ≡ PortDestroyed) × ((e : Entry) × (o ≡ Some e) × (receive_named e ≡ Some p))
IsSubject o variant sync notify (Senders p) = (variant ≡ NoSenders) × ((e : Entry) × (o ≡ Some e) × (receive_named e ≡ Some p))
IsSubject o variant sync notify (Live p) = (variant ≡ DeadName) × ((e : Entry) × (o ≡ Some e) × (port_of e ≡ Some p))
IsSubject o variant sync notify (Dead n) = (variant ≡ DeadName) × (o ≡ Some (entry.DeadName n)) × (sync ≢ 0) × (notify ≢ null_word) × (n < most_references)

abbrev pub IsSetEntry : Option Entry → Type 0
IsSetEntry o = (set : ℕ) × (o ≡ Some (entry.Set set))

abbrev pub IsDeadEntry : Option Entry → Type 0
IsDeadEntry o = (n : ℕ) × (o ≡ Some (entry.DeadName n))

-- what refuses it
abbrev pub subject_guards : Option Entry → Variant → (sync notify : ℕ) → Guards
subject_guards o variant sync notify =
    (o ≡ None, kern_number InvalidName)
    ∷ ((variant ≢ DeadName) × (option_and_then receive_named o ≡ None) ⊎ (variant ≡ DeadName) × IsSetEntry o, kern_number InvalidRight)
    ∷ ((variant ≡ DeadName) × IsDeadEntry o × ((sync ≡ 0) ⊎ (notify ≡ null_word)), kern_number InvalidArgument)
    ∷ ((variant ≡ DeadName) × (o ≡ Some (entry.DeadName most_references)), kern_number UrefsOverflow)
    ∷ []

abbrev pub request_of : (task name : ℕ) → Subject → Request
request_of task name (Receive p) = port_destroyed p
request_of task name (Senders p) = no_senders p
request_of task name (Live p) = dead_name task name
request_of task name (Dead n) = dead_name task name

-- the notify port of the request that stands there
abbrev pub previous_in : RequestTablesView → (task name : ℕ) → Subject → Option ℕ
previous_in v task name subject = notify_of v (request_of task name subject)

-- ---- room

-- The right of the request that stands there comes out: its port is there.
abbrev pub ComesOut : WorldView → (previous : Option ℕ) → Type 0
ComesOut w previous = (q : ℕ) × (previous ≡ Some q) × IsLive w.ports q

-- There would be too many rights, or no name is left for the right that comes out.
abbrev pub LacksSpace : WorldView → (task : ℕ) → Option Paying → (previous : Option ℕ) → Type 0
LacksSpace w task paying previous = (most_rights < rights_then w paying) ⊎ (most_names ≤ names_left w task paying) × ComesOut w previous

-- ---- the whole

-- The request may be carried out so, where there is memory.
pub record MayRequest (w : WorldView) (task name : ℕ) (asked : Asked) (paying : Option Paying) (subject : Subject) (previous : Option ℕ) : Type 0 where
  pub good : ¬ (IsMisasked asked)
  pub variant : Variant
  pub number : variant_number variant ≡ asked.variant
  pub pays : Pays w task asked paying
  pub is_on : IsSubject (entry_left w task paying name) variant asked.sync asked.notify subject
  pub stood : previous ≡ previous_in w.requests task name subject
  pub space : ¬ (LacksSpace w task paying previous)
