-- Carrying a request out, in the tables: the one that stands there goes, its right comes out, and the new one is kept, or told at once.
use Rattle.std.specs.Prelude.{[], ◌∷◌, ◌≡◌, ℕ, ◌+◌, ◌-◌, ◌<◌, ◌≤◌, ◌⊎◌, true, Option, Some, None, is_some}
use Rattle.std.specs.FinMap as map
use Rattle.mach_types.specs.Numbers.{most_references}
use Rattle.name_space.specs.declared.Entry.TheVariants as entry
use Rattle.number_map.specs.Maps.{MapView}
use Rattle.port.specs.Ports.{PortView}
use Rattle.rights.specs.Ledger.{counts_of}
use Rattle.request_table.specs.declared.Request.{Request}
use Rattle.request_table.specs.Requests.{RequestsView, name_key, with_request, without_request}
use Rattle.copyin_base.specs.declared.Mark.{Mark}
use Rattle.copyin_base.specs.declared.Mark.TheVariants as mark
use Rattle.copyin_base.specs.declared.Notice.TheVariants as notice
use Rattle.copyin_base.specs.Changes.{PutsLeft}
use Rattle.copyin_base.specs.Kept.{Kept}
use Rattle.copyin_base.specs.Asking.{port_taken}
use Rattle.request_table.specs.Tables.{RequestTablesView}
use Rattle.copyin_base.specs.Worlds.{WorldView, entry_at, port_at}
use Rattle.mach_types.specs.declared.rights.Disposition.TheVariants.{MoveSendOnce}
use Rattle.mach_types.specs.Tokens.{send_once}
use Rattle.copyin.specs.Copies.{CopiesRight}
use Rattle.copyin.specs.Planned.{CanCopy}
use Rattle.copyin_base.specs.Shows.{SlotsSuffice}
use Rattle.copyout.specs.Giving.{GivesMark}
use Rattle.copyout.specs.Ready.{CanGive}
use Rattle.notifications.specs.declared.request.Paying.{Paying}
use Rattle.notifications.specs.declared.request.Subject.{Subject}
use Rattle.notifications.specs.declared.request.Subject.TheVariants.{Receive, Senders, Live, Dead}
use Rattle.copyin_base.specs.Losing.{CanPost, Posts}
use Rattle.notifications.specs.Room.{HasPlace}

-- ---- the request that stands there goes

abbrev pub name_taken : RequestsView → Option Request → RequestsView
name_taken v (Some r) = without_request v r
name_taken v None = v

-- the requests without the one on the subject, if it stands; its place stays
abbrev pub taken_away : RequestTablesView → (task name : ℕ) → Subject → RequestTablesView
taken_away v task name (Receive p) = record v { port_destroyed = port_taken v.port_destroyed p }
taken_away v task name (Senders p) = record v { no_senders = port_taken v.no_senders p }
taken_away v task name (Live p) = record v { names = name_taken v.names (map.get v.names.requests (name_key task name)) }
taken_away v task name (Dead n) = record v { names = name_taken v.names (map.get v.names.requests (name_key task name)) }

-- what stands for its right
abbrev pub mark_for : (previous : Option ℕ) → Mark
mark_for None = mark.Null
mark_for (Some p) = mark.Port p

-- ---- the new one is kept

-- None stands on the subject.
abbrev pub IsNotKept : RequestTablesView → (task name : ℕ) → Subject → Type 0
IsNotKept v task name (Receive p) = map.get v.port_destroyed.map p ≡ None
IsNotKept v task name (Senders p) = map.get v.no_senders.map p ≡ None
IsNotKept v task name (Live p) = map.get v.names.requests (name_key task name) ≡ None
IsNotKept v task name (Dead n) = map.get v.names.requests (name_key task name) ≡ None

abbrev pub kept_at : MapView ℕ → (port notify : ℕ) → MapView ℕ
kept_at m p notify = record { map = map.insert m.map p notify; room = m.room - 1 }

-- the requests with one on the subject; none is kept on a name that is dead
abbrev pub with_kept : RequestTablesView → (task name : ℕ) → Subject → (notify : ℕ) → RequestTablesView
with_kept v task name (Receive p) notify = record v { port_destroyed = kept_at v.port_destroyed p notify }
with_kept v task name (Senders p) notify = record v { no_senders = kept_at v.no_senders p notify }
with_kept v task name (Live p) notify = record v { names = with_request v.names (record { task = task; name = name; port = p; notify = notify }) }
with_kept v task name (Dead n) notify = v

-- ---- or told at once

-- The port has no send rights, and was made so many, which are enough.
pub record IsTold (w : WorldView) (port sync number : ℕ) : Type 0 where
  pub none : (counts_of w.ledger port).send ≡ 0
  pub enough : sync ≤ number
  pub v : PortView Kept
  pub there : port_at w port ≡ Some v
  pub made : v.attributes.make_send ≡ number

-- The dead name has a reference more, and that it died is told.
pub record TellsDead (old : WorldView) (task name references notify : ℕ) (new : WorldView) : Type 0 where
  pub mid : WorldView
  pub more : PutsLeft old task name (Some (entry.DeadName (references + 1))) mid
  pub posts : Posts mid notify (notice.DeadName name) new

-- A request can be kept on the subject, or told at once.
pub record CanPut (w : WorldView) (task name : ℕ) (subject : Subject) (notify : ℕ) : Type 0 where
  pub none : IsNotKept w.requests task name subject
  pub place : HasPlace w.requests subject
  pub post : CanPost w notify
  pub port : (p : ℕ) → subject ≡ Senders p → is_some (port_at w p) ≡ true
  pub dead : (n : ℕ) → subject ≡ Dead n → (entry_at w task name ≡ Some (entry.DeadName n)) × (n < most_references)

abbrev pub KeepsNew : WorldView → (task name : ℕ) → Subject → (notify : ℕ) → WorldView → Type 0
KeepsNew old task name subject notify new = new ≡ record old { requests = with_kept old.requests task name subject notify }

abbrev pub Puts : WorldView → (task name sync : ℕ) → Subject → (notify : ℕ) → WorldView → Type 0
Puts old task name sync (Receive p) notify new = KeepsNew old task name (Receive p) notify new
Puts old task name sync (Live p) notify new = KeepsNew old task name (Live p) notify new
Puts old task name sync (Dead n) notify new = TellsDead old task name n notify new
Puts old task name sync (Senders p) notify new =
    ((number : ℕ) × IsTold old p sync number × Posts old notify (notice.NoSenders number) new)
    ⊎ ((number : ℕ) → ¬ (IsTold old p sync number)) × KeepsNew old task name (Senders p) notify new

-- ---- the whole

abbrev pub without : WorldView → (task name : ℕ) → Subject → WorldView
without w task name subject = record w { requests = taken_away w.requests task name subject }

-- The right of the request that stands there can be given once that was taken away. Where none stands, nothing is taken away.
pub record CanEnd (w : WorldView) (task name : ℕ) (subject : Subject) (previous : Option ℕ) : Type 0 where
  pub gives : CanGive (without w task name subject) task (record { given = MoveSendOnce; mark = mark_for previous } ∷ [])
  pub nothing : previous ≡ None → without w task name subject ≡ w

-- It comes out under this name.
abbrev pub Ends : WorldView → (task name : ℕ) → Subject → (previous : Option ℕ) → (word : ℕ) → WorldView → Type 0
Ends old task name subject previous word new = GivesMark (without old task name subject) task send_once (mark_for previous) word new

abbrev pub Goes : WorldView → (task : ℕ) → Paying → WorldView → Type 0
Goes old task g new = CopiesRight old task g.given g.name (mark.Port g.port) new

-- The right that pays can go; then that of the request that stood there can be given, and the new one be kept or told at once.
pub record CanRenew (w : WorldView) (task name : ℕ) (g : Paying) (subject : Subject) (previous : Option ℕ) : Type 0 where
  pub copies : CanCopy w task g.name (record { given = g.given; mark = mark.Port g.port })
  pub ends : (mid : WorldView) → Goes w task g mid → CanEnd mid task name subject previous
  pub puts : (mid : WorldView) → Goes w task g mid → (word : ℕ) (out : WorldView) → Ends mid task name subject previous word out → CanPut out task name subject g.port

pub record Renews (old : WorldView) (task name sync : ℕ) (g : Paying) (subject : Subject) (previous : Option ℕ) (word : ℕ) (new : WorldView) : Type 0 where
  pub mid : WorldView
  pub copies : Goes old task g mid
  pub out : WorldView
  pub ends : Ends mid task name subject previous word out
  pub puts : Puts out task name sync subject g.port new
  pub slots : SlotsSuffice new

-- It can be renewed where a right pays, and else be taken away.
abbrev pub CanCarryOut : WorldView → (task name : ℕ) → Option Paying → Subject → (previous : Option ℕ) → Type 0
CanCarryOut w task name (Some g) subject previous = CanRenew w task name g subject previous
CanCarryOut w task name None subject previous = CanEnd w task name subject previous

abbrev pub CarriesOut : WorldView → (task name sync : ℕ) → Option Paying → Subject → (previous : Option ℕ) → (word : ℕ) → WorldView → Type 0
CarriesOut old task name sync (Some g) subject previous word new = Renews old task name sync g subject previous word new
CarriesOut old task name sync None subject previous word new = Ends old task name subject previous word new
