-- What copying out gives a task: a name for each right of a message, in the tables.
use Rattle.std.specs.Prelude.{◌≡◌, ◌≢◌, ℕ, ◌+◌, ◌-◌, ◌<◌, ◌⊎◌, true, List, Option, Some, None, is_some, if◌then◌else◌, ◌==◌, min, MatchBool}
use Rattle.std.specs.FinMap as map
use Rattle.mach_types.specs.Numbers.{kind_sent, null_word, dead_word, most_names, most_references}
use Rattle.mach_types.specs.Tokens.{Kind, receive, send, send_once}
use Rattle.mach_types.specs.Bodies.{Through, OneFails}
use Rattle.tagged_names.specs.Names.{Given}
use Rattle.name_space.specs.declared.Entry.{Entry}
use Rattle.name_space.specs.declared.Entry.TheVariants as entry
use Rattle.name_space.specs.Entry.{port_named, send_references}
use Rattle.name_space.specs.Names.{Names, SpaceView, IsFreshFor, given_after, port_at}
use Rattle.port.specs.declared.Holder.TheVariants as Holder
use Rattle.port.specs.Ports.{PortView, PortsView, with_port}
use Rattle.rights.specs.Ledger.{LedgerView, taken}
use Rattle.rights.specs.declared.RightKind.TheVariants as right
use Rattle.copyin_base.specs.declared.Carried.{Carried}
use Rattle.copyin_base.specs.declared.Mark.{Mark}
use Rattle.copyin_base.specs.declared.Mark.TheVariants as mark
use Rattle.copyin_base.specs.Kept.{Kept}
use Rattle.copyin_base.specs.Worlds.{WorldView, space_at, with_space}

-- the entry of the port's name with one right more
abbrev pub joined : Kind → Entry → Entry
joined send (entry.Receive p) = entry.ReceiveAndSend p 1
joined send (entry.Send p n) = entry.Send p (min (n + 1) most_references)
joined send (entry.ReceiveAndSend p n) = entry.ReceiveAndSend p (min (n + 1) most_references)
joined receive (entry.Send p n) = entry.ReceiveAndSend p n
joined kind x = x

-- the entry of a name of its own
abbrev pub alone : Kind → (port : ℕ) → Entry
alone receive p = entry.Receive p
alone send p = entry.Send p 1
alone send_once p = entry.SendOnce p

-- A send or receive right comes under the task's name for the port.
pub record JoinsName (names : Names) (kind : Kind) (port word : ℕ) (after : Names) : Type 0 where
  pub not_once : kind ≢ send_once
  pub entry : Entry
  pub found : map.get names word ≡ Some entry
  pub named : port_named entry ≡ Some port
  pub rest : after ≡ map.insert names word (joined kind entry)

-- A right comes under a fresh name: a send-once right always, another where the task has no name for the port.
pub record TakesName (space : SpaceView) (kind : Kind) (port word : ℕ) (after : Names) : Type 0 where
  pub fresh : IsFreshFor space word
  pub unused : map.get space.names word ≡ None
  pub room : map.len space.names < most_names
  pub lone : kind ≢ send_once → (name : ℕ) → port_at space.names name ≢ Some port
  pub rest : after ≡ map.insert space.names word (alone kind port)

-- a send right that comes to as many references as there may be goes
abbrev pub ledger_joined : Kind → (port : ℕ) → Entry → LedgerView → LedgerView
ledger_joined send p x ledger = if send_references x == most_references then taken ledger p right.Send 1 else ledger
ledger_joined kind p x ledger = ledger

-- the ports where this one, if it is there, knows that the task has its receive right
abbrev pub port_held : (task port : ℕ) → PortsView Kept → Option (PortView Kept) → PortsView Kept
port_held task p ports (Some v) = with_port ports p (record v { attributes = record v.attributes { holder = Holder.Task task } })
port_held task p ports None = ports

-- the ports once the right came to the task: with a receive right its port knows the task
abbrev pub ports_given : Kind → (task port : ℕ) → PortsView Kept → PortsView Kept
ports_given receive task p ports = port_held task p ports (map.get ports.ports p)
ports_given kind task p ports = ports

-- The right for a port that is there comes to the task under this name; a fresh one is counted.
pub record GivesPort (old : WorldView) (task : ℕ) (kind : Kind) (port word : ℕ) (new : WorldView) : Type 0 where
  pub space : SpaceView
  pub there : space_at old task ≡ Some space
  pub after : Names
  pub room : ℕ
  pub counts : Option Given
  pub ledger : LedgerView
  pub given : ((j : JoinsName space.names kind port word after) × (ledger ≡ ledger_joined kind port j.entry old.ledger) × (room ≡ space.room) × (counts ≡ space.given))
      ⊎ (TakesName space kind port word after × (ledger ≡ old.ledger) × (room ≡ space.room - 1) × (counts ≡ given_after space.given word))
  pub rest : new ≡ record (with_space old task (record space { names = after; room = room; given = counts })) { ports = ports_given kind task port old.ports; ledger = ledger }

-- A right whose port isn't there any more is dead.
abbrev pub GivesMark : WorldView → (task : ℕ) → Kind → Mark → (word : ℕ) → WorldView → Type 0
GivesMark old task kind (mark.Port p) word new =
    MatchBool (is_some (map.get old.ports.ports p)) (GivesPort old task kind p word new) ((word ≡ dead_word) × (new ≡ old))
GivesMark old task kind mark.Null word new = (word ≡ null_word) × (new ≡ old)
GivesMark old task kind mark.Dead word new = (word ≡ dead_word) × (new ≡ old)

-- the rights are given from the front, each under its name
abbrev pub GivesAll : WorldView → (task : ℕ) → List Carried → List ℕ → WorldView → Type 0
GivesAll old task carried words new = Through (λ w c word mid. GivesMark w task (kind_sent c.given) c.mark word mid) old carried words new

-- ---- want of names, and of room for them

-- how many names more the task may have
abbrev pub free_names : SpaceView → ℕ
free_names space = most_names - map.len space.names

-- for how many fresh names there is room
abbrev pub free_room : SpaceView → ℕ
free_room space = space.room

-- none is left to the task
abbrev pub NoneLeft : (free : SpaceView → ℕ) → WorldView → (task : ℕ) → Type 0
NoneLeft free w task = (space : SpaceView) × (space_at w task ≡ Some space) × (free space ≡ 0)

-- the right needs a name of its own
abbrev pub NeedsOwn : WorldView → (task : ℕ) → Kind → (port : ℕ) → Type 0
NeedsOwn w task kind p = (kind ≡ send_once) ⊎ ((space : SpaceView) × (space_at w task ≡ Some space) × ((name : ℕ) → port_at space.names name ≢ Some p))

abbrev pub MarkLacks : (free : SpaceView → ℕ) → WorldView → (task : ℕ) → Kind → Mark → Type 0
MarkLacks free w task kind (mark.Port p) = (is_some (map.get w.ports.ports p) ≡ true) × NoneLeft free w task × NeedsOwn w task kind p
MarkLacks free w task kind mark.Null = ⊥
MarkLacks free w task kind mark.Dead = ⊥

-- None is left for one of them, once those before it were given.
abbrev pub Lack : (free : SpaceView → ℕ) → WorldView → (task : ℕ) → List Carried → Type 0
Lack free w task carried =
    OneFails (λ v c. MarkLacks free v task (kind_sent c.given) c.mark) (λ v c mid. (word : ℕ) × GivesMark v task (kind_sent c.given) c.mark word mid) w carried

-- The task's names don't suffice for the rights.
abbrev pub LackNames : WorldView → (task : ℕ) → List Carried → Type 0
LackNames w task carried = Lack free_names w task carried

-- They need more names than there is room for.
abbrev pub LackRoom : WorldView → (task : ℕ) → List Carried → Type 0
LackRoom w task carried = Lack free_room w task carried
