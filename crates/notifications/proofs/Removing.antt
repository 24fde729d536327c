-- The names of a task that ends go one after the other, each with what stood there: what that changes in the tables, and what they are between
-- two names. The code leaves the names in place; `InPlace` ties its tables to these.
use Rattle.std.specs.Prelude.{◌≡◌, ℕ, ◌≤◌, ◌⊎◌, Bool, true, false, List, [], filter, not, All, Option, Some, None, if◌then◌else◌}
use Rattle.std.specs.FinMap as map
use Rattle.mach_types.specs.Tokens.{send_once, Request, Token, Moves, count, is_held, is_in_task}
use Rattle.mach_model.specs.State.{State, Target, Names, at}
use Rattle.mach_model.specs.Lawful.{LawfulNames}
use Rattle.mach_model.specs.References.{unused_among}
use Rattle.mach_model.specs.Tasks.{ends_with}
use Rattle.name_space.specs.declared.Entry.{Entry}
use Rattle.name_space.specs.declared.Entry.TheVariants as entry
use Rattle.port_set.specs.Sets.{removed, IsDisbanded}
use Rattle.rights.specs.declared.RightKind.TheVariants as kind
use Rattle.rights.specs.Ledger.{counts_of, taken}
use Rattle.copyin_base.specs.declared.Notice.TheVariants as notice
use Rattle.copyin_base.specs.Changes.{PutsLeft, NotesSenderless, NotesSenders}
use Rattle.copyin_base.specs.Posted.{with_posted, IsLeft}
use Rattle.copyin_base.specs.Shows.{Agrees, HoldersAgree, CarriersAgree, SlotsSuffice, RequestsStand, Shows}
use Rattle.copyin_base.specs.Stands.{Stands}
use Rattle.copyin_base.specs.Worlds.{WorldView, entry_at}
use Rattle.copyin_base.specs.Losing.{LosesPort, Posts}

-- ---- a name goes

-- So many send rights go, the last of the name; this is left under it, and the port is noted if it has no send rights now.
pub record SendsGo (old : WorldView) (task name port references : ℕ) (left : Option Entry) (new : WorldView) : Type 0 where
  pub named : WorldView
  pub puts : PutsLeft old task name left named
  pub notes : NotesSenderless (record named { ledger = taken named.ledger port kind.Send references }) port new

-- The name goes with a receive right alone.
pub record ReceiveGoes (old : WorldView) (task name port : ℕ) (new : WorldView) : Type 0 where
  pub named : WorldView
  pub puts : PutsLeft old task name None named
  pub loses : LosesPort named port new

-- The name goes with a send-once right, whose port is told.
pub record OnceGoes (old : WorldView) (task name port : ℕ) (new : WorldView) : Type 0 where
  pub named : WorldView
  pub puts : PutsLeft old task name None named
  pub posts : Posts named port notice.SendOnce new
  pub slots : SlotsSuffice new

-- The name goes with a set, whose members are in none now.
pub record SetGoes (old : WorldView) (task name set : ℕ) (new : WorldView) : Type 0 where
  pub named : WorldView
  pub puts : PutsLeft old task name None named
  pub disbanded : IsDisbanded named.ports new.ports set
  pub rest : new ≡ record named { ports = new.ports; sets = removed named.sets set }

-- The name goes with what stood there.
abbrev pub EntryGoes : WorldView → (task name : ℕ) → Entry → WorldView → Type 0
EntryGoes old task name (entry.Receive p) new = ReceiveGoes old task name p new
EntryGoes old task name (entry.Send p n) new = SendsGo old task name p n None new
EntryGoes old task name (entry.ReceiveAndSend p n) new =
    (mid : WorldView) × SendsGo old task name p n (Some (entry.Receive p)) mid × ReceiveGoes mid task name p new
EntryGoes old task name (entry.SendOnce p) new = OnceGoes old task name p new
EntryGoes old task name (entry.DeadName n) new = PutsLeft old task name None new
EntryGoes old task name (entry.Set set) new = SetGoes old task name set new

pub record NameGoes (old : WorldView) (task name : ℕ) (new : WorldView) : Type 0 where
  pub entry : Entry
  pub found : entry_at old task name ≡ Some entry
  pub loses : EntryGoes old task name entry new

-- ---- between two names

-- what is left of a task: its names, the requests that stand, and the rights; and what is gone of it
pub record Part : Type 0 where
  pub names : Names
  pub stands : Request → Bool
  pub disbanded : ℕ → Bool
  pub gone : List Token
  pub kept : List Token

abbrev pub with_part : State → (task : ℕ) → Part → State
with_part s task x = record s {
  naming = at s.naming task x.names;
  stands = x.stands;
  set_owner = λ set. if x.disbanded set then None else s.set_owner set;
  sets_of = λ p. filter (λ set. not (x.disbanded set)) (s.sets_of p);
  ledger = x.kept;
}

-- Names went, each with its rights, its set and the request on it.
pub record IsPart (s : State) (task : ℕ) (x : Part) : Type 0 where
  pub fewer : (name : ℕ) (target : Target) → map.get x.names name ≡ Some target → map.get (s.naming task) name ≡ Some target
  pub named : LawfulNames x.names (λ kind p. count (is_held task kind p) x.kept)
  pub stood : (r : Request) → (x.stands r ≡ s.stands r) ⊎ (x.stands r ≡ false) × (ends_with task r ≡ true)
  pub owned : (set : ℕ) → x.disbanded set ≡ true → s.set_owner set ≡ Some task
  pub moves : Moves s.ledger x.kept x.gone []
  pub own : All (λ y. is_in_task task y.place ≡ true) x.gone

-- The tables show the state before but for such a part, with the notices that are owed; start are the tables before.
pub record ShowsPart (now : ℕ) (start : WorldView) (task : ℕ) (s : State) (w : WorldView) : Type 0 where
  pub part : Part
  pub is_part : IsPart s task part
  pub agrees : Agrees w (with_posted now (with_part s task part) (unused_among part.gone))
  pub holders : HoldersAgree w
  pub carriers : CarriersAgree w
  pub slots : SlotsSuffice w
  pub requested : RequestsStand w
  pub notes : NotesSenders start w
  pub left : IsLeft w (with_part s task part)
  -- no more send rights than before are counted, and each send-once right of the task is one that no queued message goes by
  pub sends : (p : ℕ) → (counts_of w.ledger p).send ≤ (counts_of start.ledger p).send
  pub onces : (p : ℕ) → count (is_held task send_once p) part.kept ≤ (counts_of w.ledger p).send_once

pub record EndsFrom (start : WorldView) (task : ℕ) (w : WorldView) : Type 0 where
  pub shows : (now : ℕ) (s : State) → Shows start s → ShowsPart now start task s w

-- The task is ending, in tables that showed a state before.
pub record IsEnding (w : WorldView) (task : ℕ) : Type 0 where
  pub start : WorldView
  pub stands : Stands start
  pub ends : EndsFrom start task w

pub record IsEndingAt (w : WorldView) (task name : ℕ) (e : Entry) : Type 0 where
  pub ending : IsEnding w task
  pub found : entry_at w task name ≡ Some e

abbrev pub HasNoNames : WorldView → (task : ℕ) → Type 0
HasNoNames w task = (name : ℕ) → entry_at w task name ≡ None
