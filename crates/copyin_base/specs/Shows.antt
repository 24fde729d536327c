-- When the kernel's tables show a state of the machine: they agree with it at each task, name, port and request.
use Rattle.std.specs.Prelude.{◌≡◌, ℕ, ◌+◌, ◌<◌, ◌≤◌, ◌^◌, ◌%◌, Bool, true, List, [], ◌∷◌, length, Option, Some, is_some, Contains}
use Rattle.std.specs.Option.{option_map}
use Rattle.std.specs.FinMap as map
use Rattle.mach_types.specs.declared.profiles.Profile.{Profile}
use Rattle.mach_types.specs.declared.rights.Disposition.TheVariants.{MoveReceive}
use Rattle.mach_types.specs.Tokens.{receive, send, send_once, Token, count, is_of, is_held}
use Rattle.mach_types.specs.Messages.{Entry}
use Rattle.mach_model.specs.State.{State, Target, Names, queue}
use Rattle.mach_model.specs.Telling.{one_if}
pub use Rattle.mach_model.specs.Unused.{came_by_once, onces_queued}
use Rattle.mach_model.specs.Lawful.{IsLawful}
use Rattle.name_space.specs.declared.Entry.{Entry as Named}
use Rattle.name_space.specs.declared.Entry.TheVariants as named
use Rattle.name_space.specs.Entry.{port_named, port_of, has_receive, send_references}
use Rattle.name_space.specs.Names.{SpaceView}
use Rattle.tagged_names.specs.Names.{Given, count_of}
use Rattle.port.specs.declared.Holder.TheVariants as Holder
use Rattle.port.specs.Ports.{PortView, IsLive, sets_in}
use Rattle.port_set.specs.declared.SetRecord.{SetRecord}
use Rattle.port_set.specs.Sets.{SetsView}
use Rattle.request_table.specs.declared.Request.{Request as NameRequest}
use Rattle.request_table.specs.Requests.{key_of}
use Rattle.rights.specs.Ledger.{LedgerView, counts_of}
use Rattle.tables_base.specs.declared.message.Mark.TheVariants as mark
use Rattle.tables_base.specs.Kept.{Kept, Keeps}
use Rattle.copyin_base.specs.Requests.{notify_of, RequestsAgree}
use Rattle.copyin_base.specs.Worlds.{WorldView, has_generations, space_in, entry_in, entry_at, port_at, IsIdle}

abbrev pub target_of : Named → Target
target_of (named.Receive p) = Target.port p
target_of (named.Send p n) = Target.port p
target_of (named.ReceiveAndSend p n) = Target.port p
target_of (named.SendOnce p) = Target.once p
target_of (named.DeadName n) = Target.dead n
target_of (named.Set set) = Target.set set

-- Send references under a name are one or more.
abbrev pub HasCount : Named → Type 0
HasCount (named.Send p n) = 0 < n
HasCount (named.ReceiveAndSend p n) = 0 < n
HasCount entry = Unit {0}

-- The messages that are kept at the port are these entries, one by one.
abbrev pub AllKept : (port : ℕ) → List Kept → List Entry → Type 0
AllKept p [] [] = Unit {0}
AllKept p (m ∷ ms) (e ∷ es) = Keeps p m e.message × AllKept p ms es
AllKept p [] (e ∷ es) = ⊥
AllKept p (m ∷ ms) [] = ⊥

-- ---- the parts of a state that the tables tell of, each over what it speaks of alone

-- Where names have a generation, the counts of a task's fresh names are those of the machine, modulo 256.
pub record GivenAgrees (profile : Profile) (counts : Option Given) (given : ℕ → ℕ) : Type 0 where
  pub kind : is_some counts ≡ has_generations profile
  pub same : (c : Given) → counts ≡ Some c → (index : ℕ) → count_of c index ≡ given index % 256

-- Tasks and their names are those of the machine, as is the profile, and fresh names are counted as there.
pub record SpacesAgree (own : Profile) (spaces : List (Option SpaceView)) (live : ℕ → Bool) (number : ℕ) (names : ℕ → Names) (profile : Profile) (given : ℕ → ℕ → ℕ) : Type 0 where
  pub live_task : (task : ℕ) → is_some (space_in spaces task) ≡ live task
  pub tasks_made : length spaces ≡ number
  pub naming : (task name : ℕ) → map.get (names task) name ≡ option_map target_of (entry_in (space_in spaces task) name)
  pub names_kept : (task : ℕ) (space : SpaceView) → space_in spaces task ≡ Some space → map.len space.names ≡ map.len (names task)
  pub counted : (task name : ℕ) (entry : Named) → entry_in (space_in spaces task) name ≡ Some entry → HasCount entry
  pub same_profile : own ≡ profile
  pub counts_given : (task : ℕ) (space : SpaceView) → space_in spaces task ≡ Some space → GivenAgrees profile space.given (given task)
  -- a task that wasn't made was given none
  pub none_given : (task index : ℕ) → number ≤ task → given task index ≡ 0

-- A port's name counts the task's rights for it.
pub record ReferencesAgree (spaces : List (Option SpaceView)) (tokens : List Token) : Type 0 where
  pub references : (task name : ℕ) (entry : Named) (p : ℕ) → entry_in (space_in spaces task) name ≡ Some entry → port_named entry ≡ Some p →
      (count (is_held task receive p) tokens ≡ one_if (has_receive entry)) × (count (is_held task send p) tokens ≡ send_references entry)

-- The table of a live port tells of its queue and of its attributes.
pub record PortAgrees (v : PortView Kept) (p : ℕ) (entries : List Entry) (of_limit of_make_send of_sequence : ℕ) (of_sets : List ℕ) : Type 0 where
  pub waiting : AllKept p v.queue entries
  pub limit : v.attributes.limit ≡ of_limit
  pub make_send : v.attributes.make_send ≡ of_make_send
  pub sequence : v.attributes.sequence ≡ of_sequence
  pub sets : sets_in v ≡ of_sets

abbrev pub ShowsPort : PortView Kept → State → ℕ → Type 0
ShowsPort v s p = PortAgrees v p (queue s p) (s.limit p) (s.make_send p) (s.sequence p) (s.sets_of p)

-- Each count of rights is that of the ledger. Of the send-once rights, those that queued messages go by are counted apart: at a port that
-- lives, since messages of a dead one were destroyed.
pub record CountsAgree (ledger : LedgerView) (live : ℕ → Bool) (tokens : List Token) (queued : ℕ → ℕ) (p : ℕ) : Type 0 where
  pub entered : map.contains_key ledger.counts p ≡ live p
  pub receivers : (counts_of ledger p).receive ≡ count (is_of receive p) tokens
  pub senders : (counts_of ledger p).send ≡ count (is_of send p) tokens
  pub once_rights : (counts_of ledger p).send_once + (counts_of ledger p).destination ≡ count (is_of send_once p) tokens
  pub destinations : live p ≡ true → (counts_of ledger p).destination ≡ queued p

abbrev pub ShowsCounts : WorldView → State → ℕ → Type 0
ShowsCounts w s p = CountsAgree w.ledger s.live_port s.ledger (onces_queued s) p

-- Each set stands under its task's name for it.
pub record SetsAgree (sets : SetsView) (owner : ℕ → Option ℕ) (number : ℕ) (names : ℕ → Names) : Type 0 where
  pub set_owner : (set : ℕ) → owner set ≡ option_map (λ r. r.owner) (map.get sets.sets set)
  pub sets_made : sets.made ≡ number
  pub set_named : (set : ℕ) (r : SetRecord) → map.get sets.sets set ≡ Some r → map.get (names r.owner) r.name ≡ Some (Target.set set)

-- ---- the whole state

-- The tables tell of the whole state, but for what was received and where entries came from.
pub record Agrees (w : WorldView) (s : State) : Type 0 where
  pub spaces : SpacesAgree w.profile w.spaces s.live_task s.tasks_made s.naming s.profile s.given
  pub open spaces use *
  pub rights : ReferencesAgree w.spaces s.ledger
  pub open rights use *
  -- ports
  pub live_port : (p : ℕ) → is_some (port_at w p) ≡ s.live_port p
  pub ports_made : w.ports.made ≡ s.ports_made
  pub ports : (p : ℕ) (v : PortView Kept) → port_at w p ≡ Some v → ShowsPort v s p
  -- counts
  pub counts : (p : ℕ) → ShowsCounts w s p
  pub total : w.ledger.total ≡ length s.ledger
  pub in_sets : SetsAgree w.sets s.set_owner s.sets_made s.naming
  pub open in_sets use *
  pub of_requests : RequestsAgree (notify_of w.requests) w.requests.names.went w.ports.made s.stands s.live_port s.ledger
  pub open of_requests use *

-- Where a port's receive right stands under a name, the port knows that the task holds it. This is of the tables alone.
pub record HoldersAgree (w : WorldView) : Type 0 where
  pub held : (task name : ℕ) (e : Named) (p : ℕ) → entry_at w task name ≡ Some e → port_named e ≡ Some p → has_receive e ≡ true →
      (v : PortView Kept) → port_at w p ≡ Some v → v.attributes.holder ≡ Holder.Task task

-- The message carries the port's receive right.
abbrev pub CarriesReceive : Kept → (port : ℕ) → Type 0
CarriesReceive m p = Contains m.rights (record { given = MoveReceive; mark = mark.Port p })

-- Where a queued message carries a port's receive right, the port was made, and knows that the queue holds it, where it is there. This is of the
-- tables alone.
pub record CarriersAgree (w : WorldView) : Type 0 where
  pub given : (q : ℕ) (u : PortView Kept) (m : Kept) (p : ℕ) → port_at w q ≡ Some u → Contains u.queue m → CarriesReceive m p → p < w.ports.made
  pub carried : (q : ℕ) (u : PortView Kept) (m : Kept) (p : ℕ) → port_at w q ≡ Some u → Contains u.queue m → CarriesReceive m p →
      (v : PortView Kept) → port_at w p ≡ Some v → v.attributes.holder ≡ Holder.QueueOf q

-- The request is kept by its own name, under which a right stands for its port, which is there.
pub record IsOnName (w : WorldView) (key : ℕ) (r : NameRequest) : Type 0 where
  pub own : key_of r ≡ key
  pub small : r.name < 2 ^ 32
  pub entry : Named
  pub found : entry_at w r.task r.name ≡ Some entry
  pub for_port : port_of entry ≡ Some r.port
  pub live : IsLive w.ports r.port

-- Each request stands on a name or a port that is there. This is of the tables alone.
pub record RequestsStand (w : WorldView) : Type 0 where
  pub on_names : (key : ℕ) (r : NameRequest) → map.get w.requests.names.requests key ≡ Some r → IsOnName w key r
  pub no_senders : (p : ℕ) → map.contains_key w.requests.no_senders.map p ≡ true → IsLive w.ports p
  pub port_destroyed : (p : ℕ) → map.contains_key w.requests.port_destroyed.map p ≡ true → IsLive w.ports p

-- For each send-once right that no queued message goes by a message slot is spare, so that what comes by the right has one. This is of the
-- tables alone.
abbrev pub SlotsSuffice : WorldView → Type 0
SlotsSuffice w = w.ledger.unused ≤ w.ports.spare

-- They agree with a state of which all is true that is true of every state that the machine reaches, and nothing is left for a step's end.
pub record Shows (w : WorldView) (s : State) : Type 0 where
  pub agrees : Agrees w s
  pub holders : HoldersAgree w
  pub carriers : CarriersAgree w
  pub slots : SlotsSuffice w
  pub requested : RequestsStand w
  pub idle : IsIdle w
  pub lawful : IsLawful s
