-- What a step may do, but for what guards forbid: which code refuses what, and what calls that ask are told, `Machine` judges (this
-- project's own).
use Rattle.std.specs.Prelude.{◌≡◌, ◌≢◌, ℕ, ◌^◌, ◌<◌, ◌⊎◌, []}
use Rattle.mach_types.specs.declared.calls.Event.{Event}
use Rattle.mach_types.specs.declared.calls.Reply.{Reply}
use Rattle.mach_types.specs.declared.calls.Waited.{Waited}
use Rattle.mach_model.specs.State.{State, at, IsFreshFor, gives}
use Rattle.mach_model.specs.Tasks.{CreatesTask, EndsTask}
use Rattle.mach_model.specs.Names.{Makes, Renames, ChangesPort, JoinsSet, EntersSet, LeavesSet}
use Rattle.mach_model.specs.References.{Deallocates, Destroys, Modifies}
use Rattle.mach_model.specs.Transfer.{Inserts, Extracts}
use Rattle.mach_model.specs.Send.{Sends}
use Rattle.mach_model.specs.Receive.{waits_for, Receipt}
use Rattle.mach_model.specs.Requests.{Requests}
use Rattle.mach_model.specs.Notices.{Owed}
use Rattle.mach_model.specs.Settles.{Settles}

-- What an event that isn't refused does, up to the death of ports. A call that only asks changes nothing.
abbrev pub Does : (now : ℕ) → State → Event → Reply → State → Owed → Type 0
Does now old Event.TaskCreate (Reply.Task task) mid owed = CreatesTask old task mid × (owed ≡ [])
Does now old (Event.TaskTerminate task) (Reply.Code code) mid owed = (code ≡ 0) × EndsTask task old mid owed
Does now old (Event.Allocate task right) (Reply.Name name) mid owed =
    IsFreshFor old task name × Makes task right name (gives task name old) mid × (owed ≡ [])
Does now old (Event.AllocateName task right name) (Reply.Name told) mid owed = (told ≡ name) × Makes task right name old mid × (owed ≡ [])
Does now old (Event.Deallocate task name) (Reply.Code code) mid owed = (code ≡ 0) × Deallocates task name old mid owed
Does now old (Event.Destroy task name) (Reply.Code code) mid owed = (code ≡ 0) × Destroys task name old mid owed
Does now old (Event.ModRefs task name right delta) (Reply.Code code) mid owed = (code ≡ 0) × Modifies task name right delta old mid owed
Does now old (Event.GetRefs task name right) (Reply.Refs n) mid owed = (mid ≡ old) × (owed ≡ [])
Does now old (Event.NameType task name) (Reply.NameType n) mid owed = (mid ≡ old) × (owed ≡ [])
Does now old (Event.Names task) (Reply.Names entries) mid owed = (mid ≡ old) × (owed ≡ [])
Does now old (Event.Rename task o n) (Reply.Code code) mid owed = (code ≡ 0) × Renames task o n old mid × (owed ≡ [])
Does now old (Event.ReceiveStatus task name) (Reply.Status status) mid owed = (mid ≡ old) × (owed ≡ [])
Does now old (Event.SetQlimit task name n) (Reply.Code code) mid owed =
    (code ≡ 0) × ChangesPort old task name (λ p. record old { limit = at old.limit p n }) mid × (owed ≡ [])
Does now old (Event.SetMscount task name n) (Reply.Code code) mid owed =
    (code ≡ 0) × (n < 2 ^ 32) × ChangesPort old task name (λ p. record old { make_send = at old.make_send p n }) mid × (owed ≡ [])
Does now old (Event.SetSeqno task name n) (Reply.Code code) mid owed =
    (code ≡ 0) × (n < 2 ^ 32) × ChangesPort old task name (λ p. record old { sequence = at old.sequence p n }) mid × (owed ≡ [])
Does now old (Event.SetStatus task name) (Reply.Members members) mid owed = (mid ≡ old) × (owed ≡ [])
Does now old (Event.MoveMember task member after) (Reply.Code code) mid owed = (code ≡ 0) × JoinsSet task member after old mid × (owed ≡ [])
Does now old (Event.InsertMember task member set) (Reply.Code code) mid owed = (code ≡ 0) × EntersSet task member set old mid × (owed ≡ [])
Does now old (Event.ExtractMember task member set) (Reply.Code code) mid owed = (code ≡ 0) × LeavesSet task member set old mid × (owed ≡ [])
Does now old (Event.InsertRight task name from poly number) (Reply.Code code) mid owed =
    (code ≡ 0) × Inserts task name from poly number old mid × (owed ≡ [])
Does now old (Event.ExtractRight task name number to) (Reply.Right new_name kind) mid owed =
    Extracts task name number to new_name kind old mid × (owed ≡ [])
Does now old (Event.RequestNotification task name variant sync notify number) (Reply.Previous previous) mid owed =
    Requests task name variant sync notify number previous old mid owed
Does now old (Event.Send task bytes) (Reply.Code code) mid owed = (code ≡ 0) × Sends now task bytes old mid × (owed ≡ [])
Does now old (Event.Receive task name room large) reply mid owed =
    (waited : Waited) × waits_for task name old waited × Receipt old task waited room large reply mid owed
Does now old (Event.ReceiveAgain task waited room large) reply mid owed = Receipt old task waited room large reply mid owed
Does now old event reply mid owed = ⊥

-- A refusal has a code that isn't 0, and changes nothing.
pub record Declined (old : State) (reply : Reply) (new : State) : Type 0 where
  pub code : ℕ
  pub failed : code ≢ 0
  pub told : reply ≡ Reply.Code code
  pub same : new ≡ old

-- An event that isn't refused does its own part; then the step ends.
pub record Performed (now : ℕ) (old : State) (event : Event) (reply : Reply) (new : State) : Type 0 where
  pub mid : State
  pub owed : Owed
  pub does : Does now old event reply mid owed
  pub settles : Settles now old mid owed new

-- What step number now may do, from the old state to the new one.
abbrev pub Acts : (now : ℕ) → State → Event → Reply → State → Type 0
Acts now old event reply new = Declined old reply new ⊎ Performed now old event reply new
