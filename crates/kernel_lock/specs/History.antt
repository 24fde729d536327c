-- Histories: which are legal, what a pass knows of one, and how a call makes it longer.
use Rattle.std.specs.Prelude.{◌≡◌, ℕ, ◌==◌, Bool, true, false, List, [], ◌∷◌, ◌++◌, length, map, slice_index_or}
use Rattle.atomic_table.specs.Seated.{TableId}
use Rattle.mach_types.specs.declared.profiles.Profile.{Profile}
use Rattle.mach_types.specs.declared.calls.Event.{Event}
use Rattle.mach_types.specs.declared.calls.Reply.{Reply}
use Rattle.mach_types.specs.declared.touched.Touched.{Touched}
use Rattle.mach_model.specs.State.{State}
use Rattle.mach_model.specs.Machine.{RunIn}
use Rattle.kernel_lock.specs.declared.entry.Entry.{Entry}

abbrev pub events_of : List Entry → List Event
events_of log = map (λ (e : Entry). e.event) log

abbrev pub replies_of : List Entry → List Reply
replies_of log = map (λ (e : Entry). e.reply) log

-- The history's events and replies are a run of the machine by the profile, to this state.
abbrev pub LeadsTo : Profile → List Entry → State → Type 0
LeadsTo profile log s = RunIn profile (events_of log) (replies_of log) s

pub record Legal (profile : Profile) (log : List Entry) : Type 0 where
  pub state : State
  pub leads : LeadsTo profile log state

abbrev pub entry : ℕ → Event → Reply → Entry
entry caller event reply = record { caller = caller; event = event; reply = reply }

-- ---- callers

abbrev pub keep_if : Bool → Entry → List Entry → List Entry
keep_if true e es = e ∷ es
keep_if false e es = es

-- the calls of one caller
abbrev pub calls_by : ℕ → List Entry → List Entry
calls_by c [] = []
calls_by c (e ∷ es) = keep_if (e.caller == c) e (calls_by c es)

-- Each caller's count is the number of its calls.
abbrev pub CountsFit : List ℕ → List Entry → Type 0
CountsFit counts log = (c : ℕ) → slice_index_or counts c 0 ≡ length (calls_by c log)

-- ---- what is known of the history

-- The history begins with what was seen.
abbrev pub StartsWith : List Entry → List Entry → Type 0
StartsWith log seen = (rest : List Entry) × (log ≡ seen ++ rest)

-- What a watch knows: the board that it reads, of which profile its history is, and a beginning of it.
pub record Watched : Type 0 where
  pub table : TableId
  pub profile : Profile
  pub log : List Entry

-- What a pass knows: its board, of which profile its history is, which caller it is, a beginning of the history, and which ports and sets its last
-- recorded call may have changed.
pub record Known : Type 0 where
  pub table : TableId
  pub profile : Profile
  pub caller : ℕ
  pub seen : List Entry
  pub touched : Touched

-- ---- a call

-- The pass v made one call that was recorded, and is w: it has seen a history that is legal by its profile, begins with all that it had seen, ends
-- with the call, and has of the pass's own calls this one more.
pub record Extends (v : Known) (e : Entry) (w : Known) : Type 0 where
  pub table : w.table ≡ v.table
  pub profile : w.profile ≡ v.profile
  pub caller : w.caller ≡ v.caller
  pub between : List Entry
  pub seen : w.seen ≡ (v.seen ++ between) ++ e ∷ []
  pub legal : Legal v.profile w.seen
  pub own : calls_by v.caller w.seen ≡ calls_by v.caller v.seen ++ e ∷ []

-- The call stands at the end of the history, and the pass has seen it all.
pub record Recorded (before after : List Entry) (v w : Known) (e : Entry) : Type 0 where
  pub appended : after ≡ before ++ e ∷ []
  pub extends : Extends v e w
  pub whole : w.seen ≡ after

-- Nothing has happened.
pub record Unmade (before after : List Entry) (v w : Known) : Type 0 where
  pub log : after ≡ before
  pub pass : w ≡ v

-- What a call does to the history and to its pass.
abbrev pub Stepped : (before after : List Entry) (v w : Known) → Event → Reply → Type 0
Stepped before after v w event Reply.NoRecord = Unmade before after v w
Stepped before after v w event reply = Recorded before after v w (entry v.caller event reply)

-- The same, of the pass alone.
abbrev pub Called : (v w : Known) → Event → Reply → Type 0
Called v w event Reply.NoRecord = w ≡ v
Called v w event reply = Extends v (entry v.caller event reply) w
