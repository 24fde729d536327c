-- Where a request for a notice wants memory, and what it leaves of it for what is to come.
use Rattle.std.specs.Prelude.{◌≡◌, ℕ, ◌+◌, ◌≤◌, ◌⊎◌, ◌==◌, ◌&&◌, not, true, max, is_some, if◌then◌else◌, Option, Result, Ok, Err}
use Rattle.mach_types.specs.declared.calls.Reply.{Reply}
use Rattle.mach_types.specs.Numbers.{null_word}
use Rattle.mach_types.specs.declared.codes.Code.{Code}
use Rattle.copyin_base.specs.Wanted.{room_of, LacksRoomFor, LacksSlots}
use Rattle.copyin_base.specs.Worlds.{WorldView}
use Rattle.notifications.specs.declared.request.Asked.{Asked}
use Rattle.notifications.specs.declared.request.Paying.{Paying}
use Rattle.notifications.specs.declared.request.Subject.{Subject}
use Rattle.notifications.specs.Requesting.{ComesOut, MayRequest}
use Rattle.notifications.specs.Room.{made_by, LacksPlace}

-- ---- want of memory

-- The request may be carried out so, but for room that is lacking: for the name that the right before it comes out under, for the request itself,
-- or for a slot.
pub record WantsToRequest (w : WorldView) (task name : ℕ) (asked : Asked) : Type 0 where
  pub paying : Option Paying
  pub subject : Subject
  pub previous : Option ℕ
  pub may : MayRequest w task name asked paying subject previous
  pub lacks : ComesOut w previous × LacksRoomFor w task 1 ⊎ (is_some paying ≡ true) × LacksPlace w.requests subject ⊎ LacksSlots w (made_by paying)

-- ---- what it leaves

-- how many send-once rights it makes: one where the right that is given is made
abbrev pub made_for : Asked → ℕ
made_for asked = if not (asked.notify == null_word) && asked.disposition == 21 then 1 else 0

-- For each task there is room for one fresh name more at most, from none. There is a slot for each send-once right that no queued message goes by,
-- and for so many more.
pub record MakesSlotsFor (old : WorldView) (more : ℕ) (new : WorldView) : Type 0 where
  pub rooms : (task : ℕ) → room_of new task ≤ max (room_of old task) 1
  pub slots : new.ports.spare ≡ max old.ports.spare (old.ledger.unused + more)

-- Done, it makes no slot, and uses one where it posts a notice: by each notice there is one fewer of the send-once rights that no queued message
-- goes by. Or no more slots are left than there are of those. Refused, it makes none beyond these.
abbrev pub LeavesSlots : WorldView → Asked → Result Reply Code → WorldView → Type 0
LeavesSlots old asked (Ok reply) new =
    ((new.ports.spare + old.ledger.unused + made_for asked ≤ old.ports.spare + new.ledger.unused) ⊎ (new.ports.spare ≤ new.ledger.unused))
    × (new.ports.lost ≡ old.ports.lost)
LeavesSlots old asked (Err code) new = new.ports.spare ≤ max old.ports.spare new.ledger.unused

-- A task's room for names grows by one at most, from none; slots are made only where fewer were spare than there are send-once rights then that no
-- queued message goes by.
pub record LeavesRequest (old : WorldView) (asked : Asked) (result : Result Reply Code) (new : WorldView) : Type 0 where
  pub rooms : (task : ℕ) → room_of new task ≤ max (room_of old task) 1
  pub slots : LeavesSlots old asked result new
