-- How much there is to do at the end of a step, in the machine's own numbers (this project's own): what bounds the turns that a kernel takes.
use Rattle.std.specs.Prelude.{◌≡◌, ℕ, zero, suc, ◌+◌, ◌≤◌, Bool, true, false, length, if◌then◌else◌, ◌==◌, ◌&&◌, not}
use Rattle.mach_types.specs.Tokens.{Place, in_task, in_message, in_request, Token, count}
use Rattle.mach_model.specs.State.{State, queue}
use Rattle.mach_model.specs.Death.{IsSentAway}
use Rattle.mach_model.specs.Notices.{Owed}
use Rattle.mach_model.specs.Lawful.{tally}

-- how many of the first numbers pass, and what they have in all
abbrev pub number : (ℕ → Bool) → ℕ → ℕ
number f zero = 0
number f (suc n) = (if f n then 1 else 0) + number f n

abbrev pub total : (ℕ → ℕ) → ℕ → ℕ
total f zero = 0
total f (suc n) = f n + total f n

-- how many rights, ports that live, and messages queued at them there are together
abbrev pub work_in : State → ℕ
work_in s = length s.ledger + total (λ p. if s.live_port p then 1 + length (queue s p) else 0) s.ports_made

-- how many ports lived before and don't after
abbrev pub has_died : (old new : State) → ℕ → Bool
has_died old new p = old.live_port p && not (new.live_port p)

abbrev pub deaths : (old new : State) → ℕ
deaths old new = number (has_died old new) old.ports_made

-- how many messages waited at ports that died, with the notices that the step's own part owed there
abbrev pub destroyed_with : (mid : State) → Owed → (new : State) → ℕ
destroyed_with mid owed new = total (λ p. if has_died mid new p then length (queue mid p) + tally (λ y. y.0.port == p) owed else 0) mid.ports_made

-- The right lay in a message of a port that died, and its own port didn't; or the request that kept it has ended.
abbrev pub is_spent_at : (mid new : State) → (port : ℕ) → Place → Bool
is_spent_at mid new port (in_task task) = false
is_spent_at mid new port (in_message q k) = has_died mid new q && not (has_died mid new port)
is_spent_at mid new port (in_request request) = not (new.stands request)

abbrev pub is_spent : (mid new : State) → Token → Bool
is_spent mid new x = is_spent_at mid new x.port x.place

-- So many turns are no more than ports that died and ports that were sent away, messages that were destroyed, rights in them that were lost, and
-- rights of requests that ended.
pub record IsBounded (mid : State) (owed : Owed) (new : State) (turns : ℕ) : Type 0 where
  pub is_sent : ℕ → Bool
  pub sent : (p : ℕ) → is_sent p ≡ true → IsSentAway mid p
  pub most : turns ≤ deaths mid new + number is_sent mid.ports_made + destroyed_with mid owed new + count (is_spent mid new) mid.ledger
