-- What a step's own part leaves to its end: the notices that it owes stand in the logs already, and ports that were lost wait to be judged.
use Rattle.std.specs.Prelude.{◌≡◌, ℕ, [], ◌∷◌, ◌++◌, length, Contains}
use Rattle.mach_types.specs.Tokens.{Token}
use Rattle.mach_model.specs.State.{State, at}
use Rattle.mach_model.specs.Death.{IsOrphan}
use Rattle.mach_model.specs.Notices.{Notice, Owed, notice_message, posted_tokens}
use Rattle.copyin_base.specs.Worlds.{WorldView}

-- The notice stands at the end of the log of the port of the right that pays for it, and brings its rights there.
abbrev pub with_notice : (now : ℕ) → State → Token × Notice → State
with_notice now s x = record s {
  log = at s.log x.0.port (s.log x.0.port ++ record { origin = now; message = notice_message x.0.port x.1 } ∷ []);
  ledger = posted_tokens (record { port = x.0.port; entry = length (s.log x.0.port); notice = x.1 }) ++ s.ledger;
}

-- the state midway where all that it owes was posted, in this order
abbrev pub with_posted : (now : ℕ) → (mid : State) → Owed → State
with_posted now mid [] = mid
with_posted now mid (x ∷ owed) = with_posted now (with_notice now mid x) owed

-- No port was judged yet, and no message destroyed; those were lost that are orphans.
pub record IsLeft (w : WorldView) (mid : State) : Type 0 where
  pub doomed : w.ports.doomed ≡ []
  pub destroyed : w.ports.destroyed ≡ []
  pub lost : (p : ℕ) → Contains w.ports.lost p → IsOrphan mid p
  pub orphans : (p : ℕ) → IsOrphan mid p → Contains w.ports.lost p
