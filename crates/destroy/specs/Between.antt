-- The tables between two parts of a step's end (this project's own): a chain of turns has led to them, and what the tables note for what comes
-- next is what the machine still has to do.
use Rattle.std.specs.Prelude.{◌≡◌, ◌≢◌, ℕ, ◌+◌, ◌<◌, ◌≤◌, ◌⊎◌, ◌↔◌, true, false, List, [], Some, Contains}
use Rattle.mach_types.specs.Tokens.{Kind, receive, send, in_message}
use Rattle.mach_model.specs.State.{State, senders}
use Rattle.mach_model.specs.Death.{IsOrphan, Dies, LiesAt}
use Rattle.mach_model.specs.Midway.{MidLawful}
use Rattle.mach_model.specs.Carried.{lying_among}
use Rattle.mach_model.specs.Notices.{Owed}
use Rattle.mach_model.specs.Settles.{tokens_of}
use Rattle.mach_model.specs.Turns.{Ending, IsReached, listed, lives_after, is_judged, IsWaiting}
use Rattle.port.specs.declared.Holder.TheVariants as holder
use Rattle.port.specs.Holding.{IsHeldBy}
use Rattle.port.specs.Ports.{PortView}
use Rattle.rights.specs.Ledger.{counts_of}
use Rattle.copyin_base.specs.Changes.{IsSenderless}
use Rattle.copyin_base.specs.Kept.{Kept}
use Rattle.copyin_base.specs.Shows.{HoldersAgree, CarriersAgree, RequestsStand}
use Rattle.copyin_base.specs.Worlds.{WorldView, port_at}
use Rattle.notifications.specs.SoFar.{Tied}

-- The port has lost its receive right: the step's own part took it, or it lies in a message of a doomed port that was destroyed.
abbrev pub HasLost : State → Ending → (port : ℕ) → Type 0
HasLost mid e p = IsOrphan mid p ⊎ ((q : ℕ) × (k : ℕ) × (listed e.doomed q ≡ true) × LiesAt mid receive p (in_message q k) × Contains e.destroyed (q, k))

-- The tables before the step show the old state; of them nothing matters here but how many send rights each port had.
abbrev pub TellsSenders : WorldView → State → Type 0
TellsSenders tables old = (p : ℕ) → (counts_of tables.ledger p).send ≡ senders old p

-- A send right that lies in a message of a port that dies: its port had send rights before the step.
abbrev pub HadSenders : (old mid : State) → Type 0
HadSenders old mid = (p q k : ℕ) → Dies mid q → LiesAt mid send p (in_message q k) → 0 < senders old p

-- Of the rights that lay in messages none has paid or gone but receive rights, those for doomed ports, and those of messages whose rights are lost.
abbrev pub IsUnlost : Ending → (emptied : List (ℕ × ℕ)) → Type 0
IsUnlost e emptied = (kind : Kind) (p q k : ℕ) → kind ≢ receive → listed e.doomed p ≡ false → ¬ (Contains emptied (q, k)) →
    lying_among (tokens_of e.paid) kind p (in_message q k) + lying_among e.gone kind p (in_message q k) ≡ 0

pub record Between (now : ℕ) (tables : WorldView) (old mid : State) (owed : Owed) (e : Ending) (w : WorldView) : Type 0 where
  pub lawful : MidLawful mid owed
  pub reached : IsReached old mid owed e
  pub tied : Tied now mid e w
  -- of the tables alone
  pub held : HoldersAgree w
  pub carriers : CarriersAgree w
  pub requested : RequestsStand w
  pub went : w.requests.names.went ≡ []
  -- nobody holds the right of a port that is yet to be judged, and of one that is doomed and not buried
  pub unjudged : (p : ℕ) → IsHeldBy w.ports p holder.Nobody → is_judged e p ≡ false
  pub doomed : (p : ℕ) (v : PortView Kept) → port_at w p ≡ Some v → (v.attributes.holder ≡ holder.Doomed) ↔ (listed e.doomed p ≡ true)
  pub lost : (p : ℕ) → HasLost mid e p → (is_judged e p ≡ true) ⊎ IsHeldBy w.ports p holder.Nobody
  -- a port that was buried had no message left
  pub emptied : (p k : ℕ) → listed e.buried p ≡ true → IsWaiting mid e (p, k) → Contains e.destroyed (p, k)
  -- each port that lives, had send rights and is senderless now is noted; each that is noted had send rights
  pub senders : TellsSenders tables old
  pub noted : (p : ℕ) → lives_after mid e p ≡ true → 0 < (counts_of tables.ledger p).send → IsSenderless w p → Contains w.ports.noted p
  pub had : (p : ℕ) → Contains w.ports.noted p → 0 < (counts_of tables.ledger p).send
  -- no port has a second receive right, and rights of messages that wait are there
  pub receivers : (p : ℕ) → (counts_of w.ledger p).receive ≤ 1
  pub unlost : IsUnlost e tied.waiting.emptied
  -- so that a port that loses its last send right with a destroyed message had one
  pub had_senders : HadSenders old mid
