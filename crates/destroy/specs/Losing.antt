-- The rights of a destroyed message are lost one by one: what one comes to in the tables, and what is so between two of them.
use Rattle.std.specs.Prelude.{◌≡◌, ◌≢◌, ℕ, ◌+◌, ◌<◌, ◌≤◌, ◌⊎◌, ◌↔◌, true, false, List, [], ◌∷◌, ◌++◌, reverse, map as list_map, drop, Some, All, Contains}
use Rattle.std.specs.Option.{option_to_list}
use Rattle.mach_types.specs.Numbers.{kind_sent}
use Rattle.mach_types.specs.Tokens.{Kind, receive, send, send_once, in_message, Token}
use Rattle.mach_types.specs.Messages.{Mark as MachineMark}
use Rattle.mach_model.specs.State.{State}
use Rattle.mach_model.specs.Carried.{lying_among, rights_count}
use Rattle.mach_model.specs.Midway.{MidLawful}
use Rattle.mach_model.specs.Notices.{Owed}
use Rattle.mach_model.specs.Turns.{Ending, IsReached, listed, lives_after, is_judged, IsWaiting}
use Rattle.port.specs.declared.Holder.TheVariants as holder
use Rattle.port.specs.Holding.{IsHeldBy}
use Rattle.port.specs.Ports.{PortView}
use Rattle.rights.specs.Ledger.{counts_of, IsEntered}
use Rattle.copyin_base.specs.declared.Carried.{Carried}
use Rattle.copyin_base.specs.declared.Mark.{Mark}
use Rattle.copyin_base.specs.declared.Mark.TheVariants as mark
use Rattle.copyin_base.specs.declared.Notice.TheVariants.{SendOnce}
use Rattle.copyin_base.specs.Changes.{IsSenderless}
use Rattle.copyin_base.specs.Kept.{Kept, mark_of}
use Rattle.copyin_base.specs.Shows.{HoldersAgree, CarriersAgree, RequestsStand, SlotsSuffice}
use Rattle.copyin_base.specs.Worlds.{WorldView, port_at}
use Rattle.copyin_base.specs.Losing.{CanPost, LosesSends, Posts}
use Rattle.notifications.specs.SoFar.{IsSoFar, AgreesOf, HoldersTell, AreEntries}
use Rattle.destroy.specs.Between.{HasLost, TellsSenders, IsUnlost, HadSenders}
use Rattle.destroy.specs.Paying.{LivesIn}
use Rattle.destroy.specs.Stages.{IsJudged, IsCount, SameSlots}

-- ---- one right, in the tables

-- The right can be lost: its port lives.
abbrev pub CanLoseOf : Kind → (port : ℕ) → WorldView → Type 0
CanLoseOf receive port w = Unit {0}
CanLoseOf send port w = IsEntered w.ledger port × (0 < (counts_of w.ledger port).send)
CanLoseOf send_once port w = CanPost w port

-- It goes, or its port is told, in one turn; a receive right stays.
abbrev pub LosesOf : Kind → (port : ℕ) → (old : WorldView) → (turns : ℕ) → (new : WorldView) → Type 0
LosesOf receive port old turns new = (turns ≡ 0) × (new ≡ old)
LosesOf send port old turns new = (turns ≡ 1) × LosesSends old port 1 new
LosesOf send_once port old turns new = (turns ≡ 1) × Posts old port SendOnce new

abbrev pub CanLoseMark : Kind → Mark → WorldView → Type 0
CanLoseMark kind (mark.Port p) w = LivesIn w p → CanLoseOf kind p w
CanLoseMark kind mark.Null w = Unit {0}
CanLoseMark kind mark.Dead w = Unit {0}

-- A right for a port that doesn't live stays until the port is buried.
abbrev pub LosesMark : Kind → Mark → (old : WorldView) → (turns : ℕ) → (new : WorldView) → Type 0
LosesMark kind (mark.Port p) old turns new = LivesIn old p × LosesOf kind p old turns new ⊎ ¬ (LivesIn old p) × (turns ≡ 0) × (new ≡ old)
LosesMark kind mark.Null old turns new = (turns ≡ 0) × (new ≡ old)
LosesMark kind mark.Dead old turns new = (turns ≡ 0) × (new ≡ old)

abbrev pub CanLose : WorldView → Carried → Type 0
CanLose w c = CanLoseMark (kind_sent c.given) c.mark w

abbrev pub LosesRight : (old : WorldView) → Carried → (turns : ℕ) → (new : WorldView) → Type 0
LosesRight old c turns new = LosesMark (kind_sent c.given) c.mark old turns new

-- ---- what is so between turns

-- What `Between` says of the tables alone.
pub record Framed (mid : State) (e : Ending) (w : WorldView) : Type 0 where
  pub held : HoldersAgree w
  pub carriers : CarriersAgree w
  pub requested : RequestsStand w
  pub went : w.requests.names.went ≡ []
  pub unjudged : (p : ℕ) → IsHeldBy w.ports p holder.Nobody → is_judged e p ≡ false
  pub doomed : (p : ℕ) (v : PortView Kept) → port_at w p ≡ Some v → (v.attributes.holder ≡ holder.Doomed) ↔ (listed e.doomed p ≡ true)
  pub lost : (p : ℕ) → HasLost mid e p → (is_judged e p ≡ true) ⊎ IsHeldBy w.ports p holder.Nobody

-- What `Between` says, but for messages that wait and ports that were noted.
pub record Loose (now : ℕ) (tables : WorldView) (old mid : State) (owed : Owed) (e : Ending) (w : WorldView) : Type 0 where
  pub lawful : MidLawful mid owed
  pub reached : IsReached old mid owed e
  pub state : State
  pub so_far : IsSoFar now mid e state
  pub agrees : AgreesOf (lives_after mid e) w state
  pub holders : HoldersTell w state e.destroyed
  pub slots : SlotsSuffice w
  pub framed : Framed mid e w
  pub senders : TellsSenders tables old
  pub receivers : (p : ℕ) → (counts_of w.ledger p).receive ≤ 1
  pub had_senders : HadSenders old mid
  pub emptied : (p k : ℕ) → listed e.buried p ≡ true → IsWaiting mid e (p, k) → Contains e.destroyed (p, k)

-- ---- in the middle of a message

-- the rights with their kinds, as the machine has them
abbrev pub rights_of : List Carried → List (Kind × MachineMark)
rights_of cs = list_map (λ c. (kind_sent c.given, mark_of c.mark)) cs

-- all rights that a message carries but its destination's
abbrev pub carried_in : Kept → List Carried
carried_in m = option_to_list m.reply ++ m.rights

-- The rights of this destroyed message are being lost; these are yet to be.
pub record Amid (now : ℕ) (tables : WorldView) (old mid : State) (owed : Owed) (e : Ending) (message : ℕ × ℕ) (rest : List Carried) (w : WorldView) : Type 0 where
  pub loose : Loose now tables old mid owed e w
  pub stage : IsJudged mid e w
  pub noted : (p : ℕ) → lives_after mid e p ≡ true → 0 < (counts_of tables.ledger p).send → IsSenderless w p → Contains w.ports.noted p
  pub had : (p : ℕ) → Contains w.ports.noted p → 0 < (counts_of tables.ledger p).send
  pub waiting : List (ℕ × ℕ)
  pub emptied : List (ℕ × ℕ)
  pub parts : e.destroyed ≡ reverse (message ∷ waiting) ++ emptied
  pub are : AreEntries loose.state w.ports.destroyed waiting
  pub lost : All (λ m. All (λ (x : Token). x.place ≡ in_message m.0 m.1 → listed e.doomed x.port ≡ true) e.left) emptied
  pub unlost : IsUnlost e (message ∷ emptied)
  -- of the message's rights for ports that live just these are left
  pub there : (kind : Kind) (p : ℕ) → kind ≢ receive → lives_after mid e p ≡ true → lying_among e.left kind p (in_message message.0 message.1) ≡ rights_count kind p (rights_of rest)

-- Some of the rights have been lost, and those are left.
abbrev pub LosesTo : (rights left : List Carried) → WorldView → (turns : ℕ) → WorldView → Type 0
LosesTo rights left w turns v = (now : ℕ) (tables : WorldView) (old mid : State) (owed : Owed) (e : Ending) (message : ℕ × ℕ) (rest : List Carried) →
    Amid now tables old mid owed e message (rights ++ rest) w → (f : Ending) × Amid now tables old mid owed f message (left ++ rest) v × IsCount e.turns f.turns turns × SameSlots e w f v × (v.ports.destroyed ≡ w.ports.destroyed)

-- These rights are next.
pub record IsLosing (rights : List Carried) (w : WorldView) : Type 0 where
  pub now : ℕ
  pub tables : WorldView
  pub old : State
  pub mid : State
  pub owed : Owed
  pub ending : Ending
  pub message : ℕ × ℕ
  pub rest : List Carried
  pub amid : Amid now tables old mid owed ending message (rights ++ rest) w

-- ---- a message

-- The first of the destroyed messages is taken out, and its slot is spare.
abbrev pub without_first : WorldView → WorldView
without_first w = record w { ports = record w.ports { spare = w.ports.spare + 1; destroyed = drop 1 w.ports.destroyed } }
