-- States in which nothing is left for a step's end, and lawful states midway.
use Rattle.std.specs.Prelude.{◌≡◌, ◌⊎◌, ℕ, ℤ, negsuc, true, false, Bool, [], ◌&&◌, List, Some}
use Rattle.std.proofs.Common.{sym, subst, arith, inl, inr}
use Rattle.mach_types.specs.declared.calls.Event.{Event}
use Rattle.mach_types.specs.declared.calls.Reply.{Reply}
use Rattle.mach_types.specs.Tokens.{receive, Request, in_message, Token, count, is_of, Kind, no_senders, port_destroyed, dead_name, in_request}
use Rattle.mach_model.specs.State.{State, Target, lookup, Holds}
use Rattle.mach_model.specs.Death.{same_place, IsOrphan}
use Rattle.mach_model.specs.Notices.{Owed}
use Rattle.mach_model.specs.NameGuards.{NamesReceive}
use Rattle.mach_model.specs.Lawful.{IsLawful}
use Rattle.mach_model.specs.Carried.{lying}
use Rattle.mach_model.specs.Midway.{MidLawful}
use Rattle.mach_model.proofs.Moving.{one_at_most, no_orphans, none_owed}

-- ---- States in which no request stands and no message carries a receive right, and answers by which no right is lost. The worked runs that
-- have no death are made of such steps.

abbrev pub NamesOnce : State → (task name : ℕ) → Type 0
NamesOnce s task name = (p : ℕ) × (lookup s task name ≡ Some (Target.once p))

abbrev pub LosesWhole : State → (task name : ℕ) → Type 0
LosesWhole s task name = NamesReceive s task name ⊎ NamesOnce s task name

abbrev pub Removes : (right : ℕ) → (delta : ℤ) → Type 0
Removes right delta = ((right ≡ 1) ⊎ (right ≡ 2)) × (delta ≡ negsuc 0)

-- No receive right and no send-once right is lost, and no request is made.
abbrev pub LosesNone : State → Event → Reply → Type 0
LosesNone s (Event.TaskTerminate task) reply = ⊥
LosesNone s (Event.Deallocate task name) reply = ¬ (NamesOnce s task name)
LosesNone s (Event.Destroy task name) reply = ¬ (LosesWhole s task name)
LosesNone s (Event.ModRefs task name right delta) reply = ¬ (Removes right delta)
LosesNone s (Event.RequestNotification task name variant sync notify number) reply = ⊥
LosesNone s (Event.Receive task name room large) (Reply.TooLarge n) = large ≡ true
LosesNone s (Event.ReceiveAgain task waited room large) (Reply.TooLarge n) = large ≡ true
LosesNone s event reply = Unit {0}

-- No receive right lies in a message.
abbrev pub NoneCarried : (ledger : List Token) → Type 0
NoneCarried ledger = (p k q : ℕ) → count (λ x. is_of receive q x && same_place (in_message p k) x.place) ledger ≡ 0

abbrev pub NoRequests : (stands : Request → Bool) → Type 0
NoRequests stands = (r : Request) → stands r ≡ false

pub record IsQuiet (s : State) : Type 0 where
  pub none_carried : NoneCarried s.ledger
  pub none_stands : NoRequests s.stands

-- A step's own part loses nothing: it leaves what is true at a step's end, and nothing is owed.
pub record IsStill (s : State) (owed : Owed) : Type 0 where
  pub lawful : IsLawful s
  pub quiet : IsQuiet s
  pub none_owed : owed ≡ []

-- ---- A lawful state is lawful midway too: nothing is an orphan, and nothing is owed. And back.

pub mid_lawful : (s : State) → IsLawful s → MidLawful s []
mid_lawful s l = record {
  tasks = l.tasks;
  naming = l.naming;
  ports = l.ports;
  numbers = l.numbers;
  receivers = record { most_receive = one_at_most s.live_port s.ledger l.one_receive l.no_rights; members = λ p set in_it. let h = l.members p set in_it in (h.0, h.1, inl h.2) };
  room = no_orphans s [] l.one_receive (none_owed s.live_port) (let h = l.few_rights in omega (arith, h));
  sets = l.sets;
  membership = l.membership;
  logs = l.logs;
  messages = l.messages;
  requests = l.requests;
  standing = record { ended = λ r not on. l.ended r not };
  ground = l.ground;
}

-- Nothing is owed.
pub unowed : (mid : State) (owed : Owed) → owed ≡ [] → MidLawful mid [] → MidLawful mid owed
unowed mid owed none m = subst (MidLawful mid) (sym none) m

-- A state that is lawful midway is lawful where nothing is an orphan and no request that ended with its name still keeps a right.
module _ (s : State) (l : MidLawful s []) (one : (p : ℕ) → s.live_port p ≡ true → count (is_of receive p) s.ledger ≡ 1)
    (ended : (task name : ℕ) → s.stands (dead_name task name) ≡ false → (kind : Kind) (q : ℕ) → lying s kind q (in_request (dead_name task name)) ≡ 0) where
  all_ended : (r : Request) → s.stands r ≡ false → (kind : Kind) (q : ℕ) → lying s kind q (in_request r) ≡ 0
  all_ended (no_senders p) e = l.ended (no_senders p) e (λ h. h)
  all_ended (port_destroyed p) e = l.ended (port_destroyed p) e (λ h. h)
  all_ended (dead_name task name) e = ended task name e

  holds : (task p : ℕ) → Holds s task receive p ⊎ IsOrphan s p → Holds s task receive p
  holds task p (inl h) = h
  holds task p (inr is) = absurd (omega (arith, one p is.0, is.1))

  pub calm_lawful : IsLawful s
  calm_lawful = record {
    tasks = l.tasks;
    naming = l.naming;
    ports = l.ports;
    numbers = l.numbers;
    receivers = record { one_receive = one; members = λ p set in_it. let h = l.members p set in_it in (h.0, h.1, holds h.0 p h.2) };
    few_rights = let h = l.few_rights in omega (arith, h);
    sets = l.sets;
    membership = l.membership;
    logs = l.logs;
    messages = l.messages;
    requests = l.requests;
    standing = record { ended = all_ended };
    ground = l.ground;
  }
