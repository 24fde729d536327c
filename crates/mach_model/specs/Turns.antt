-- The end of a step, turn by turn (this project's own): ports are judged, messages are destroyed, rights are lost, dead ports are
-- buried, and ports are told that they have no senders. `Settles` says what a chain of turns comes to that has nothing left to do.
use Rattle.std.specs.Prelude.{◌≡◌, ◌≢◌, ℕ, ◌+◌, ◌<◌, ◌≤◌, ◌⊎◌, Bool, true, false, List, [], ◌∷◌, ◌++◌, length, Option, Some, if◌then◌else◌, ◌==◌, ◌&&◌, ◌||◌, not, All, Contains}
use Rattle.mach_types.specs.Tokens.{receive, send, send_once, Request, no_senders, port_destroyed, dead_name, Place, in_message, in_request, Token, token, weigh, count, is_of}
use Rattle.mach_model.specs.State.{State, Target, lookup, senders, same_request}
use Rattle.mach_model.specs.Death.{CarriedAt, IsOrphan, IsSaved}
use Rattle.mach_model.specs.Notices.{Notice, port_deleted, port_sent, no_more_senders, right_unused, name_died, Owed}
use Rattle.mach_model.specs.Settles.{tokens_of}
use Rattle.mach_model.specs.Lawful.{tally}

-- ---- what was done so far

-- A notice that the step's own part posted, with the right that paid for it, and whether it is one of those owed: the others are
-- paid for by rights of requests whose names went.
abbrev pub Begun : Type 0
Begun = List (Bool × (Token × Notice))

abbrev pub owed_in : Begun → Owed
owed_in [] = []
owed_in (y ∷ ys) = if y.0 then y.1 ∷ owed_in ys else owed_in ys

abbrev pub went_in : Begun → Owed
went_in [] = []
went_in (y ∷ ys) = if y.0 then went_in ys else y.1 ∷ went_in ys

-- Notices stand in the order in which they were posted: first those that the step's own part posted, then those that were paid for.
pub record Ending : Type 0 where
  -- ports that die, ports that are sent away, dead ports that left, and ports that were told that they have no senders; and the requests that
  -- ended with their dead ports
  pub doomed : List ℕ
  pub saved : List ℕ
  pub ended : List Request
  pub buried : List ℕ
  pub told : List ℕ
  -- the port and entry of each message that was destroyed
  pub destroyed : List (ℕ × ℕ)
  pub begun : Begun
  -- of the rights after the step's own part those that nothing has become of, those that paid, and those that went
  pub left : List Token
  pub paid : Owed
  pub gone : List Token
  pub turns : ℕ

abbrev pub listed : List ℕ → ℕ → Bool
listed [] p = false
listed (q ∷ qs) p = p == q || listed qs p

abbrev pub is_among : List Request → Request → Bool
is_among [] r = false
is_among (q ∷ qs) r = same_request r q || is_among qs r

-- ---- what that leaves, but for names, logs and rights

abbrev pub lives_after : State → Ending → ℕ → Bool
lives_after mid e p = mid.live_port p && not (listed e.doomed p)

abbrev pub became_dead : State → Ending → Option Target → Bool
became_dead mid e (Some (Target.port p)) = not (lives_after mid e p)
became_dead mid e (Some (Target.once p)) = not (lives_after mid e p)
became_dead mid e target = false

abbrev pub has_ended : State → Ending → Request → Bool
has_ended mid e (no_senders p) = not (lives_after mid e p) || listed e.told p
has_ended mid e (port_destroyed p) = not (lives_after mid e p) || listed e.saved p
has_ended mid e (dead_name task name) = became_dead mid e (lookup mid task name)

abbrev pub outcome : State → Ending → State
outcome mid e = record mid {
  live_port = lives_after mid e;
  stands = λ r. mid.stands r && not (has_ended mid e r);
  sets_of = λ p. if listed e.saved p then [] else if lives_after mid e p then mid.sets_of p else [];
  make_send = λ p. if listed e.saved p then 0 else mid.make_send p;
  sequence = λ p. if listed e.saved p then 0 else mid.sequence p;
}

-- ---- what the turns speak of

abbrev pub is_judged : Ending → ℕ → Bool
is_judged e p = listed e.doomed p || listed e.saved p

-- The port has lost its receive right, or a doomed one's queue carries it.
abbrev pub IsFound : State → Ending → ℕ → Type 0
IsFound mid e p = IsOrphan mid p ⊎ ((q : ℕ) × (listed e.doomed q ≡ true) × CarriedAt mid p q)

abbrev pub AreJudged : State → Ending → Type 0
AreJudged mid e = (p : ℕ) → IsFound mid e p → is_judged e p ≡ true

-- a place in the queue of a doomed port
abbrev pub IsAtDoomed : Ending → Place → Type 0
IsAtDoomed e (in_message q k) = listed e.doomed q ≡ true
IsAtDoomed e place = ⊥

abbrev pub IsNameOf : ℕ → Option Target → Type 0
IsNameOf p (Some (Target.port q)) = q ≡ p
IsNameOf p (Some (Target.once q)) = q ≡ p
IsNameOf p target = ⊥

-- the port's own requests, and those on a name of it
abbrev pub IsRequestOf : State → ℕ → Request → Type 0
IsRequestOf mid p (no_senders q) = q ≡ p
IsRequestOf mid p (port_destroyed q) = q ≡ p
IsRequestOf mid p (dead_name task name) = IsNameOf p (lookup mid task name)

-- what the right of such a request tells when the port is dead
abbrev pub death_notice : Request → Notice
death_notice (no_senders p) = right_unused
death_notice (port_destroyed p) = right_unused
death_notice (dead_name task name) = name_died name

-- a request on a name that went in the step's own part
abbrev pub IsOnGone : State → Place → Type 0
IsOnGone mid (in_request (dead_name task name)) = mid.stands (dead_name task name) ≡ false
IsOnGone mid place = ⊥

-- Of the rights that are left some pay, in this order, and some go.
pub record SpendsRights (e f : Ending) (paying : Owed) (going : List Token) : Type 0 where
  pub left : (h : Token → ℕ) → weigh h e.left ≡ weigh h f.left + weigh h (tokens_of paying) + weigh h going
  pub paid : f.paid ≡ e.paid ++ paying
  pub gone : f.gone ≡ e.gone ++ going

-- ---- the beginning

-- The right of a request on a name that went has paid for this.
pub record PaidForName (mid : State) (x : Token × Notice) : Type 0 where
  pub task : ℕ
  pub name : ℕ
  pub once : x.0.kind ≡ send_once
  pub kept : x.0.place ≡ in_request (dead_name task name)
  pub went : mid.stands (dead_name task name) ≡ false
  pub tells : x.1 ≡ port_deleted name

pub record Begins (mid : State) (owed : Owed) (e : Ending) : Type 0 where
  pub owes : owed_in e.begun ≡ owed
  pub went : All (PaidForName mid) (went_in e.begun)
  pub rights : (h : Token → ℕ) → weigh h mid.ledger ≡ weigh h e.left + weigh h (tokens_of (went_in e.begun))
  pub all_went : All (λ x. ¬ (IsOnGone mid x.place)) e.left
  pub rest : e ≡ record {
    doomed = [];
    saved = [];
    ended = [];
    buried = [];
    told = [];
    destroyed = [];
    begun = e.begun;
    left = e.left;
    paid = [];
    gone = [];
    turns = 0;
  }

-- ---- the turns

-- A port that is found is doomed.
pub record Dooms (mid : State) (e f : Ending) : Type 0 where
  pub port : ℕ
  pub found : IsFound mid e port
  pub unjudged : is_judged e port ≡ false
  pub unsaved : ¬ (IsSaved mid port)
  pub rest : f ≡ record e { doomed = port ∷ e.doomed; turns = e.turns + 1 }

-- Or it is sent away: its receive right leaves the queue that carries it, and the right of its request pays.
pub record Saves (mid : State) (e f : Ending) : Type 0 where
  pub port : ℕ
  pub found : IsFound mid e port
  pub unjudged : is_judged e port ≡ false
  pub saved : IsSaved mid port
  pub going : List Token
  pub carried : All (λ x. (x.kind ≡ receive) × (x.port ≡ port) × IsAtDoomed e x.place) going
  pub takes : SpendsRights e f ((token send_once saved.notify (in_request (port_destroyed port)), port_sent port) ∷ []) going
  pub rest : f ≡ record e { saved = port ∷ e.saved; left = f.left; paid = f.paid; gone = f.gone; turns = e.turns + 1 }

-- A message of a doomed port is destroyed, or a notice that the step's own part posted there.
pub record DestroysDoomed (mid : State) (e f : Ending) : Type 0 where
  pub port : ℕ
  pub entry : ℕ
  pub doomed : listed e.doomed port ≡ true
  pub waits : mid.taken port ≤ entry
  pub within : entry < length (mid.log port) + tally (λ y. y.1.0.port == port) e.begun
  pub undestroyed : ¬ (Contains e.destroyed (port, entry))
  pub rest : f ≡ record e { destroyed = (port, entry) ∷ e.destroyed; turns = e.turns + 1 }

-- When all are judged, a right of a destroyed message is lost whose port lives: it pays, or goes.
pub record Loses (mid : State) (e f : Ending) : Type 0 where
  pub right : Token
  pub judged : AreJudged mid e
  pub lives : listed e.doomed right.port ≡ false
  pub destroyed : IsAtDoomed e right.place
  pub takes : (right.kind ≡ send_once) × SpendsRights e f ((right, right_unused) ∷ []) [] ⊎ (right.kind ≢ send_once) × SpendsRights e f [] (right ∷ [])
  pub rest : f ≡ record e { left = f.left; paid = f.paid; gone = f.gone; turns = e.turns + 1 }

-- The right of the request pays, since its own port lives.
pub record PaysAtEnd (e : Ending) (request : Request) (x : Token × Notice) : Type 0 where
  pub once : x.0.kind ≡ send_once
  pub lives : listed e.doomed x.0.port ≡ false
  pub kept : x.0.place ≡ in_request request
  pub tells : x.1 ≡ death_notice request

-- The request keeps no right that could pay.
abbrev pub IsOffRequest : Ending → Request → Token → Type 0
IsOffRequest e request x = x.place ≡ in_request request → listed e.doomed x.port ≡ true

-- A request of a doomed port ends, or one on a name of it: in a turn, where its right pays.
pub record EndsRequest (mid : State) (e f : Ending) : Type 0 where
  pub port : ℕ
  pub request : Request
  pub judged : AreJudged mid e
  pub doomed : listed e.doomed port ≡ true
  pub unburied : listed e.buried port ≡ false
  pub stands : mid.stands request ≡ true
  pub is_of : IsRequestOf mid port request
  pub unended : is_among e.ended request ≡ false
  pub paying : Owed
  pub pays : All (PaysAtEnd e request) paying
  pub takes : SpendsRights e f paying []
  pub all_left : All (IsOffRequest e request) f.left
  pub rest : f ≡ record e { ended = request ∷ e.ended; left = f.left; paid = f.paid; turns = e.turns + length paying }

-- A doomed port leaves with all rights for it, once its requests have ended, and those on its names.
pub record Buries (mid : State) (e f : Ending) : Type 0 where
  pub port : ℕ
  pub judged : AreJudged mid e
  pub doomed : listed e.doomed port ≡ true
  pub unburied : listed e.buried port ≡ false
  pub ended : (request : Request) → mid.stands request ≡ true → IsRequestOf mid port request → is_among e.ended request ≡ true
  pub going : List Token
  pub goes : All (λ x. x.port ≡ port) going
  pub takes : SpendsRights e f [] going
  pub all_left : All (λ x. x.port ≢ port) f.left
  pub rest : f ≡ record e { buried = port ∷ e.buried; left = f.left; gone = f.gone }

-- A port that lives, and had senders, is told that it has none: in a turn, where the right of its request pays.
pub record TellsSenderless (old mid : State) (e f : Ending) : Type 0 where
  pub port : ℕ
  pub judged : AreJudged mid e
  pub lives : lives_after mid e port ≡ true
  pub stands : mid.stands (no_senders port) ≡ true
  pub had : 0 < senders old port
  pub has_none : count (is_of send port) e.left ≡ 0
  pub untold : listed e.told port ≡ false
  pub paying : Owed
  pub pays : All (λ x. (x.0.kind ≡ send_once) × (x.0.place ≡ in_request (no_senders port)) × (x.1 ≡ no_more_senders ((outcome mid e).make_send port))) paying
  pub takes : SpendsRights e f paying []
  pub all_left : All (IsOffRequest e (no_senders port)) f.left
  pub rest : f ≡ record e { told = port ∷ e.told; left = f.left; paid = f.paid; gone = f.gone; turns = e.turns + length paying }

abbrev pub Turn : (old mid : State) → Ending → Ending → Type 0
Turn old mid e f = Dooms mid e f ⊎ Saves mid e f ⊎ DestroysDoomed mid e f ⊎ Loses mid e f ⊎ EndsRequest mid e f ⊎ Buries mid e f ⊎ TellsSenderless old mid e f

-- A chain of turns leads to it.
pub data IsReached (old mid : State) (owed : Owed) : Ending → Type 0 where
  begins : (e : Ending) → Begins mid owed e → IsReached old mid owed e
  turns : (e f : Ending) → IsReached old mid owed e → Turn old mid e f → IsReached old mid owed f

-- Nothing is left to do.
pub record IsDone (old mid : State) (e : Ending) : Type 0 where
  pub judged : AreJudged mid e
  pub lost : All (λ x. ¬ (IsAtDoomed e x.place)) e.left
  pub buried : (p : ℕ) → listed e.doomed p ≡ true → listed e.buried p ≡ true
  pub told : (p : ℕ) → mid.stands (no_senders p) ≡ true → lives_after mid e p ≡ true → 0 < senders old p → count (is_of send p) e.left ≡ 0 → listed e.told p ≡ true

-- a message of the port that waits, or a notice that the step's own part posted there
abbrev pub IsWaiting : State → Ending → ℕ × ℕ → Type 0
IsWaiting mid e m = (mid.taken m.0 ≤ m.1) × (m.1 < length (mid.log m.0) + tally (λ y. y.1.0.port == m.0) e.begun)
