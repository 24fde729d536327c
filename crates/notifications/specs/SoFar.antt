-- The tables while a step ends, between two turns of `Turns` (this project's own). They show a state in which the ports that were buried
-- have died, what was destroyed has left the queues, and what was posted stands in the logs.
use Rattle.std.specs.Prelude.{◌≡◌, ℕ, ◌+◌, ◌<◌, ◌≤◌, ◌⊎◌, ◌↔◌, Bool, true, false, List, [], ◌∷◌, ◌++◌, map, filter, length, reverse, slice_get, option_map, Some, is_some, if◌then◌else◌, ◌==◌, All, Contains}
use Rattle.mach_types.specs.Tokens.{receive, Request, dead_name, in_task, in_message, Token, weigh, count, is_of}
use Rattle.mach_types.specs.Messages.{Entry}
use Rattle.mach_model.specs.State.{State, lookup, at}
use Rattle.mach_model.specs.Death.{LiesAt}
use Rattle.mach_model.specs.Notices.{Notice, notice_message, Posted, all_posted_tokens}
use Rattle.mach_model.specs.Settles.{due_notices, settled_target}
use Rattle.mach_model.specs.Lawful.{tally}
use Rattle.mach_model.specs.Unused.{onces_queued}
use Rattle.mach_model.specs.Turns.{Ending, listed, is_among, lives_after, outcome, is_judged}
use Rattle.port.specs.declared.Holder.{Holder}
use Rattle.port.specs.declared.Holder.TheVariants as holder
use Rattle.port.specs.Ports.{PortView}
use Rattle.rights.specs.Ledger.{counts_of}
use Rattle.copyin_base.specs.Kept.{Kept, Keeps}
use Rattle.copyin_base.specs.Requests.{notify_of, RequestsAgree}
use Rattle.copyin_base.specs.Worlds.{WorldView, port_at}
use Rattle.copyin_base.specs.Shows.{SpacesAgree, ReferencesAgree, ShowsPort, CountsAgree, SetsAgree, SlotsSuffice}

-- ---- what was posted up to now

-- each notice with its port, in the order in which they were posted
abbrev pub due_so_far : Ending → List (ℕ × Notice)
due_so_far e = due_notices (map (λ y. y.1) e.begun ++ e.paid)

-- those of a port, as entries of its log
abbrev pub entries_at : (now p : ℕ) → List (ℕ × Notice) → List Entry
entries_at now p ys = map (λ y. record { origin = now; message = notice_message p y.1 }) (filter (λ y. y.0 == p) ys)

-- They come one after the other to the ends of logs that are so long.
abbrev pub posted_from : (ℕ → ℕ) → List (ℕ × Notice) → List Posted
posted_from ends [] = []
posted_from ends (y ∷ ys) = record { port = y.0; entry = ends y.0; notice = y.1 } ∷ posted_from (at ends y.0 (ends y.0 + 1)) ys

abbrev pub posted_so_far : State → Ending → List Posted
posted_so_far mid e = posted_from (λ p. length (mid.log p)) (due_so_far e)

-- ---- the state that is shown

-- as if the ports that were buried were all that is doomed
abbrev pub buried_alone : Ending → Ending
buried_alone e = record e { doomed = e.buried }

-- for a name on which a request ended no port lives
abbrev pub seen_for : State → (ended : List Request) → (live : ℕ → Bool) → (task name : ℕ) → State
seen_for mid ended live task name = record mid { live_port = λ p. if is_among ended (dead_name task name) then false else live p }

-- Ports, requests and names are those of an end where no more ports died than were buried: names of another doomed port are as they were, and so
-- are requests on it, but for those that ended.
pub record IsSoFar (now : ℕ) (mid : State) (e : Ending) (s : State) : Type 0 where
  pub live_port : (p : ℕ) → s.live_port p ≡ lives_after mid (buried_alone e) p
  pub stands : (r : Request) → s.stands r ≡ (if is_among e.ended r then false else (outcome mid (buried_alone e)).stands r)
  pub sets_of : (p : ℕ) → s.sets_of p ≡ (outcome mid (buried_alone e)).sets_of p
  pub make_send : (p : ℕ) → s.make_send p ≡ (outcome mid e).make_send p
  pub sequence : (p : ℕ) → s.sequence p ≡ (outcome mid e).sequence p
  pub names : (task name : ℕ) → lookup s task name ≡ option_map (settled_target mid (seen_for mid e.ended s.live_port task name) task name) (lookup mid task name)
  -- notices were appended, and what was destroyed was taken from the front
  pub log : (p : ℕ) → s.log p ≡ mid.log p ++ entries_at now p (due_so_far e)
  pub taken : (p : ℕ) → s.taken p ≡ mid.taken p + tally (λ m. m.0 == p) e.destroyed
  pub destroyed : (p k : ℕ) → Contains e.destroyed (p, k) ↔ ((mid.taken p ≤ k) × (k < s.taken p))
  -- the rights are those of which nothing has become, and those that notices brought to ports that are there
  pub ledger : (h : Token → ℕ) → weigh h s.ledger ≡ weigh h e.left + weigh h (all_posted_tokens (filter (λ (x : Posted). s.live_port x.port) (posted_so_far mid e)))
  pub rest : s ≡ record mid {
    live_port = s.live_port;
    stands = s.stands;
    sets_of = s.sets_of;
    make_send = s.make_send;
    sequence = s.sequence;
    naming = s.naming;
    log = s.log;
    taken = s.taken;
    ledger = s.ledger;
  }

-- ---- the tables

-- The tables tell of the whole state, as `Agrees` says, but for ports that are there and won't live. Of a port that doesn't live it isn't told
-- how many of the rights for it queued messages go by, since such messages may have been destroyed; nor of the rights for it that requests keep,
-- since such requests may have ended. All of these rights leave with the port.
pub record AgreesOf (lives : ℕ → Bool) (w : WorldView) (s : State) : Type 0 where
  pub spaces : SpacesAgree w.profile w.spaces s.live_task s.tasks_made s.naming s.profile s.given
  pub rights : ReferencesAgree w.spaces s.ledger
  pub live_port : (p : ℕ) → is_some (port_at w p) ≡ s.live_port p
  pub ports_made : w.ports.made ≡ s.ports_made
  pub ports : (p : ℕ) (v : PortView Kept) → port_at w p ≡ Some v → ShowsPort v s p
  pub counts : (p : ℕ) → CountsAgree w.ledger s.live_port s.ledger (λ q. if lives q then onces_queued s q else (counts_of w.ledger q).destination) p
  pub total : w.ledger.total ≡ length s.ledger
  pub in_sets : SetsAgree w.sets s.set_owner s.sets_made s.naming
  pub of_requests : RequestsAgree (notify_of w.requests) w.requests.names.went w.ports.made s.stands lives (filter (λ x. lives x.port) s.ledger)

-- The port's receive right was lost, or lies in a message that was destroyed.
abbrev pub IsWithNobody : State → (destroyed : List (ℕ × ℕ)) → (port : ℕ) → Type 0
IsWithNobody s destroyed p = (count (is_of receive p) s.ledger ≡ 0) ⊎ ((q : ℕ) × (k : ℕ) × LiesAt s receive p (in_message q k) × Contains destroyed (q, k))

-- Where the port's receive right lies. Nobody has that of a port that was lost, or is doomed.
abbrev pub IsHolder : State → (destroyed : List (ℕ × ℕ)) → (port : ℕ) → Holder → Type 0
IsHolder s destroyed p (holder.Task task) = LiesAt s receive p (in_task task)
IsHolder s destroyed p (holder.QueueOf q) = (k : ℕ) × LiesAt s receive p (in_message q k) × ¬ (Contains destroyed (q, k))
IsHolder s destroyed p holder.Nobody = IsWithNobody s destroyed p
IsHolder s destroyed p holder.Doomed = IsWithNobody s destroyed p

abbrev pub HoldersTell : WorldView → State → (destroyed : List (ℕ × ℕ)) → Type 0
HoldersTell w s destroyed = (p : ℕ) (v : PortView Kept) → port_at w p ≡ Some v → IsHolder s destroyed p v.attributes.holder

-- The messages are these entries, one by one.
abbrev pub AreEntries : State → List Kept → List (ℕ × ℕ) → Type 0
AreEntries s [] [] = Unit {0}
AreEntries s (m ∷ ms) (x ∷ xs) = ((entry : Entry) × (slice_get (s.log x.0) x.1 ≡ Some entry) × Keeps x.0 m entry.message) × AreEntries s ms xs
AreEntries s [] (x ∷ xs) = ⊥
AreEntries s (m ∷ ms) [] = ⊥

-- Each message that was destroyed waits, from the first, or its rights are lost but for those for doomed ports.
pub record AwaitLoss (messages : List Kept) (e : Ending) (s : State) : Type 0 where
  pub waiting : List (ℕ × ℕ)
  pub emptied : List (ℕ × ℕ)
  pub parts : e.destroyed ≡ reverse waiting ++ emptied
  pub are : AreEntries s messages waiting
  pub lost : All (λ m. All (λ x. x.place ≡ in_message m.0 m.1 → listed e.doomed x.port ≡ true) e.left) emptied

-- Between turns the tables tell of the state so far; ports live that aren't doomed.
pub record Tied (now : ℕ) (mid : State) (e : Ending) (w : WorldView) : Type 0 where
  pub state : State
  pub so_far : IsSoFar now mid e state
  pub agrees : AgreesOf (lives_after mid e) w state
  pub holders : HoldersTell w state e.destroyed
  pub slots : SlotsSuffice w
  pub waiting : AwaitLoss w.ports.destroyed e state

-- The port is there, nobody holds its receive right, and it is yet to be judged.
pub record Waits (w : WorldView) (e : Ending) (port : ℕ) : Type 0 where
  pub v : PortView Kept
  pub there : port_at w port ≡ Some v
  pub lost : v.attributes.holder ≡ holder.Nobody
  pub unjudged : is_judged e port ≡ false
