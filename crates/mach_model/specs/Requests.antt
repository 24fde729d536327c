-- Requests for notices (Port Manipulation Interface, `mach_port_request_notification`). That the notify right is copied in before the
-- name is judged, and that the right kept before comes out last, is this project's own choice.
use Rattle.std.specs.Prelude.{◌≡◌, ◌≢◌, ℕ, ◌+◌, ◌≤◌, ◌⊎◌, true, false, [], ◌∷◌, Some}
use Rattle.mach_types.specs.Numbers.{null_word, dead_word}
use Rattle.mach_types.specs.Tokens.{send_once, Request, no_senders, port_destroyed, dead_name, in_task, in_request, token, Moves, count}
use Rattle.mach_types.specs.Messages.{to_port}
use Rattle.mach_model.specs.State.{State, Target, lookup, with_name, senders, request_at}
use Rattle.mach_model.specs.Death.{same_place, LiesAt}
use Rattle.mach_model.specs.CopyIn.{CopyRight}
use Rattle.mach_model.specs.CopyOut.{Named}
use Rattle.mach_model.specs.Notices.{no_more_senders, name_died, Owed}

-- the request that a variant on this name means
abbrev pub RequestOn : State → (task name variant : ℕ) → Request → Type 0
RequestOn s task name variant request =
    (variant ≡ 69) × ((p : ℕ) × (lookup s task name ≡ Some (Target.port p)) × (request ≡ port_destroyed p))
    ⊎ (variant ≡ 70) × ((p : ℕ) × (lookup s task name ≡ Some (Target.port p)) × (request ≡ no_senders p))
    ⊎ (variant ≡ 72) × (request ≡ dead_name task name)

-- ---- the right that the request kept before the event

-- It comes out under a fresh name. Where there was none, the name is 0; where its port is dead, 0xffffffff.
abbrev pub GivesBack : (task : ℕ) → Request → (before copied : State) → (name : ℕ) → State → Type 0
GivesBack task request before copied name new =
    (before.stands request ≡ false) × (name ≡ null_word) × (new ≡ copied)
    ⊎ (before.stands request ≡ true) × (count (λ x. same_place (in_request request) x.place) before.ledger ≡ 0) × (name ≡ dead_word)
    × (new ≡ record copied { stands = request_at copied.stands request false })
    ⊎ ((q : ℕ) × (named : State) × (before.stands request ≡ true) × LiesAt before send_once q (in_request request)
    × Named task name (Target.once q) copied named
    × Moves copied.ledger new.ledger (token send_once q (in_request request) ∷ []) (token send_once q (in_task task) ∷ [])
    × (new ≡ record named { stands = request_at copied.stands request false; ledger = new.ledger }))

-- ---- the new right

-- the port of the request has no senders, and its make-send count is so high that this is told at once
abbrev pub HasNoSenders : State → Request → (sync : ℕ) → Type 0
HasNoSenders s (no_senders p) sync = (senders s p ≡ 0) × (sync ≤ s.make_send p)
HasNoSenders s (port_destroyed p) sync = ⊥
HasNoSenders s (dead_name task name) sync = ⊥

-- the right that was copied in for the request goes to a notice
abbrev pub Spends : Request → (port : ℕ) → State → State → Type 0
Spends request q back mid = Moves back.ledger mid.ledger (token send_once q (in_request request) ∷ []) []

-- It is kept, or is used at once: to tell of no senders, or of a name that is dead and gets a reference more.
abbrev pub Keeps : (task name : ℕ) → (sync : ℕ) → Request → (port : ℕ) → State → State → Owed → Type 0
Keeps task name sync request q back mid owed =
    ((p : ℕ) × (request ≡ no_senders p) × HasNoSenders back request sync × Spends request q back mid × (mid ≡ record back { ledger = mid.ledger })
    × (owed ≡ (token send_once q (in_request request), no_more_senders (back.make_send p)) ∷ []))
    ⊎ ((n : ℕ) × (request ≡ dead_name task name) × (lookup back task name ≡ Some (Target.dead n)) × Spends request q back mid
    × (mid ≡ record (with_name task name (Target.dead (n + 1)) back) { ledger = mid.ledger })
    × (owed ≡ (token send_once q (in_request request), name_died name) ∷ []))
    ⊎ ¬ (HasNoSenders back request sync) × ((n : ℕ) → request ≡ dead_name task name → lookup back task name ≢ Some (Target.dead n))
    × (mid ≡ record back { stands = request_at back.stands request true }) × (owed ≡ [])

-- ---- the whole

-- The notify right is copied in, where there is one; the right kept before comes out; the new one is kept or used.
pub record Requests (task name variant sync notify number previous : ℕ) (old mid : State) (owed : Owed) : Type 0 where
  pub request : Request
  pub copied : State
  pub back : State
  pub copy : (notify ≡ null_word) × (copied ≡ old) × (mid ≡ back) × (owed ≡ [])
      ⊎ (notify ≢ null_word) × ((q : ℕ) × CopyRight task (in_request request) number notify old (to_port q) copied
      × Keeps task name sync request q back mid owed)
  pub on : RequestOn copied task name variant request
  pub given_back : GivesBack task request old copied previous back
