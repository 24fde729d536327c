-- Where there is no room for one more name, right, port or set (this project's own limits).
use Rattle.std.specs.Prelude.{◌≡◌, ◌≢◌, ℕ, ◌≤◌, true, Some, ◌⊎◌, length}
use Rattle.std.specs.FinMap as map
use Rattle.mach_types.specs.Numbers.{most_names, most_rights, most_identities}
use Rattle.mach_types.specs.Tokens.{Kind, send_once, Place}
use Rattle.mach_types.specs.Messages.{Mark, to_port, null, dead, Message}
use Rattle.mach_types.specs.Bodies.{message_rights, OneFails}
use Rattle.mach_model.specs.State.{State, Target, lookup}
use Rattle.mach_model.specs.CopyOut.{GiveMark}

abbrev pub HasNoRoom : State → (task : ℕ) → Type 0
HasNoRoom s task = most_names ≤ map.len (s.naming task)

-- there is no room for one more of what the right would make
abbrev pub IsFull : State → (task right : ℕ) → Type 0
IsFull s task right =
    HasNoRoom s task
    ⊎ (right ≡ 1) × ((most_rights ≤ length s.ledger) ⊎ (most_identities ≤ s.ports_made))
    ⊎ (right ≡ 3) × (most_identities ≤ s.sets_made)

-- The right needs a fresh name: a send-once right always, another where the task has no name for the port.
abbrev pub NeedsName : State → (task : ℕ) → Kind → (port : ℕ) → Type 0
NeedsName s task send_once p = Unit {0}
NeedsName s task kind p = (n : ℕ) → lookup s task n ≢ Some (Target.port p)

-- there is none for it
abbrev pub MarkLacks : (task : ℕ) → Kind → Mark → State → Type 0
MarkLacks task kind (to_port p) s = (s.live_port p ≡ true) × HasNoRoom s task × NeedsName s task kind p
MarkLacks task kind null s = ⊥
MarkLacks task kind dead s = ⊥

-- The task's names don't suffice: there is none for one of the message's rights, once those before it were given.
abbrev pub MessageLacks : (task : ℕ) → Place → Message → State → Type 0
MessageLacks task place m s =
    OneFails (λ old r. MarkLacks task r.0 r.1 old) (λ old r new. (word : ℕ) × GiveMark task place r.0 r.1 old word new) s (message_rights m)
