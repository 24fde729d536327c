-- The right that a queued message was sent to, and what one message changes that is queued or received.
use Rattle.std.specs.Prelude.{◌≡◌, ℕ, ◌%◌, ◌+◌, ◌-◌, ◌<◌, ◌^◌, ◌++◌, ◌∷◌, [], Some, drop, slice_get, if◌then◌else◌}
use Rattle.std.specs.Option.{option_and_then}
use Rattle.port.specs.Ports.{PortView, with_port}
use Rattle.rights.specs.declared.RightKind.{RightKind}
use Rattle.rights.specs.declared.RightKind.TheVariants as right
use Rattle.rights.specs.Counts.{number_of}
use Rattle.rights.specs.Ledger.{counts_of, made, shifted, taken}
use Rattle.tables_base.specs.Kept.{Kept}
use Rattle.copyin_base.specs.Worlds.{WorldView, port_at}

-- the right by which it goes
abbrev pub destination_right : Kept → RightKind
destination_right m = if m.by_once then right.Destination else right.Send

-- The right is counted that the port's front message was sent to.
abbrev pub IsFrontCounted : WorldView → (port : ℕ) → Type 0
IsFrontCounted w port = (m : Kept) → option_and_then (λ p. slice_get p.queue 0) (port_at w port) ≡ Some m → 0 < number_of (destination_right m) (counts_of w.ledger port)

-- the message at the end of the port's queue, in a spare slot; a send-once right that it goes by is used
abbrev pub with_message_queued : WorldView → (port : ℕ) → PortView Kept → (message : Kept) → WorldView
with_message_queued w port v message = record w {
  ports = record (with_port w.ports port (record v { queue = v.queue ++ message ∷ [] })) { spare = w.ports.spare - 1 };
  ledger = (if message.by_once then shifted w.ledger port else w.ledger);
}

-- the port's front message gone: its number is used, its slot is spare, and the right that it went by is no longer counted
abbrev pub with_front_received : WorldView → (port : ℕ) → PortView Kept → (front : Kept) → WorldView
with_front_received w port v front = record w {
  ports = record (with_port w.ports port (record v { queue = drop 1 v.queue; attributes = record v.attributes { sequence = (v.attributes.sequence + 1) % 2 ^ 32 } })) { spare = w.ports.spare + 1 };
  ledger = taken w.ledger port (destination_right front) 1;
}

-- the port's make-send count raised by one, modulo 2^32
abbrev pub with_make_send : WorldView → (port : ℕ) → PortView Kept → WorldView
with_make_send w port v = record w { ports = with_port w.ports port (record v { attributes = record v.attributes { make_send = (v.attributes.make_send + 1) % 2 ^ 32 } }) }

-- one more send right made from the port's receive right
abbrev pub with_send_made : WorldView → (port : ℕ) → PortView Kept → WorldView
with_send_made w port v = record (with_make_send w port v) { ledger = made w.ledger port right.Send 1 }
