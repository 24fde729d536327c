-- What must be so before rights are given: the names suffice, room is made, the rights are counted, and no port is lost whose holder is to be set.
use Rattle.std.specs.Prelude.{◌≡◌, ◌≢◌, ℕ, ◌+◌, ◌<◌, ◌≤◌, true, List, [], ◌∷◌, ◌++◌, length, Some, is_some, if◌then◌else◌, ◌==◌, min}
use Rattle.std.specs.FinMap as map
use Rattle.mach_types.specs.Numbers.{kind_sent, most_bytes, most_names}
use Rattle.mach_types.specs.Tokens.{Kind, send, send_once}
use Rattle.mach_types.specs.Grammar.{WireBody, body_text}
use Rattle.message_codec.specs.Received.{IsLaidOut, header_text, received_body}
use Rattle.message_codec.specs.Spans.{word_count}
use Rattle.name_space.specs.Names.{SpaceView}
use Rattle.name_space.specs.Names.{port_at as port_named_at}
use Rattle.port.specs.Ports.{PortView}
use Rattle.rights.specs.Ledger.{IsEntered, counts_of}
use Rattle.rights.specs.Counts.{number_of}
use Rattle.copyin_base.specs.declared.Carried.{Carried}
use Rattle.copyin_base.specs.declared.Mark.{Mark}
use Rattle.copyin_base.specs.declared.Mark.TheVariants as mark
use Rattle.copyin_base.specs.Kept.{Kept}
use Rattle.copyin_base.specs.Worlds.{WorldView, NoneLost, port_at, space_at}
use Rattle.std.specs.Option.{option_to_list}
use Rattle.copyout.specs.Giving.{NeedsOwn, LackNames, LackRoom, free_names, GivesAll}
use Rattle.copyout.specs.Room.{Needs, Suffice}
use Rattle.copyout.specs.Takes.{destination_right, reversed, body_names}
use Rattle.copyout.specs.declared.receipt.Refusal.{Refusal}
use Rattle.copyout.specs.declared.receipt.Refusal.TheVariants as refusal

-- each port that is there is in the ledger
abbrev pub AllEntered : WorldView → Type 0
AllEntered w = (p : ℕ) → is_some (port_at w p) ≡ true → IsEntered w.ledger p

abbrev pub send_for : Kind → Mark → (port : ℕ) → ℕ
send_for send (mark.Port q) p = if q == p then 1 else 0
send_for kind one p = 0

-- how many of the rights are send rights for the port
abbrev pub sends_for : List Carried → (port : ℕ) → ℕ
sends_for [] p = 0
sends_for (c ∷ cs) p = send_for (kind_sent c.given) c.mark p + sends_for cs p

-- The rights can be given to the task.
pub record CanGive (w : WorldView) (task : ℕ) (carried : List Carried) : Type 0 where
  pub space : SpaceView
  pub there : space_at w task ≡ Some space
  pub enough : ¬ (LackNames w task carried)
  pub room : ¬ (LackRoom w task carried)
  pub entered : AllEntered w
  pub counted : (p : ℕ) → is_some (port_at w p) ≡ true → sends_for carried p ≤ (counts_of w.ledger p).send
  pub none_lost : NoneLost w

-- A right for a port that is there can be given.
pub record CanGivePort (w : WorldView) (task : ℕ) (kind : Kind) (port : ℕ) : Type 0 where
  pub space : SpaceView
  pub there : space_at w task ≡ Some space
  pub own : NeedsOwn w task kind port → (map.len space.names < most_names) × (0 < space.room)
  pub live : is_some (port_at w port) ≡ true
  pub entered : IsEntered w.ledger port
  pub counted : kind ≡ send → 1 ≤ (counts_of w.ledger port).send
  pub none_lost : NoneLost w

-- It can come under the task's name for the port.
pub record CanJoin (w : WorldView) (task : ℕ) (kind : Kind) (port name : ℕ) : Type 0 where
  pub space : SpaceView
  pub there : space_at w task ≡ Some space
  pub not_once : kind ≢ send_once
  pub named : port_named_at space.names name ≡ Some port
  pub live : is_some (port_at w port) ≡ true
  pub entered : IsEntered w.ledger port
  pub counted : kind ≡ send → 1 ≤ (counts_of w.ledger port).send
  pub none_lost : NoneLost w

-- It can come under a name of its own.
pub record CanTakeName (w : WorldView) (task : ℕ) (kind : Kind) (port : ℕ) : Type 0 where
  pub space : SpaceView
  pub there : space_at w task ≡ Some space
  pub room : 0 < space.room
  pub not_full : map.len space.names < most_names
  pub lone : kind ≢ send_once → (name : ℕ) → port_named_at space.names name ≢ Some port
  pub live : is_some (port_at w port) ≡ true
  pub none_lost : NoneLost w

abbrev pub carried_by : Kept → List Carried
carried_by m = option_to_list m.reply ++ m.rights

-- This is the port's front message.
pub record HasFront (w : WorldView) (port : ℕ) (m : Kept) : Type 0 where
  pub v : PortView Kept
  pub there : port_at w port ≡ Some v
  pub behind : List Kept
  pub queue : v.queue ≡ m ∷ behind

-- The port, if it is there, gives its front message this sequence number.
abbrev pub IsNumbered : WorldView → (port sequence : ℕ) → Type 0
IsNumbered w port sequence = (v : PortView Kept) → port_at w port ≡ Some v → v.attributes.sequence ≡ sequence

-- A message waits at the port: its bytes are laid out with a right for each port word, and its rights are in the ledger. No port was lost.
pub record Waits (w : WorldView) (port : ℕ) : Type 0 where
  pub v : PortView Kept
  pub there : port_at w port ≡ Some v
  pub front : Kept
  pub behind : List Kept
  pub queue : v.queue ≡ front ∷ behind
  pub written : WireBody
  pub laid_out : IsLaidOut front.bytes front.spans written
  pub a_right_each : length front.rights ≡ word_count front.spans
  pub few : length front.bytes ≤ most_bytes
  pub entered : AllEntered w
  pub destination : 1 ≤ number_of (destination_right front) (counts_of w.ledger port)
  pub counted : (p : ℕ) → is_some (port_at w p) ≡ true →
      sends_for (carried_by front) p + (if front.by_once then 0 else if port == p then 1 else 0) ≤ (counts_of w.ledger p).send
  pub none_lost : NoneLost w

-- So many names are enough for the message's rights, and the task may have them.
pub record HasNamesFor (w : WorldView) (task : ℕ) (m : Kept) (number : ℕ) : Type 0 where
  pub space : SpaceView
  pub there : space_at w task ≡ Some space
  pub suffice : Suffice w.ports space.names (carried_by m) number
  pub names : number ≤ free_names space

-- The message may be received: it fits, and the task may have so many names, which are enough for its rights.
pub record MayHave (w : WorldView) (task : ℕ) (m : Kept) (room number : ℕ) : Type 0 where
  pub fits : length m.bytes ≤ min room most_bytes
  pub has : HasNamesFor w task m number
  pub open has use *

-- So it is with the port's front message.
pub record MayReceive (w : WorldView) (task port room number : ℕ) : Type 0 where
  pub front : Kept
  pub waits : HasFront w port front
  pub may : MayHave w task front room number
  pub open may use *

-- The message may be received, and its rights need just so many names.
pub record MayHaveJust (w : WorldView) (task : ℕ) (m : Kept) (room needed : ℕ) : Type 0 where
  pub fits : length m.bytes ≤ min room most_bytes
  pub space : SpaceView
  pub there : space_at w task ≡ Some space
  pub needs : Needs w.ports space.names [] (carried_by m) needed
  pub names : needed ≤ free_names space

-- It can be taken: there is room for names that are enough for its rights, and for the words of its body.
pub record ReadyFor (w : WorldView) (task port capacity : ℕ) : Type 0 where
  pub waits : Waits w port
  pub space : SpaceView
  pub there : space_at w task ≡ Some space
  pub number : ℕ
  pub suffice : Suffice w.ports space.names (carried_by waits.front) number
  pub names : number ≤ free_names space
  pub room : number ≤ space.room
  pub words_fit : length waits.front.rights ≤ capacity

-- What comes of a message that was taken from its queue: its rights are given, and its bytes are as the receiver gets them.
pub record Delivers (old : WorldView) (task : ℕ) (m : Kept) (local sequence : ℕ) (bytes : List ℕ) (new : WorldView) : Type 0 where
  pub words : List ℕ
  pub gives : GivesAll old task (carried_by m) words new
  pub text : (written : WireBody) → IsLaidOut m.bytes m.spans written →
      bytes ≡ header_text (reversed m local sequence words) ++ body_text (received_body written (body_names m.reply words))

-- ---- why a message isn't received: its length is judged first, then names, then memory

abbrev pub IsRefusedBy : WorldView → (task : ℕ) → Kept → (room : ℕ) → Refusal → Type 0
IsRefusedBy w task m room (refusal.TooLarge n) = (n ≡ length m.bytes) × (min room most_bytes < length m.bytes)
IsRefusedBy w task m room refusal.Names = (length m.bytes ≤ min room most_bytes) × LackNames w task (carried_by m)
IsRefusedBy w task m room refusal.Memory = (length m.bytes ≤ min room most_bytes) × ¬ (LackNames w task (carried_by m))
