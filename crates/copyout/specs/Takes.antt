-- What a receipt does to the tables.
use Rattle.std.specs.Prelude.{◌≡◌, ℕ, ◌+◌, ◌*◌, ◌%◌, ◌^◌, List, [], ◌∷◌, ◌++◌, length, drop, Option, Some, None, if◌then◌else◌, MatchBool}
use Rattle.mach_types.specs.Numbers.{kind_sent, kind_number, null_word}
use Rattle.mach_types.specs.Grammar.{WireBody, body_text}
use Rattle.message_codec.specs.declared.header.Header.{Header}
use Rattle.message_codec.specs.Received.{header_text, received_body, IsLaidOut}
use Rattle.port.specs.Ports.{PortView, with_port}
use Rattle.rights.specs.Ledger.{taken}
use Rattle.copyin_base.specs.declared.Carried.{Carried}
use Rattle.copyin_base.specs.Changes.{NotesSenderless}
pub use Rattle.copyin_base.specs.Destinations.{destination_right}
use Rattle.copyin_base.specs.Kept.{Kept}
use Rattle.copyin_base.specs.Worlds.{WorldView, port_at}
use Rattle.std.specs.Option.{option_to_list}
use Rattle.copyout.specs.Giving.{GivesAll}

-- The port's front message goes, its number is used, its slot is spare, and its destination right is consumed.
pub record TakesFront (old : WorldView) (port : ℕ) (new : WorldView) : Type 0 where
  pub v : PortView Kept
  pub there : port_at old port ≡ Some v
  pub front : Kept
  pub behind : List Kept
  pub queue : v.queue ≡ front ∷ behind
  pub rest : new ≡ record old {
    ports = record (with_port old.ports port (record v { queue = behind; attributes = record v.attributes { sequence = (v.attributes.sequence + 1) % 2 ^ 32 } })) { spare = old.ports.spare + 1 };
    ledger = taken old.ledger port (destination_right front) 1;
  }

abbrev pub reply_number : Option Carried → ℕ
reply_number None = 0
reply_number (Some c) = kind_number (kind_sent c.given)

abbrev pub reply_word : Option Carried → List ℕ → ℕ
reply_word None words = null_word
reply_word (Some c) [] = null_word
reply_word (Some c) (w ∷ ws) = w

abbrev pub body_names : Option Carried → List ℕ → List ℕ
body_names None words = words
body_names (Some c) words = drop 1 words

-- a header reversed: the reply right first, then the name of the port
abbrev pub reversed : (m : Kept) → (local sequence : ℕ) → (words : List ℕ) → Header
reversed m local sequence words = record {
  bits = reply_number m.reply + (if m.by_once then 18 else 17) * 2 ^ 8 + (if m.is_complex then 2 ^ 31 else 0);
  size = length m.bytes;
  remote = reply_word m.reply words;
  local = local;
  sequence = sequence;
  id = m.id;
}

-- The front message of the port is received under the task's name for it: the rights have the receiver's names.
pub record TakesMessage (old : WorldView) (task port local : ℕ) (bytes : List ℕ) (new : WorldView) : Type 0 where
  pub mid : WorldView
  pub takes : TakesFront old port mid
  pub words : List ℕ
  pub gives : GivesAll mid task (option_to_list takes.front.reply ++ takes.front.rights) words new
  pub text : (written : WireBody) → IsLaidOut takes.front.bytes takes.front.spans written →
      bytes ≡ header_text (reversed takes.front local takes.v.attributes.sequence words) ++ body_text (received_body written (body_names takes.front.reply words))

-- The right by which this message came to the port is gone: where it was the port's last send right, and a request stands to be told of that, the
-- port is noted.
abbrev pub NotesFront : (old : WorldView) → (port : ℕ) → (front : Kept) → (new : WorldView) → Type 0
NotesFront old port front new = MatchBool front.by_once (new ≡ old) (NotesSenderless old port new)
