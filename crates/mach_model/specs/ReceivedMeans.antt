-- What the bytes of a received message mean, read through the receiver's names (IPC Interface, `mach_msg`: the header is reversed).
use Rattle.std.specs.Prelude.{◌≡◌, ◌≢◌, ℕ, List, [], ◌∷◌, length, Some, None, ◌+◌, ◌*◌, ◌++◌, AllPairs}
use Rattle.mach_types.specs.Numbers.{kind_number, null_word, dead_word}
use Rattle.mach_types.specs.Tokens.{Kind, receive, send_once}
use Rattle.mach_types.specs.Messages.{Form, short, long, Mark, to_port, null, dead, Item, plain, rights, Body, Message}
use Rattle.mach_types.specs.Grammar.{WireBody, Header, Spells}
use Rattle.mach_types.specs.Bodies.{reply_words, body_words, message_rights, AllZip, SameReply, SameBody}
use Rattle.mach_model.specs.State.{State, Target, lookup, Holds}

abbrev pub form_length : Form → ℕ
form_length short = 4
form_length long = 12

abbrev pub item_length : Item → ℕ
item_length (plain f n s c bytes padding) = form_length f + length bytes + length padding
item_length (rights f kind marks) = form_length f + 4 * length marks

abbrev pub items_length : List Item → ℕ
items_length [] = 0
items_length (x ∷ xs) = item_length x + items_length xs

abbrev pub body_length : Body → ℕ
body_length (Body.raw bytes) = length bytes
body_length (Body.items xs) = items_length xs

-- how many bytes the message has, sent or received
abbrev pub message_length : Message → ℕ
message_length m = 24 + body_length m.body

-- The task holds the right that the word names. A send-once right's name was in no use before the receipt.
abbrev pub ReceivedWord : (task : ℕ) → (before after : State) → Kind → Mark → (word : ℕ) → Type 0
ReceivedWord task before after kind null word = word ≡ null_word
ReceivedWord task before after kind dead word = word ≡ dead_word
ReceivedWord task before after send_once (to_port p) word = (lookup after task word ≡ Some (Target.once p)) × (lookup before task word ≡ None)
ReceivedWord task before after kind (to_port p) word = (lookup after task word ≡ Some (Target.port p)) × Holds after task kind p

-- a right of this kind is received under this number
abbrev pub IsReceived : (number : ℕ) → Kind → Type 0
IsReceived number kind = number ≡ kind_number kind

-- the words of a received text, the reply's first
abbrev pub received_words : Header → WireBody → List (ℕ × ℕ)
received_words header written = reply_words header.remote_kind header.remote ++ body_words written

-- the words of send-once rights, each of which is a name of its own
abbrev pub once_words : List (ℕ × ℕ) → List (Kind × Mark) → List ℕ
once_words (w ∷ ws) ((send_once, to_port p) ∷ rs) = w.1 ∷ once_words ws rs
once_words (w ∷ ws) (r ∷ rs) = once_words ws rs
once_words ws rs = []

-- The bytes, read through the receiver's names after the receipt, mean this message.
pub record ReceivedMeans (task : ℕ) (before after : State) (bytes : List ℕ) (m : Message) : Type 0 where
  pub header : Header
  pub written : WireBody
  pub spells : Spells bytes header written
  pub size : header.size ≡ length bytes
  pub kind : header.local_kind ≡ kind_number m.kind
  pub local : lookup after task header.local ≡ Some (Target.port m.destination)
  pub holds : Holds after task receive m.destination
  pub sequence : header.sequence ≡ before.sequence m.destination
  pub id : header.id ≡ m.id
  pub reply : SameReply IsReceived header.remote_kind header.remote m.reply
  pub body : SameBody IsReceived written m.body
  pub rights : AllZip (λ w r. ReceivedWord task before after r.0 r.1 w.1) (received_words header written) (message_rights m)
  pub apart : AllPairs (λ (a b : ℕ). a ≢ b) (once_words (received_words header written) (message_rights m))
