-- The text of replies.
use Rattle.std.specs.Prelude.{ℕ, ◌<◌, ◌^◌, List, [], ◌∷◌, ◌++◌, codes, decimal, map, All, ⊤}
use Rattle.mach_types.specs.declared.calls.Reply.{Reply}
use Rattle.mach_types.specs.declared.calls.Reply.TheVariants.{Code, Task, Name, Refs, NameType, Names, Status, Members, Right, Previous, Message, Empty, TooLarge, NoRecord}
use Rattle.mach_types.specs.declared.calls.Status.{Status as PortStatus}
use Rattle.tracer_base.specs.Text.{code_text, bytes_text, waited_words, FitsWaited}
use Rattle.tracer_base.specs.Words.{line}

-- a name, a colon and its type
abbrev pub typed_name_text : ℕ × ℕ → List ℕ
typed_name_text entry = decimal entry.0 ++ 58 ∷ code_text entry.1

-- the nine numbers of a port's status
abbrev pub status_words : PortStatus → List (List ℕ)
status_words status =
    decimal status.set ∷ decimal status.sequence ∷ decimal status.make_send ∷ decimal status.limit ∷ decimal status.queued
    ∷ decimal status.send_once ∷ decimal status.has_send ∷ decimal status.port_destroyed ∷ decimal status.no_senders ∷ []

-- a reply's keyword
abbrev pub reply_word : Reply → List ℕ
reply_word (Code code) = codes "code"
reply_word (Task task) = codes "task"
reply_word (Name name) = codes "name"
reply_word (Refs count) = codes "refs"
reply_word (NameType bits) = codes "type"
reply_word (Names names) = codes "names"
reply_word (Status status) = codes "status"
reply_word (Members members) = codes "members"
reply_word (Right name kind) = codes "right"
reply_word (Previous name) = codes "previous"
reply_word (Message bytes) = codes "message"
reply_word (Empty waited) = codes "empty"
reply_word (TooLarge length_of) = codes "toolarge"
reply_word NoRecord = codes "norecord"

-- what a reply answers
abbrev pub reply_arguments : Reply → List (List ℕ)
reply_arguments (Code code) = code_text code ∷ []
reply_arguments (Task task) = decimal task ∷ []
reply_arguments (Name name) = decimal name ∷ []
reply_arguments (Refs count) = decimal count ∷ []
reply_arguments (NameType bits) = code_text bits ∷ []
reply_arguments (Names names) = map typed_name_text names
reply_arguments (Status status) = status_words status
reply_arguments (Members members) = map decimal members
reply_arguments (Right name kind) = decimal name ∷ decimal kind ∷ []
reply_arguments (Previous name) = decimal name ∷ []
reply_arguments (Message bytes) = bytes_text bytes ∷ []
reply_arguments (Empty waited) = waited_words waited
reply_arguments (TooLarge length_of) = decimal length_of ∷ []
reply_arguments NoRecord = []

abbrev pub reply_words : Reply → List (List ℕ)
reply_words reply = reply_word reply ∷ reply_arguments reply

abbrev pub reply_text : Reply → List ℕ
reply_text reply = line (reply_words reply)

-- a line of what a script is answered: a reply, and a line feed
abbrev pub reply_line : Reply → List ℕ
reply_line reply = reply_text reply ++ 10 ∷ []

-- each of the nine numbers fits 32 bits
pub record FitsStatus (status : PortStatus) : Type 0 where
  pub set : status.set < 2 ^ 32
  pub sequence : status.sequence < 2 ^ 32
  pub make_send : status.make_send < 2 ^ 32
  pub limit : status.limit < 2 ^ 32
  pub queued : status.queued < 2 ^ 32
  pub send_once : status.send_once < 2 ^ 32
  pub has_send : status.has_send < 2 ^ 32
  pub port_destroyed : status.port_destroyed < 2 ^ 32
  pub no_senders : status.no_senders < 2 ^ 32

-- a name and a type of 32 bits each
abbrev pub FitsTypedName : ℕ × ℕ → Type 0
FitsTypedName entry = (entry.0 < 2 ^ 32) × (entry.1 < 2 ^ 32)

-- its numbers fit 32 bits, an identity 64 and a kind 8, and its bytes are bytes
abbrev pub FitsReply : Reply → Type 0
FitsReply (Code code) = code < 2 ^ 32
FitsReply (Task task) = task < 2 ^ 32
FitsReply (Name name) = name < 2 ^ 32
FitsReply (Refs count) = count < 2 ^ 32
FitsReply (NameType bits) = bits < 2 ^ 32
FitsReply (Names names) = All FitsTypedName names
FitsReply (Status status) = FitsStatus status
FitsReply (Members members) = All (λ name. name < 2 ^ 32) members
FitsReply (Right name kind) = (name < 2 ^ 32) × (kind < 2 ^ 8)
FitsReply (Previous name) = name < 2 ^ 32
FitsReply (Message bytes) = All (λ byte. byte < 256) bytes
FitsReply (Empty waited) = FitsWaited waited
FitsReply (TooLarge length_of) = length_of < 2 ^ 32
FitsReply NoRecord = ⊤
