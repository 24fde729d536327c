-- Receiving a message (IPC Interface, `mach_msg` with MACH_RCV_MSG).
use Rattle.std.specs.Prelude.{◌≡◌, ℕ, ◌+◌, ◌%◌, ◌^◌, ◌<◌, ◌≤◌, Bool, List, [], ◌∷◌, length, slice_get, Some, min, MatchBool, Contains}
use Rattle.mach_types.specs.declared.calls.Waited.{Waited}
use Rattle.mach_types.specs.declared.calls.Reply.{Reply}
use Rattle.mach_types.specs.Numbers.{kind_number, most_bytes}
use Rattle.mach_types.specs.Tokens.{receive, in_message, token, Moves}
use Rattle.mach_types.specs.Messages.{Entry}
use Rattle.mach_types.specs.Grammar.{WireBody, Header, Spells}
use Rattle.mach_types.specs.Bodies.{message_rights, SameReply, SameBody, Through}
use Rattle.mach_model.specs.State.{State, Target, lookup, at, Holds, queue}
use Rattle.mach_model.specs.Death.{same_place}
use Rattle.mach_model.specs.CopyOut.{GiveWord}
use Rattle.mach_model.specs.ReceivedMeans.{message_length, IsReceived, received_words}
use Rattle.mach_model.specs.Notices.{Owed}
use Rattle.mach_model.specs.References.{LosesAll, unused_among}

-- ---- where from

-- what a receive by the name waits for
abbrev pub waits_for : (task name : ℕ) → State → Waited → Type 0
waits_for task name s (Waited.Port p) = (lookup s task name ≡ Some (Target.port p)) × Holds s task receive p
waits_for task name s (Waited.Set set) = lookup s task name ≡ Some (Target.set set)

-- a receipt from what is waited for may take from this port
abbrev pub TakesFrom : State → (task : ℕ) → Waited → (port : ℕ) → Type 0
TakesFrom s task (Waited.Port q) p = (p ≡ q) × Holds s task receive p × (s.sets_of p ≡ [])
TakesFrom s task (Waited.Set set) p = (s.set_owner set ≡ Some task) × Contains (s.sets_of p) set

-- no port that it may take from has a message
abbrev pub IsEmptyFor : State → (task : ℕ) → Waited → Type 0
IsEmptyFor s task waited = (p : ℕ) → TakesFrom s task waited p → queue s p ≡ []

-- ---- a receipt

-- the port's front entry is this one
abbrev pub IsFront : State → ℕ → Entry → Type 0
IsFront s p e = slice_get (s.log p) (s.taken p) ≡ Some e

abbrev pub with_taken : ℕ → State → State
with_taken p s = record s { taken = at s.taken p (s.taken p + 1); sequence = at s.sequence p ((s.sequence p + 1) % 2 ^ 32) }

-- The port's front entry goes, its number is used, and its destination right is consumed.
pub record Takes (port : ℕ) (e : Entry) (old new : State) : Type 0 where
  pub front : IsFront old port e
  pub rest : new ≡ record (with_taken port old) { ledger = new.ledger }
  pub tokens : Moves old.ledger new.ledger (token e.message.kind port (in_message port (old.taken port)) ∷ []) []

-- The bytes spell what copying out gives: the header is reversed, and the rights have the receiver's names.
pub record Receives (task port room : ℕ) (bytes : List ℕ) (old mid : State) : Type 0 where
  pub e : Entry
  pub taken : State
  pub takes : Takes port e old taken
  pub header : Header
  pub written : WireBody
  pub reply : SameReply IsReceived header.remote_kind header.remote e.message.reply
  pub body : SameBody IsReceived written e.message.body
  pub rights : Through (GiveWord task (in_message port (old.taken port))) taken (received_words header written) (message_rights e.message) mid
  pub kind : header.local_kind ≡ kind_number e.message.kind
  pub local : lookup mid task header.local ≡ Some (Target.port port)
  pub size : header.size ≡ length bytes
  pub sequence : header.sequence ≡ old.sequence port
  pub id : header.id ≡ e.message.id
  pub spells : Spells bytes header written
  pub fits : length bytes ≤ min room most_bytes

-- The front message is taken as by a receipt, and all its other rights are lost.
pub record DestroysFront (port : ℕ) (e : Entry) (old mid : State) (owed : Owed) : Type 0 where
  pub taken : State
  pub takes : Takes port e old taken
  pub loses : LosesAll (λ x. same_place (in_message port (old.taken port)) x.place) taken.ledger mid.ledger
  pub rest : mid ≡ record taken { ledger = mid.ledger }
  pub owed_are : owed ≡ unused_among loses.gone

-- A receipt from what is waited for: a message, none, or one that is too long, which stays where that was asked for.
abbrev pub Receipt : State → (task : ℕ) → Waited → (room : ℕ) → (large : Bool) → Reply → State → Owed → Type 0
Receipt old task waited room large (Reply.Message bytes) mid owed =
    (p : ℕ) × TakesFrom old task waited p × Receives task p room bytes old mid × (owed ≡ [])
Receipt old task waited room large (Reply.Empty told) mid owed = (told ≡ waited) × IsEmptyFor old task waited × (mid ≡ old) × (owed ≡ [])
Receipt old task waited room large (Reply.TooLarge n) mid owed =
    (p : ℕ) × (e : Entry) × TakesFrom old task waited p × IsFront old p e
    × (n ≡ message_length e.message) × (min room most_bytes < n)
    × MatchBool large ((mid ≡ old) × (owed ≡ [])) (DestroysFront p e old mid owed)
Receipt old task waited room large reply mid owed = ⊥
