-- The order of a port's messages, over a run's stages (this project's own).
use Rattle.std.specs.Prelude.{◌≡◌, ◌⊎◌, ℕ, Bool, List, [], ◌∷◌, ◌++◌, length, slice_get, drop, take, option_to_list, Some, if◌then◌else◌, ◌==◌}
use Rattle.mach_types.specs.declared.calls.Event.{Event}
use Rattle.mach_types.specs.declared.calls.Reply.{Reply}
use Rattle.mach_types.specs.Messages.{Message, Entry}
use Rattle.mach_model.specs.State.{State, queue}
use Rattle.mach_model.specs.Send.{entry}
use Rattle.mach_laws.specs.Paths.{Stage}
use Rattle.mach_laws.specs.Notices.{Tells}
use Rattle.mach_laws.specs.Received.{IsSentBy}

-- ---- what comes

-- the entries of the port's log that weren't there before the stage
abbrev pub new_entries : ℕ → Stage → List Entry
new_entries p x = drop (length (x.before.log p)) (x.after.log p)

-- What stage number now brings to the port: the message, if the stage is a send that is accepted for the port; and then notices of its
-- own.
pub record Comes (now p : ℕ) (x : Stage) : Type 0 where
  pub sent : List Entry
  pub is_sent : ((m : Message) → ¬ (IsSentBy x p m)) × (sent ≡ []) ⊎ ((m : Message) × IsSentBy x p m × (sent ≡ entry now m ∷ []))
  pub tells : Tells now x.before x.event x.reply x.after p (x.before.log p ++ sent)
  pub are_new : new_entries p x ≡ sent ++ tells.told

-- what was accepted for the port or told to it, in the order of the stages
abbrev pub came : ℕ → List Stage → List Entry
came p [] = []
came p (x ∷ xs) = new_entries p x ++ came p xs

-- ---- what is taken

-- the entry in front of the port, if the stage took one
abbrev pub front_entry : ℕ → Stage → List Entry
front_entry p x = if x.after.taken p == x.before.taken p then [] else option_to_list (slice_get (x.before.log p) (x.before.taken p))

-- none where the receiver asked that a message that is too long stays
abbrev pub unless_large : Bool → List Entry → List Entry
unless_large large entries = if large then [] else entries

-- Only a receive, or a later try, takes an entry: one that is answered with a message, or one that destroys a message as too long.
abbrev pub if_taken : Event → Reply → List Entry → List Entry
if_taken (Event.Receive task name room large) (Reply.Message bytes) entries = entries
if_taken (Event.Receive task name room large) (Reply.TooLarge n) entries = unless_large large entries
if_taken (Event.ReceiveAgain task waited room large) (Reply.Message bytes) entries = entries
if_taken (Event.ReceiveAgain task waited room large) (Reply.TooLarge n) entries = unless_large large entries
if_taken event reply entries = []

-- what was received from the port or destroyed as too long, in the order of the stages
abbrev pub went : ℕ → List Stage → List Entry
went p [] = []
went p (x ∷ xs) = if_taken x.event x.reply (front_entry p x) ++ went p xs

-- ---- the order

-- What came to the port is its log: messages that were accepted for it and notices that were told to it, each once. What was taken from
-- it is a beginning of that, and with what is queued, behind it, the whole, in the same order.
pub record InOrder (p : ℕ) (path : List Stage) (s : State) : Type 0 where
  pub log : came p path ≡ s.log p
  pub each : (k : ℕ) (x : Stage) → slice_get path k ≡ Some x → Comes k p x
  pub taken : went p path ≡ take (s.taken p) (s.log p)
  pub whole : went p path ++ queue s p ≡ came p path
