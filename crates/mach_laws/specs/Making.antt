-- Which events make rights, which drop send rights, and how many (this project's own).
use Rattle.std.specs.Prelude.{◌≡◌, ◌⊎◌, ℕ, ℤ, pos, negsuc, ◌+◌, Bool, false, List, [], ◌∷◌, Option, Some, if◌then◌else◌, ◌==◌, ◌&&◌, ◌||◌}
use Rattle.std.specs.FinMap as map
use Rattle.mach_types.specs.declared.calls.Event.{Event}
use Rattle.mach_types.specs.declared.rights.Disposition.TheVariants.{CopySend, MakeSend, MakeSendOnce}
use Rattle.mach_types.specs.declared.rights.Right.TheVariants.{Send, Receive}
use Rattle.mach_types.specs.Numbers.{right_number, most_references}
use Rattle.mach_types.specs.Rights.{disposition_number}
use Rattle.mach_types.specs.Tokens.{Kind, receive, send, send_once, same_kind, in_message}
use Rattle.mach_types.specs.Grammar.{WireBody, Header, Spells}
use Rattle.mach_types.specs.Bodies.{body_words}
use Rattle.mach_model.specs.State.{State, Target, Names, lookup, held}
use Rattle.mach_model.specs.Carried.{lying}
use Rattle.mach_model.specs.Refusals.{added_rights}
use Rattle.mach_laws.specs.Received.{AsksFrom}

-- COPY_SEND and MAKE_SEND make a send right, and MAKE_SEND_ONCE a send-once right. The other dispositions move one.
abbrev pub is_made : Kind → (number : ℕ) → Bool
is_made receive number = false
is_made send number = number == disposition_number CopySend || number == disposition_number MakeSend
is_made send_once number = number == disposition_number MakeSendOnce

abbrev pub is_port : (port : ℕ) → Option Target → Bool
is_port p (Some (Target.port q)) = q == p
is_port p target = false

-- how many rights of the kind for the port a word makes, read with its disposition's number through a task's names
abbrev pub made_by_word : Names → Kind → (port : ℕ) → ℕ × ℕ → ℕ
made_by_word names kind p w = if is_made kind w.0 && is_port p (map.get names w.1) then 1 else 0

abbrev pub made_by_words : Names → Kind → (port : ℕ) → List (ℕ × ℕ) → ℕ
made_by_words names kind p [] = 0
made_by_words names kind p (w ∷ ws) = made_by_word names kind p w + made_by_words names kind p ws

-- a new port's receive right
abbrev pub made_with_port : State → (right : ℕ) → Kind → (port : ℕ) → ℕ
made_with_port s right kind p = if right == right_number Receive && same_kind kind receive && p == s.ports_made then 1 else 0

-- The event makes at most so many rights of the kind for the port.
abbrev pub MakesRights : State → Event → Kind → (port : ℕ) → ℕ → Type 0
MakesRights s (Event.Allocate task right) kind p n = n ≡ made_with_port s right kind p
MakesRights s (Event.AllocateName task right name) kind p n = n ≡ made_with_port s right kind p
MakesRights s (Event.ModRefs task name right delta) kind p n =
    n ≡ (if right == right_number Send && same_kind kind send && is_port p (lookup s task name) then added_rights delta else 0)
MakesRights s (Event.InsertRight task name from poly number) kind p n = n ≡ made_by_word (s.naming from) kind p (number, poly)
MakesRights s (Event.ExtractRight task name number to) kind p n = n ≡ made_by_word (s.naming task) kind p (number, name)
MakesRights s (Event.RequestNotification task name variant sync notify number) kind p n = n ≡ made_by_word (s.naming task) kind p (number, notify)
MakesRights s (Event.Send task bytes) kind p n =
    (header : Header) × (written : WireBody) × Spells bytes header written
    × (n ≡ made_by_words (s.naming task) kind p ((header.remote_kind, header.remote) ∷ (header.local_kind, header.local) ∷ body_words written))
MakesRights s event kind p n = n ≡ 0

-- ---- send rights that are dropped

abbrev pub removed_rights : ℤ → ℕ
removed_rights (pos k) = 0
removed_rights (negsuc k) = k + 1

-- those that lie in the message that the event takes, from a port that it asks for
abbrev pub LayInFront : (old : State) → Event → (new : State) → (port : ℕ) → ℕ → Type 0
LayInFront s event new p n = (n ≡ 0) ⊎ ((task q : ℕ) × AsksFrom s event task q × (new.taken q ≡ s.taken q + 1) × (n ≡ lying s send p (in_message q (s.taken q))))

-- The event drops at most so many send rights for the port: a task's, one reference, all under a name, some references, one that comes out
-- beyond 65,535 references, or those of a message that is taken.
abbrev pub DropsSends : (old : State) → Event → (new : State) → (port : ℕ) → ℕ → Type 0
DropsSends s (Event.TaskTerminate task) new p n = n ≡ held s task send p
DropsSends s (Event.Deallocate task name) new p n = n ≡ (if is_port p (lookup s task name) then 1 else 0)
DropsSends s (Event.Destroy task name) new p n = n ≡ (if is_port p (lookup s task name) then held s task send p else 0)
DropsSends s (Event.ModRefs task name right delta) new p n = n ≡ (if right == right_number Send && is_port p (lookup s task name) then removed_rights delta else 0)
DropsSends s (Event.ExtractRight task name number to) new p n = n ≡ (if is_port p (lookup s task name) && most_references == held s to send p then 1 else 0)
DropsSends s (Event.Receive task name room large) new p n = LayInFront s (Event.Receive task name room large) new p n
DropsSends s (Event.ReceiveAgain task waited room large) new p n = LayInFront s (Event.ReceiveAgain task waited room large) new p n
DropsSends s event new p n = n ≡ 0
