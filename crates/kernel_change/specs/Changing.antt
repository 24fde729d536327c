-- What a step changed of ports and port sets, as the kernel keeps it, and what that is once it is asked for.
use Rattle.std.specs.Prelude.{◌≡◌, ℕ, ◌⊎◌, ◌-◌, ◌^◌, ◌%◌, ◌||◌, Bool, true, false, List, [], ◌∷◌, ◌++◌, length, drop, slice_get, Option, Some, None, Result, Ok, Err, is_some, MatchBool, Contains, if◌then◌else◌, ◌==◌, ◌&&◌, not, nat_lt}
use Rattle.std.specs.FinMap as map
use Rattle.std.specs.List.{filter_map}
use Rattle.std.specs.Option.{option_and_then, option_map, option_to_list}
use Rattle.mach_types.specs.declared.calls.Event.{Event}
use Rattle.mach_types.specs.declared.calls.Reply.{Reply}
use Rattle.mach_types.specs.declared.calls.Waited.{Waited}
use Rattle.mach_types.specs.declared.touched.Touched.{Touched}
use Rattle.mach_types.specs.declared.touched.Touched.TheVariants.{Few, All}
use Rattle.mach_types.specs.Numbers.{most_identities, kind_sent}
use Rattle.mach_types.specs.Tokens.{Kind, send_once}
use Rattle.mach_types.specs.TextGuards.{word_at}
use Rattle.name_space.specs.declared.Entry.{Entry}
use Rattle.name_space.specs.declared.Entry.TheVariants as entry
use Rattle.name_space.specs.Entry.{port_named, set_named}
use Rattle.port_base.specs.declared.Membership.{Membership}
use Rattle.port_base.specs.declared.Membership.TheVariants.{Nowhere, Alone, Several}
use Rattle.port_base.specs.Memberships.{membership_in}
use Rattle.port.specs.Ports.{PortView, NoneQueued}
use Rattle.request_table.specs.Requests.{NoneOn}
use Rattle.copyin_base.specs.declared.Carried.{Carried}
use Rattle.copyin_base.specs.declared.Mark.{Mark}
use Rattle.copyin_base.specs.declared.Mark.TheVariants as mark
use Rattle.copyin_base.specs.Kept.{Kept, receive_of}
use Rattle.copyin_base.specs.Worlds.{WorldView, entry_at, port_at, sets_at}
use Rattle.kernel_change.specs.declared.moved.Moved.{Moved}
use Rattle.kernel_change.specs.declared.moved.Moved.TheVariants as moved
use Rattle.kernel_change.specs.declared.received.Received.{Received}
use Rattle.kernel_change.specs.declared.received.Received.TheVariants as received
use Rattle.kernel_change.specs.Received.{body_names, received_by}
use Rattle.kernel_change.specs.declared.change.Change.{Change}
use Rattle.kernel_change.specs.declared.naming.InSeveral.{InSeveral}
use Rattle.kernel_change.specs.declared.change.Change.TheVariants.{Nothing, Made, PortNamed, Queue, Queues, Member, Along, AlongFrom, AlongTwo, AlongTwoFrom, AlongThree, QueueNamed, ReceivedOne, ReceivedTwo, ReceivedThree, Left, Disbanded, DisbandedTwo, DisbandedThree, Lost, Any}

-- ---- what it is

abbrev pub few : (a b : Option Waited) → Touched
few a b = Few (a ∷ b ∷ None ∷ None ∷ [])

-- the port that stands under the name
abbrev pub port_under : WorldView → (task name : ℕ) → Option ℕ
port_under w task name = option_and_then port_named (entry_at w task name)

-- whether there are several of them
abbrev pub has_more : List ℕ → Bool
has_more [] = false
has_more (set ∷ []) = false
has_more (set ∷ other ∷ others) = true

-- what a function returns that has no place for several sets
abbrev pub unwrap_or_all : Result Touched InSeveral → Touched
unwrap_or_all (Ok touched) = touched
unwrap_or_all (Err several) = All

-- the first of these sets, if there is one
abbrev pub lone : List ℕ → Option Waited
lone [] = None
lone (set ∷ sets) = Some (Waited.Set set)

-- these ports and sets, where a port is in one of these sets at most; else there may be more than four
abbrev pub unless_several : List ℕ → Touched → Touched
unless_several sets touched = if has_more sets then All else touched

-- a port with its sets, of which there are up to three
abbrev pub named_sets : (port : ℕ) → (sets : List ℕ) → Touched
named_sets p [] = few (Some (Waited.Port p)) None
named_sets p (a ∷ []) = few (Some (Waited.Port p)) (Some (Waited.Set a))
named_sets p (a ∷ b ∷ []) = Few (Some (Waited.Port p) ∷ Some (Waited.Set a) ∷ Some (Waited.Set b) ∷ None ∷ [])
named_sets p (a ∷ b ∷ c ∷ []) = Few (Some (Waited.Port p) ∷ Some (Waited.Set a) ∷ Some (Waited.Set b) ∷ Some (Waited.Set c) ∷ [])
named_sets p (a ∷ b ∷ c ∷ d ∷ sets) = All

-- a port, and its sets, whose queues have changed with the port's
abbrev pub with_sets : WorldView → Option ℕ → Touched
with_sets w (Some p) = named_sets p (sets_at w p)
with_sets w None = few None None

-- a port with its set, and the set that it left
abbrev pub named_left : WorldView → (port left : ℕ) → Touched
named_left w p left = unless_several (sets_at w p) (Few (Some (Waited.Port p) ∷ lone (sets_at w p) ∷ Some (Waited.Set left) ∷ None ∷ []))

-- two ports with their sets
abbrev pub named_two : WorldView → (a b : ℕ) → Touched
named_two w a b = unless_several (sets_at w a) (unless_several (sets_at w b) (Few (Some (Waited.Port a) ∷ lone (sets_at w a) ∷ Some (Waited.Port b) ∷ lone (sets_at w b) ∷ [])))

-- a port with its set, and another, which was in this set, if it was in one
abbrev pub named_along : WorldView → (to port : ℕ) → (left : Option ℕ) → Touched
named_along w to port left = unless_several (sets_at w to) (Few (Some (Waited.Port to) ∷ lone (sets_at w to) ∷ Some (Waited.Port port) ∷ option_map Waited.Set left ∷ []))

-- a port with its set, and two others, where they are there, which are in no set
abbrev pub named_received : WorldView → Option ℕ → (a b : Option ℕ) → Touched
named_received w (Some p) a b = unless_several (sets_at w p) (Few (Some (Waited.Port p) ∷ lone (sets_at w p) ∷ option_map Waited.Port a ∷ option_map Waited.Port b ∷ []))
named_received w None a b = few None None

-- a port, and three others: of one in a set there is no place for all
abbrev pub named_three : WorldView → Option ℕ → (a b c : Option ℕ) → Touched
named_three w (Some p) a b c = if is_some (lone (sets_at w p)) then All else Few (Some (Waited.Port p) ∷ option_map Waited.Port a ∷ option_map Waited.Port b ∷ option_map Waited.Port c ∷ [])
named_three w None a b c = few None None

-- whether the port is in no set but this
abbrev pub is_in_no_other : List ℕ → (set : ℕ) → Bool
is_in_no_other [] set = true
is_in_no_other (own ∷ []) set = own == set
is_in_no_other (own ∷ other ∷ others) set = false

-- a port, two others, and the set that these left: of a port in another set there is no place for all
abbrev pub named_two_left : WorldView → (to a b left : ℕ) → Touched
named_two_left w to a b left = if is_in_no_other (sets_at w to) left then Few (Some (Waited.Port to) ∷ Some (Waited.Port a) ∷ Some (Waited.Port b) ∷ Some (Waited.Set left) ∷ []) else All

-- the port that was made last
abbrev pub made_last : WorldView → Touched
made_last w = if nat_lt w.ports.made most_identities then few (Some (Waited.Port (w.ports.made - 1))) None else All

abbrev pub touched_by : WorldView → Change → Touched
touched_by w Nothing = few None None
touched_by w Made = made_last w
touched_by w (PortNamed task name) = few (option_map Waited.Port (port_under w task name)) None
touched_by w (Queue port) = with_sets w (Some port)
touched_by w (Member port set) = few (Some (Waited.Port port)) (Some (Waited.Set set))
touched_by w (Queues a b) = named_two w a b
touched_by w (Along to port) = named_along w to port None
touched_by w (AlongFrom to port left) = named_along w to port (Some left)
touched_by w (AlongTwo to a b) = named_received w (Some to) (Some a) (Some b)
touched_by w (AlongTwoFrom to a b left) = named_two_left w to a b left
touched_by w (AlongThree to a b c) = named_three w (Some to) (Some a) (Some b) (Some c)
touched_by w (QueueNamed task name) = with_sets w (port_under w task name)
touched_by w (ReceivedOne task name a) = named_received w (port_under w task name) (port_under w task a) None
touched_by w (ReceivedTwo task name a b) = named_received w (port_under w task name) (port_under w task a) (port_under w task b)
touched_by w (ReceivedThree task name a b c) = named_three w (port_under w task name) (port_under w task a) (port_under w task b) (port_under w task c)
touched_by w (Left port set) = named_left w port set
touched_by w (Disbanded set) = few (Some (Waited.Set set)) None
touched_by w (DisbandedTwo set a b) = Few (Some (Waited.Set set) ∷ Some (Waited.Port a) ∷ Some (Waited.Port b) ∷ None ∷ [])
touched_by w (DisbandedThree set a b c) = Few (Some (Waited.Set set) ∷ Some (Waited.Port a) ∷ Some (Waited.Port b) ∷ Some (Waited.Port c) ∷ [])
touched_by w (Lost port) = All
touched_by w Any = All

-- ---- which it is, where the end of the step had nothing to do

-- the ports whose receive rights are among these
abbrev pub receives_of : List Carried → List ℕ
receives_of cs = filter_map receive_of cs

-- as the code keeps them: three at most
abbrev pub moved_by : List ℕ → Moved
moved_by [] = moved.Nothing
moved_by (a ∷ []) = moved.One a
moved_by (a ∷ b ∷ []) = moved.Two a b
moved_by (a ∷ b ∷ c ∷ []) = moved.Three a b c
moved_by (a ∷ b ∷ c ∷ d ∷ ports) = moved.Several

-- the text of a message that gives no receive right: its body is no list of items
abbrev pub gives_none : List ℕ → Bool
gives_none bytes = nat_lt 23 (length bytes) && (nat_lt (word_at bytes 0) (2 ^ 31) && not (word_at bytes 0 % 2 ^ 8 == 16))

-- the text of one whose body gives one right at most, and whose reply right is no receive right: its body is eight bytes long
abbrev pub gives_one : List ℕ → Bool
gives_one bytes = length bytes == 32 && not (word_at bytes 0 % 2 ^ 8 == 16)

-- the receive rights come under these names
abbrev pub by_received : (task name : ℕ) → Received → Change
by_received task name received.Nothing = QueueNamed task name
by_received task name (received.One a) = ReceivedOne task name a
by_received task name (received.Two a b) = ReceivedTwo task name a b
by_received task name (received.Three a b c) = ReceivedThree task name a b c
by_received task name received.Several = Any

-- by all items of the body, where the reply right is no receive right
abbrev pub by_body : (task : ℕ) → List ℕ → Change
by_body task bytes =
    if nat_lt (length bytes) 24 || word_at bytes 0 % 2 ^ 8 == 16 then Any else by_received task (word_at bytes 12) (received_by (body_names (drop 24 bytes)))

-- The right of a body of one goes by the first word of the body, and its name is the second.
abbrev pub by_items : (task : ℕ) → List ℕ → Change
by_items task bytes =
    if gives_one bytes then (if word_at bytes 24 % 2 ^ 8 == 16 then ReceivedOne task (word_at bytes 12) (word_at bytes 28) else QueueNamed task (word_at bytes 12)) else by_body task bytes

-- The message was received by the task: its port is the one under the name in its fourth word.
abbrev pub by_message : (task : ℕ) → List ℕ → Change
by_message task bytes = if gives_none bytes then QueueNamed task (word_at bytes 12) else by_items task bytes

-- the port that gets a notice where this right is lost: that of a send-once right
abbrev pub noticed : Kind → Mark → Option ℕ
noticed send_once (mark.Port q) = Some q
noticed kind one = None

abbrev pub noticed_of : Carried → Option ℕ
noticed_of c = noticed (kind_sent c.given) c.mark

-- A message of this port is destroyed. It carries receive rights for the first ports, and send-once rights for the others, which get a notice. There is
-- place for one of these. Where a receive right is lost, its port dies or is sent away.
abbrev pub by_losing_with : (port : ℕ) → (receives notices : List ℕ) → Change
by_losing_with port [] [] = Queue port
by_losing_with port [] (q ∷ []) = Queues port q
by_losing_with port [] (q ∷ r ∷ qs) = Any
by_losing_with port (p ∷ ps) notices = Any

-- the same with one right more: a receive right for this port, or a send-once right for one that gets a notice
abbrev pub with_right : Change → (receive noticed : Option ℕ) → Change
with_right told (Some p) o = Any
with_right told None None = told
with_right (Queue port) None (Some q) = Queues port q
with_right told None (Some q) = Any

-- The message carries these rights, its reply right among them.
abbrev pub by_destroying : (port : ℕ) → (rights : List Carried) → Change
by_destroying port rights = by_losing_with port (receives_of rights) (filter_map noticed_of rights)

-- the message in front of the port
abbrev pub front_at : WorldView → (port : ℕ) → Option Kept
front_at w port = option_and_then (λ (v : PortView Kept). slice_get v.queue 0) (port_at w port)

-- this message of the port is destroyed, if there is one
abbrev pub by_front : (port : ℕ) → Option Kept → Change
by_front port None = Any
by_front port (Some m) = by_destroying port (option_to_list m.reply ++ m.rights)

-- by the tables before, where the message is taken from this port
abbrev pub by_too_long : WorldView → (from : Option ℕ) → Change
by_too_long w None = Any
by_too_long w (Some port) = by_front port (front_at w port)

abbrev pub by_receipt : WorldView → (task : ℕ) → (large : Bool) → (from : Option ℕ) → Reply → Change
by_receipt w task large from (Reply.Message bytes) = by_message task bytes
by_receipt w task large from (Reply.Empty waited) = Nothing
by_receipt w task large from (Reply.TooLarge n) = if large then Nothing else by_too_long w from
by_receipt w task large from reply = Any

-- a port is made, by a right of this number, or something else that nobody waits for
abbrev pub by_making : (right : ℕ) → Change
by_making right = if right == 1 then Made else Nothing

-- a message to the port takes along the receive right of another, which was in this set, if it was in one
abbrev pub by_taking_along : (to port : ℕ) → (left : Option ℕ) → Change
by_taking_along to port (Some left) = AlongFrom to port left
by_taking_along to port None = Along to port

-- the same of two others, which were in one set at most; for a second set there is no place
abbrev pub by_taking_two : (to a b : ℕ) → (left other : Option ℕ) → Change
by_taking_two to a b None None = AlongTwo to a b
by_taking_two to a b None (Some set) = AlongTwoFrom to a b set
by_taking_two to a b (Some set) None = AlongTwoFrom to a b set
by_taking_two to a b (Some set) (Some other) = if set == other then AlongTwoFrom to a b set else Any

-- the same of three others, none of which was in a set
abbrev pub by_taking_three : (to a b c : ℕ) → (left second third : Option ℕ) → Change
by_taking_three to a b c None None None = AlongThree to a b c
by_taking_three to a b c left second third = Any

-- of a port in several sets there is no place for all
abbrev pub any_if_several : List ℕ → Change → Change
any_if_several sets change = if has_more sets then Any else change

-- by the tables before, where it takes along the receive rights of these
abbrev pub by_taking : WorldView → (to : ℕ) → (ports : List ℕ) → Change
by_taking w to [] = Queue to
by_taking w to (p ∷ []) = any_if_several (sets_at w p) (by_taking_along to p (slice_get (sets_at w p) 0))
by_taking w to (a ∷ b ∷ []) = any_if_several (sets_at w a) (any_if_several (sets_at w b) (by_taking_two to a b (slice_get (sets_at w a) 0) (slice_get (sets_at w b) 0)))
by_taking w to (a ∷ b ∷ c ∷ []) = by_taking_three to a b c (slice_get (sets_at w a) 0) (slice_get (sets_at w b) 0) (slice_get (sets_at w c) 0)
by_taking w to (a ∷ b ∷ c ∷ d ∷ ports) = Any

-- one reference under a name goes, or the send-once right, whose port gets a notice
abbrev pub by_losing_one : Option Entry → Change
by_losing_one (Some (entry.Send port references)) = Nothing
by_losing_one (Some (entry.ReceiveAndSend port references)) = Nothing
by_losing_one (Some (entry.DeadName references)) = Nothing
by_losing_one (Some (entry.SendOnce port)) = Queue port
by_losing_one e = Any

-- all under a name goes; the port of a send-once right gets a notice, and that of a receive right dies or is sent away
abbrev pub by_losing_all : Option Entry → Change
by_losing_all (Some (entry.Send port references)) = Nothing
by_losing_all (Some (entry.DeadName references)) = Nothing
by_losing_all (Some (entry.SendOnce port)) = Queue port
by_losing_all (Some (entry.Receive port)) = Lost port
by_losing_all (Some (entry.ReceiveAndSend port references)) = Lost port
by_losing_all e = Any

-- a set goes that has these members
abbrev pub disbanded : (set : ℕ) → List ℕ → Change
disbanded set [] = Disbanded set
disbanded set (a ∷ []) = Member a set
disbanded set (a ∷ b ∷ []) = DisbandedTwo set a b
disbanded set (a ∷ b ∷ c ∷ []) = DisbandedThree set a b c
disbanded set ports = Any

-- These ports are in the set, and no other.
pub record AreMembers (w : WorldView) (set : ℕ) (ports : List ℕ) : Type 0 where
  pub only : (port : ℕ) → Contains ports port → Contains (sets_at w port) set
  pub all : (port : ℕ) → Contains (sets_at w port) set → Contains ports port

-- A set goes: where memory is refused for the list of its members, any port and any set may have changed.
abbrev pub ByDisbanding : WorldView → (set : ℕ) → (told : Change) → Type 0
ByDisbanding w set told = ((ports : List ℕ) × AreMembers w set ports × (told ≡ disbanded set ports)) ⊎ (told ≡ Any)

-- All under a name goes, a set too.
abbrev pub ByLosingAll : WorldView → Option Entry → (told : Change) → Type 0
ByLosingAll w (Some (entry.Set set)) told = ByDisbanding w set told
ByLosingAll w e told = told ≡ by_losing_all e

-- references of a right of this number: those of a send right or a dead name are nothing that is waited for, and another right goes
abbrev pub ByReferences : WorldView → (task name right : ℕ) → (told : Change) → Type 0
ByReferences w task name right told = MatchBool (right == 0 || right == 4) (told ≡ Nothing) (ByLosingAll w (entry_at w task name) told)

-- a send right, or a dead name
abbrev pub is_send_or_dead : Entry → Bool
is_send_or_dead (entry.Send port references) = true
is_send_or_dead (entry.DeadName references) = true
is_send_or_dead e = false

-- The task's names stand for send rights and dead names alone.
pub record HasSendsAlone (w : WorldView) (task : ℕ) : Type 0 where
  pub only : (name : ℕ) (e : Entry) → entry_at w task name ≡ Some e → is_send_or_dead e ≡ true

-- A task ends: one that has no other rights and no sets changes nothing.
abbrev pub ByEnding : WorldView → (task : ℕ) → (told : Change) → Type 0
ByEnding w task told = HasSendsAlone w task × (told ≡ Nothing) ⊎ ¬ (HasSendsAlone w task) × (told ≡ Any)

-- a port goes to another set or place, from these sets, if it is in any; of several there is no place for all
abbrev pub left_by : (port : ℕ) → Membership → Change
left_by port Nowhere = Queue port
left_by port (Alone set) = Left port set
left_by port (Several set) = Any

abbrev pub moved_from : WorldView → Option ℕ → Change
moved_from w (Some port) = left_by port (membership_in (sets_at w port))
moved_from w None = Any

abbrev pub by_moving : WorldView → (task name : ℕ) → Change
by_moving w task name = moved_from w (port_under w task name)

-- a port enters or leaves a set, beside others: those under the names
abbrev pub paired : Option ℕ → Option ℕ → Change
paired (Some port) (Some set) = Member port set
paired port set = Any

abbrev pub by_pairing : WorldView → (task member set : ℕ) → Change
by_pairing w task member set = paired (port_under w task member) (option_and_then set_named (entry_at w task set))

-- the right under a name goes to another task, by a disposition of this number
abbrev pub by_handing : WorldView → (task name number : ℕ) → Change
by_handing w task name number = if number == 16 then by_moving w task name else Nothing

-- a notice may be sent to the port of the right that pays for it: the send-once right under the name, or one made of the receive right there
abbrev pub by_paying : Option Entry → Change
by_paying (Some (entry.SendOnce port)) = Queue port
by_paying (Some (entry.Receive port)) = Queue port
by_paying (Some (entry.ReceiveAndSend port references)) = Queue port
by_paying e = Any

-- a notice is asked for, to be paid by the right under the name, or no more where that is 0
abbrev pub by_request : WorldView → (task name number : ℕ) → Change
by_request w task name number = if name == 0 then Nothing else (if number == 16 then Any else by_paying (entry_at w task name))

-- what the call changes, by the tables before it; what isn't determined so stands in `Changes`
abbrev pub change_of : WorldView → Event → Change
change_of w Event.TaskCreate = Nothing
change_of w (Event.GetRefs task name right) = Nothing
change_of w (Event.NameType task name) = Nothing
change_of w (Event.Names task) = Nothing
change_of w (Event.Rename task from to) = Nothing
change_of w (Event.ReceiveStatus task name) = Nothing
change_of w (Event.SetStatus task name) = Nothing
change_of w (Event.SetMscount task name n) = Nothing
change_of w (Event.SetSeqno task name n) = Nothing
change_of w (Event.SetQlimit task name n) = PortNamed task name
change_of w (Event.Allocate task right) = by_making right
change_of w (Event.AllocateName task right name) = by_making right
change_of w (Event.Deallocate task name) = by_losing_one (entry_at w task name)
change_of w (Event.MoveMember task member after) = by_moving w task member
change_of w (Event.InsertMember task member set) = by_pairing w task member set
change_of w (Event.ExtractMember task member set) = by_pairing w task member set
change_of w (Event.InsertRight task name from poly number) = by_handing w from poly number
change_of w (Event.ExtractRight task name number to) = by_handing w task name number
change_of w (Event.RequestNotification task name variant sync notify number) = by_request w task notify number
change_of w event = Any

-- what each call but a send and a receive changes
abbrev pub Changes : WorldView → Event → (told : Change) → Type 0
Changes w (Event.Destroy task name) told = ByLosingAll w (entry_at w task name) told
Changes w (Event.ModRefs task name right delta) told = ByReferences w task name right told
Changes w (Event.TaskTerminate task) told = ByEnding w task told
Changes w event told = told ≡ change_of w event

-- ---- which it is, where the end of the step had something to do

-- No request is on the port or on a name of it.
pub record IsUnasked (w : WorldView) (port : ℕ) : Type 0 where
  pub no_senders : map.get w.requests.no_senders.map port ≡ None
  pub port_destroyed : map.get w.requests.port_destroyed.map port ≡ None
  pub on_names : NoneOn w.requests.names port

-- Nothing is queued at the port, no request is on it or on a name of it, and none was on a name that went.
pub record DiesAlone (w : WorldView) (port : ℕ) : Type 0 where
  pub unqueued : NoneQueued w.ports port
  pub unasked : IsUnasked w port
  pub went : w.requests.names.went ≡ []

-- By the tables before the end: a port that dies alone leaves its sets, and all else may be anything.
abbrev pub EndsAs : WorldView → (told ends : Change) → Type 0
EndsAs w (Lost port) ends = DiesAlone w port × (ends ≡ left_by port (membership_in (sets_at w port))) ⊎ ¬ (DiesAlone w port) × (ends ≡ Any)
EndsAs w told ends = ends ≡ Any
