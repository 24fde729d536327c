-- A call by a handle: the kernel's own step, where there is a kernel; and the code that C gets for it.
use Rattle.std.specs.Prelude.{◌≡◌, ◌⊎◌, ℕ, ℤ, List, ◌++◌, Option, None, Some, length, drop, map, min, if◌then◌else◌, nat_lt}
use Rattle.mach_types.specs.declared.calls.Event.{Event}
use Rattle.mach_types.specs.declared.calls.Reply.{Reply}
use Rattle.mach_types.specs.declared.codes.MsgReturn.TheVariants.{ReceiveTimedOut, ReceiveTooLarge, SendNoBuffer}
use Rattle.mach_types.specs.Codes.{msg_number}
use Rattle.kernel_record.specs.Recording.{StepsRecorded, missed}
use Rattle.gelvonds_c_base.specs.declared.status.PortStatus.{PortStatus}
use Rattle.gelvonds_c_base.specs.declared.waited.WaitedFor.{WaitedFor}
use Rattle.gelvonds_c_base.specs.Answers.{c_status, c_waited}
use Rattle.gelvonds_c_base.specs.Codes.{signed, no_kernel, too_short, no_answer}
use Rattle.gelvonds_c.specs.Held.{Kept}

abbrev pub Calls : (old : Kept) → Event → Option Reply → (new : Kept) → Type 0
Calls None event reply new = (reply ≡ None) × (new ≡ None)
Calls (Some old) event None new = ⊥
Calls (Some old) event (Some reply) None = ⊥
Calls (Some old) event (Some reply) (Some new) = StepsRecorded old event reply new

-- What a handle holds after a call that was not made: the same kernel, and where calls are kept nothing of this one.
abbrev pub unmade : Kept → Kept
unmade None = None
unmade (Some kernel) = Some (record { kernel = kernel.kernel; last = missed kernel.last })

-- What an answer is told by: the code of a refusal, why a receive got no message, and else 0, as the call was done.
abbrev pub code_for : Option Reply → ℕ
code_for None = no_kernel
code_for (Some (Reply.Code code)) = code
code_for (Some (Reply.Empty waited)) = msg_number ReceiveTimedOut
code_for (Some (Reply.TooLarge n)) = msg_number ReceiveTooLarge
code_for (Some Reply.NoRecord) = no_answer
code_for (Some reply) = 0

-- how many names, members or bytes an answer has for the caller's array
abbrev pub names_in : Option Reply → ℕ
names_in (Some (Reply.Names entries)) = length entries
names_in reply = 0

abbrev pub members_in : Option Reply → ℕ
members_in (Some (Reply.Members members)) = length members
members_in reply = 0

abbrev pub bytes_in : Option Reply → ℕ
bytes_in (Some (Reply.Message bytes)) = length bytes
bytes_in reply = 0

-- A list of so many numbers at the front of the caller's array, where there is room for all of them.
abbrev pub put_list : (room count : ℕ) → (list before : List ℕ) → List ℕ
put_list room count list before = if nat_lt room count then before else list ++ drop count before

-- what is written of a list that is answered: names, the types at the same places, or members
abbrev pub names_into : Option Reply → (room : ℕ) → List ℕ → List ℕ
names_into (Some (Reply.Names entries)) room before = put_list room (length entries) (map (λ e. e.0) entries) before
names_into reply room before = before

abbrev pub types_into : Option Reply → (room : ℕ) → List ℕ → List ℕ
types_into (Some (Reply.Names entries)) room before = put_list room (length entries) (map (λ e. e.1) entries) before
types_into reply room before = before

abbrev pub members_into : Option Reply → (room : ℕ) → List ℕ → List ℕ
members_into (Some (Reply.Members members)) room before = put_list room (length members) members before
members_into reply room before = before

-- how many names or members are answered, or the other number
abbrev pub names_or : Option Reply → ℕ → ℕ
names_or (Some (Reply.Names entries)) other = length entries
names_or reply other = other

abbrev pub members_or : Option Reply → ℕ → ℕ
members_or (Some (Reply.Members members)) other = length members
members_or reply other = other

-- the number that is answered, or the other one where none is
abbrev pub number_or : Option Reply → ℕ → ℕ
number_or (Some (Reply.Task task)) other = task
number_or (Some (Reply.Name name)) other = name
number_or (Some (Reply.Previous name)) other = name
number_or (Some (Reply.Refs refs)) other = refs
number_or (Some (Reply.NameType type)) other = type
number_or reply other = other

-- the name of the right that is answered and the number of its kind, or the other ones where none is
abbrev pub right_name_or : Option Reply → ℕ → ℕ
right_name_or (Some (Reply.Right name kind)) other = name
right_name_or reply other = other

abbrev pub right_kind_or : Option Reply → ℕ → ℕ
right_kind_or (Some (Reply.Right name kind)) other = kind
right_kind_or reply other = other

-- a status that is answered, or the other one
abbrev pub status_or : Option Reply → PortStatus → PortStatus
status_or (Some (Reply.Status status)) other = c_status status
status_or reply other = other

-- what was waited for, or the other one
abbrev pub waited_or : Option Reply → WaitedFor → WaitedFor
waited_or (Some (Reply.Empty waited)) other = c_waited waited
waited_or reply other = other

-- the length of a message that is answered, or that is too long, or the other one
abbrev pub length_or : Option Reply → ℕ → ℕ
length_or (Some (Reply.Message bytes)) other = length bytes
length_or (Some (Reply.TooLarge needed)) other = needed
length_or reply other = other

-- the buffer with the message's bytes at its front, where it has room for them
abbrev pub received_into : Option Reply → List ℕ → List ℕ
received_into (Some (Reply.Message bytes)) buffer = if nat_lt (length buffer) (length bytes) then buffer else bytes ++ drop (length bytes) buffer
received_into reply buffer = buffer

-- ---- what a C function does

-- The call of this event was made, once, and the code is that of its answer.
pub record Asks (old : Kept) (event : Event) (code : ℤ) (new : Kept) : Type 0 where
  pub reply : Option Reply
  pub calls : Calls old event reply new
  pub code_is : code ≡ signed (code_for reply)

-- The bytes were sent by such a call; or there was no memory for a copy of them, and no call was made.
abbrev pub SendsBytes : (old : Kept) → (task : ℕ) → (bytes : List ℕ) → (code : ℤ) → (new : Kept) → Type 0
SendsBytes old task bytes code new = Asks old (Event.Send task bytes) code new ⊎ (code ≡ signed (msg_number SendNoBuffer)) × (new ≡ unmade old)

-- A call was made, and the number that it answers stands in the place of the other one.
pub record Tells (old : Kept) (event : Event) (code : ℤ) (new : Kept) (before after : ℕ) : Type 0 where
  pub reply : Option Reply
  pub calls : Calls old event reply new
  pub code_is : code ≡ signed (code_for reply)
  pub tells : after ≡ number_or reply before

-- What a listing writes: all names and types, or all members, where the arrays have room, and how many they are.
pub record ListsNames (old : Kept) (event : Event) (code : ℤ) (new : Kept) (names_before names_after types_before types_after : List ℕ) (count_before count_after : ℕ) : Type 0 where
  pub reply : Option Reply
  pub calls : Calls old event reply new
  pub code_is : code ≡ signed (if nat_lt (min (length names_before) (length types_before)) (names_in reply) then too_short else code_for reply)
  pub names_are : names_after ≡ names_into reply (min (length names_before) (length types_before)) names_before
  pub types_are : types_after ≡ types_into reply (min (length names_before) (length types_before)) types_before
  pub count_is : count_after ≡ names_or reply count_before

pub record ListsMembers (old : Kept) (event : Event) (code : ℤ) (new : Kept) (before after : List ℕ) (count_before count_after : ℕ) : Type 0 where
  pub reply : Option Reply
  pub calls : Calls old event reply new
  pub code_is : code ≡ signed (if nat_lt (length before) (members_in reply) then too_short else code_for reply)
  pub members_are : after ≡ members_into reply (length before) before
  pub count_is : count_after ≡ members_or reply count_before

-- It was, and where its answer is a right, the right's name and kind are written.
pub record TellsRight (old : Kept) (event : Event) (code : ℤ) (new : Kept) (name_before name_after kind_before kind_after : ℕ) : Type 0 where
  pub reply : Option Reply
  pub calls : Calls old event reply new
  pub code_is : code ≡ signed (code_for reply)
  pub name_is : name_after ≡ right_name_or reply name_before
  pub kind_is : kind_after ≡ right_kind_or reply kind_before

-- It was, and where its answer is a status, all nine numbers are written.
pub record TellsStatus (old : Kept) (event : Event) (code : ℤ) (new : Kept) (before after : PortStatus) : Type 0 where
  pub reply : Option Reply
  pub calls : Calls old event reply new
  pub code_is : code ≡ signed (code_for reply)
  pub status_is : after ≡ status_or reply before

-- It was, and of what its answer is, the message's bytes are written, or its length, or what was waited for.
pub record Receives (old : Kept) (event : Event) (code : ℤ) (new : Kept) (bytes_before bytes_after : List ℕ) (length_before length_after : ℕ)
    (waited_before waited_after : WaitedFor) : Type 0 where
  pub reply : Option Reply
  pub calls : Calls old event reply new
  pub code_is : code ≡ signed (if nat_lt (length bytes_before) (bytes_in reply) then no_answer else code_for reply)
  pub bytes_are : bytes_after ≡ received_into reply bytes_before
  pub length_is : length_after ≡ length_or reply length_before
  pub waited_is : waited_after ≡ waited_or reply waited_before
