-- What a call needs of a name, and what a name counts.
use Rattle.std.specs.Prelude.{ℕ, ℤ, ◌≤◌, ◌⊎◌, Bool, true, false, ◌||◌, ◌==◌, not, if◌then◌else◌}
use Rattle.mach_model.specs.Refusals.{IsBelowZero, IsAbove, IsDisposition}
use Rattle.name_space.specs.declared.Entry.{Entry as Standing}
use Rattle.name_space.specs.declared.Entry.TheVariants.{Send, ReceiveAndSend, SendOnce, DeadName, Set}
use Rattle.name_space.specs.Entry.{has_receive}
use Rattle.mach_causes_base.specs.declared.cause.Wanted.{Wanted}

abbrev pub has_send : Standing → Bool
has_send (Send port references) = true
has_send (ReceiveAndSend port references) = true
has_send standing = false

abbrev pub is_once : Standing → Bool
is_once (SendOnce port) = true
is_once standing = false

abbrev pub is_dead : Standing → Bool
is_dead (DeadName references) = true
is_dead standing = false

abbrev pub is_set : Standing → Bool
is_set (Set set) = true
is_set standing = false

-- whether the name has the right that the disposition of this number takes
abbrev pub meets_disposition : ℕ → Standing → Bool
meets_disposition number standing =
    if number == 16 || number == 20 || number == 21 then has_receive standing else
    if number == 17 || number == 19 then has_send standing else
    if number == 18 then is_once standing else false

-- whether the name has the right of this number
abbrev pub meets_right : ℕ → Standing → Bool
meets_right number standing =
    if number == 0 then has_send standing else
    if number == 1 then has_receive standing else
    if number == 2 then is_once standing else
    if number == 3 then is_set standing else
    if number == 4 then is_dead standing else false

-- It is a disposition or a right by its number.
abbrev pub IsWanted : Wanted → Type 0
IsWanted (Wanted.Disposition number) = IsDisposition number
IsWanted (Wanted.Right number) = number ≤ 4
IsWanted wanted = Unit {0}

-- whether what a name stands for is what the call needs
abbrev pub meets : Wanted → Standing → Bool
meets (Wanted.Disposition number) standing = meets_disposition number standing
meets Wanted.Receive standing = has_receive standing
meets Wanted.ReceiveOrSet standing = has_receive standing || is_set standing
meets Wanted.Set standing = is_set standing
meets (Wanted.Right number) standing = meets_right number standing
meets Wanted.Deallocated standing = has_send standing || is_once standing || is_dead standing
meets Wanted.Mortal standing = not (is_set standing)

-- how many references the name has to its send rights, or to its dead name
abbrev pub counted : Standing → ℕ
counted (Send port references) = references
counted (ReceiveAndSend port references) = references
counted (DeadName references) = references
counted standing = 0

-- So many references can't be changed by this number.
abbrev pub IsOutOfRange : ℕ → ℤ → Type 0
IsOutOfRange references delta = IsBelowZero references delta ⊎ IsAbove references delta
