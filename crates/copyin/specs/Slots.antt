-- How many message slots a message wants, beside those of the send-once rights that no queued message goes by.
use Rattle.std.specs.Prelude.{ℕ, ◌+◌, List, [], ◌∷◌, Option, Some, None}
use Rattle.mach_types.specs.declared.rights.Disposition.{Disposition}
use Rattle.mach_types.specs.declared.rights.Disposition.TheVariants.{MoveSendOnce, MakeSendOnce}
use Rattle.copyin_base.specs.declared.Carried.{Carried}
use Rattle.copyin_base.specs.declared.Mark.{Mark}
use Rattle.copyin_base.specs.declared.Mark.TheVariants as mark

-- how many send-once rights are made by a right that is copied in
abbrev pub once_made_by_mark : Disposition → Mark → ℕ
once_made_by_mark MakeSendOnce (mark.Port p) = 1
once_made_by_mark d one = 0

abbrev pub once_made_by : Carried → ℕ
once_made_by c = once_made_by_mark c.given c.mark

abbrev pub once_made_by_reply : Option Carried → ℕ
once_made_by_reply None = 0
once_made_by_reply (Some c) = once_made_by c

abbrev pub once_made_by_all : List Carried → ℕ
once_made_by_all [] = 0
once_made_by_all (c ∷ cs) = once_made_by c + once_made_by_all cs

-- a message takes the slot of the send-once right that it goes by, if that was there before, and else wants one
abbrev pub own_slot : (destination : Disposition) → ℕ
own_slot MoveSendOnce = 0
own_slot d = 1

-- its own, and one for each send-once right that its reply and its body make
abbrev pub slots_for : (destination : Carried) → (reply : Option Carried) → (rights : List Carried) → ℕ
slots_for destination reply rights = own_slot destination.given + once_made_by_reply reply + once_made_by_all rights
