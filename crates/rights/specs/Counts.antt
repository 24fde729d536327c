-- How many rights of each kind a port has.
use Rattle.std.specs.Prelude.{ℕ, ◌+◌, ◌-◌}
use Rattle.rights.specs.declared.Counts.{Counts}
use Rattle.rights.specs.declared.RightKind.{RightKind}
use Rattle.rights.specs.declared.RightKind.TheVariants.{Receive, Send, SendOnce, Destination}

abbrev pub no_rights : Counts
no_rights = record { receive = 0; send = 0; send_once = 0; destination = 0 }

abbrev pub number_of : RightKind → Counts → ℕ
number_of Receive c = c.receive
number_of Send c = c.send
number_of SendOnce c = c.send_once
number_of Destination c = c.destination

abbrev pub with_more : RightKind → ℕ → Counts → Counts
with_more Receive n c = record c { receive = c.receive + n }
with_more Send n c = record c { send = c.send + n }
with_more SendOnce n c = record c { send_once = c.send_once + n }
with_more Destination n c = record c { destination = c.destination + n }

abbrev pub with_fewer : RightKind → ℕ → Counts → Counts
with_fewer Receive n c = record c { receive = c.receive - n }
with_fewer Send n c = record c { send = c.send - n }
with_fewer SendOnce n c = record c { send_once = c.send_once - n }
with_fewer Destination n c = record c { destination = c.destination - n }

-- a send-once right is one that a queued message goes by
abbrev pub one_shifted : Counts → Counts
one_shifted c = record c { send_once = c.send_once - 1; destination = c.destination + 1 }

-- how many of so many rights are send-once rights that no queued message goes by
abbrev pub unused_of : RightKind → ℕ → ℕ
unused_of SendOnce n = n
unused_of Receive n = 0
unused_of Send n = 0
unused_of Destination n = 0

-- all rights of the port
abbrev pub all_of : Counts → ℕ
all_of c = c.receive + c.send + c.send_once + c.destination
