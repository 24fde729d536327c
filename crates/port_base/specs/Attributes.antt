-- A port's attributes: those of a new port, and how they change.
use Rattle.std.specs.Prelude.{ℕ, ◌+◌, ◌%◌, ◌^◌, None}
use Rattle.mach_types.specs.Numbers.{first_limit}
use Rattle.port_base.specs.declared.Attributes.{Attributes}
use Rattle.port_base.specs.declared.Holder.{Holder}
use Rattle.port_base.specs.declared.Holder.TheVariants as holder

-- a new port's attributes: limit 5, no message yet sent, made or received, and its receive right with the task
abbrev pub first_attributes : (task : ℕ) → Attributes
first_attributes task = record { limit = first_limit; make_send = 0; sequence = 0; set = None; holder = holder.Task task }

-- a send right more was made from the receive right
abbrev pub one_made : Attributes → Attributes
one_made a = record a { make_send = (a.make_send + 1) % 2 ^ 32 }

-- a message more was received
abbrev pub one_received : Attributes → Attributes
one_received a = record a { sequence = (a.sequence + 1) % 2 ^ 32 }

-- the limit and the counts of the first, and the set and the holder of the other
abbrev pub counted_as : Attributes → Attributes → Attributes
counted_as a b = record b { limit = a.limit; make_send = a.make_send; sequence = a.sequence }

-- the counts begin again
abbrev pub restarted : Attributes → Attributes
restarted a = record a { make_send = 0; sequence = 0 }

-- the same attributes with another holder
abbrev pub held_by : Attributes → Holder → Attributes
held_by a holder = record a { holder = holder }
