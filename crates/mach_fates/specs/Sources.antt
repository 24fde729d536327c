-- From which port a step takes a message, by the tables.
use Rattle.std.specs.Prelude.{◌≡◌, ℕ, false, List, Option, Some, None, slice_get}
use Rattle.std.specs.Option.{option_and_then}
use Rattle.mach_types.specs.declared.calls.Event.{Event}
use Rattle.mach_types.specs.declared.calls.Reply.{Reply}
use Rattle.mach_types.specs.declared.calls.Waited.{Waited}
use Rattle.mach_types.specs.Grammar.{Header, WireBody, Spells}
use Rattle.name_space.specs.declared.Entry.{Entry as Named}
use Rattle.name_space.specs.declared.Entry.TheVariants as named
use Rattle.name_space.specs.Entry.{port_named}
use Rattle.port_base.specs.Turns.{turns_of}
use Rattle.copyin_base.specs.Worlds.{WorldView, entry_at}

-- the member whose turn it is
abbrev pub source_of_set : WorldView → (set : ℕ) → Option ℕ
source_of_set w set = slice_get (turns_of w.ports.ready set) 0

-- by what stands under a name
abbrev pub source_named : WorldView → Option Named → Option ℕ
source_named w None = None
source_named w (Some (named.Set set)) = source_of_set w set
source_named w (Some entry) = port_named entry

abbrev pub source_waited : WorldView → Waited → Option ℕ
source_waited w (Waited.Port p) = Some p
source_waited w (Waited.Set set) = source_of_set w set

abbrev pub source_too_long : WorldView → Event → Option ℕ
source_too_long w (Event.Receive task name room false) = source_named w (entry_at w task name)
source_too_long w (Event.ReceiveAgain task waited room false) = source_waited w waited
source_too_long w event = None

-- of a message that is destroyed as too long, by the tables before the step
abbrev pub source_before : WorldView → Event → Reply → Option ℕ
source_before w event (Reply.TooLarge n) = source_too_long w event
source_before w event reply = None

-- the port that the header of a received message names
abbrev pub IsNamedIn : WorldView → (task : ℕ) → (bytes : List ℕ) → Option ℕ → Type 0
IsNamedIn w task bytes source = (header : Header) (written : WireBody) → Spells bytes header written → source ≡ option_and_then port_named (entry_at w task header.local)

abbrev pub IsNamedBy : WorldView → Event → (bytes : List ℕ) → Option ℕ → Type 0
IsNamedBy w (Event.Receive task name room large) bytes source = IsNamedIn w task bytes source
IsNamedBy w (Event.ReceiveAgain task waited room large) bytes source = IsNamedIn w task bytes source
IsNamedBy w event bytes source = Unit {0}

-- of a message that is received, by the tables after the step
abbrev pub IsSourceAfter : WorldView → Event → Reply → Option ℕ → Type 0
IsSourceAfter w event (Reply.Message bytes) source = IsNamedBy w event bytes source
IsSourceAfter w event reply source = source ≡ None
