-- What a kernel may choose where the machine leaves it open.
use Rattle.std.specs.Prelude.{◌≡◌}
use Rattle.copyin_base.specs.Worlds.{WorldView}

-- Nothing but the turns of ready members in their sets is other than it was. No state of the machine has turns.
abbrev pub SameButTurns : (old new : WorldView) → Type 0
SameButTurns old new = new ≡ record old { ports = record old.ports { ready = new.ports.ready } }
