-- The numbers of places: an item's own one, and the further ones. No public clause cites this module.
use Rattle.std.specs.Prelude.{ℕ, ◌+◌, ◌*◌, Bool, true, false}

-- an item's own place
abbrev pub own : Bool → ℕ → ℕ
own false item = item
own true item = 2 * item

-- a further place
abbrev pub far : ℕ → ℕ
far key = 2 * key + 1
