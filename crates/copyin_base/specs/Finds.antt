-- What is found under a name.
use Rattle.std.specs.Prelude.{◌≡◌, ℕ, Some}
use Rattle.name_space.specs.declared.Entry.{Entry}
use Rattle.name_space.specs.Entry.{receive_named}
use Rattle.copyin_base.specs.Worlds.{WorldView, entry_at}

-- The task has the port's receive right under the name.
pub record FindsReceive (w : WorldView) (task name port : ℕ) : Type 0 where
  pub entry : Entry
  pub found : entry_at w task name ≡ Some entry
  pub named : receive_named entry ≡ Some port
