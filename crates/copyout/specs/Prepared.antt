-- What memory was taken for before a message is taken.
use Rattle.std.specs.Prelude.{◌≡◌, ◌≤◌, [], length}
use Rattle.copyin_base.specs.Kept.{Kept, Makes}
use Rattle.copyout.specs.declared.receipt.Prepared.{Prepared}

-- No name stands there yet; there is room for one for each right of the message's body, and a notice's message is made.
pub record IsPrepared (m : Kept) (prepared : Prepared) : Type 0 where
  pub none : prepared.names.items ≡ []
  pub words_fit : length m.rights ≤ prepared.names.capacity
  pub made : Makes m prepared.made
