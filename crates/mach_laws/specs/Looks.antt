-- Which answers only tell, and what it means that nothing changed (this project's own).
use Rattle.std.specs.Prelude.{◌≡◌, true, []}
use Rattle.mach_types.specs.declared.calls.Event.{Event}
use Rattle.mach_types.specs.declared.calls.Reply.{Reply}
use Rattle.mach_types.specs.Tokens.{Moves}
use Rattle.mach_model.specs.State.{State}

-- The answer tells what is there; or that there is no message, or one that is too long and was asked to stay.
abbrev pub IsLook : Event → Reply → Type 0
IsLook (Event.Receive task name room large) (Reply.TooLarge n) = large ≡ true
IsLook (Event.ReceiveAgain task waited room large) (Reply.TooLarge n) = large ≡ true
IsLook event (Reply.Refs n) = Unit {0}
IsLook event (Reply.NameType n) = Unit {0}
IsLook event (Reply.Names names) = Unit {0}
IsLook event (Reply.Status status) = Unit {0}
IsLook event (Reply.Members members) = Unit {0}
IsLook event (Reply.Empty told) = Unit {0}
IsLook event reply = ⊥

-- The state is as before, but for the order of its tokens, which is of no account.
pub record IsUnchanged (old new : State) : Type 0 where
  pub rest : new ≡ record old { ledger = new.ledger }
  pub tokens : Moves old.ledger new.ledger [] []
