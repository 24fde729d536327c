-- A receive right that is found: what its machine's guards say of it, and that its port is there.
use Rattle.std.proofs.Common.{◌≡◌, ℕ, true, Some, None, ◌∙◌}
use Rattle.std.specs.Prelude.{is_some}
use Rattle.mach_types.specs.Tokens.{receive}
use Rattle.mach_model.specs.State.{State, Target, lookup, Holds}
use Rattle.mach_model.specs.NameGuards.{NamesReceive}
use Rattle.mach_model.specs.Refusals.{receive_guards}
use Rattle.copyin_base.specs.Worlds.{WorldView, port_at}
use Rattle.copyin_base.specs.Shows.{Agrees, Shows}
use Rattle.copyin_base.specs.Stands.{Stands}
use Rattle.copyin_base.specs.Finds.{FindsReceive}
use Rattle.copyin_base.specs.Serving.{IsAllowed}
use Rattle.copyin_base.proofs.Told.{used, names_port, holds_receive, receive_lives}

module _ (w : WorldView) (task name p : ℕ) (f : FindsReceive w task name p) where
  pub finds_used : (s : State) → Agrees w s → ¬ (lookup s task name ≡ None)
  finds_used s a = used w s a task name f.entry f.found

  pub finds_port : (s : State) → Agrees w s → lookup s task name ≡ Some (Target.port p)
  finds_port s a = names_port w s a task name f.entry p f.found f.named

  pub finds_held : (s : State) → Agrees w s → Holds s task receive p
  finds_held s a = holds_receive w s a task name f.entry p f.found f.named

  pub finds_receive : (s : State) → Agrees w s → NamesReceive s task name
  finds_receive s a = (p, finds_port s a, finds_held s a)

  pub receive_allowed : IsAllowed w (λ s. receive_guards s task name)
  receive_allowed = record { allowed = λ s sh. (finds_used s sh.agrees, ((λ not. not (finds_receive s sh.agrees)), tt)) }

  pub receive_port_lives : (s : State) → Shows w s → s.live_port p ≡ true
  receive_port_lives s sh = receive_lives w s sh.agrees sh.lawful task name f.entry p f.found f.named

  pub receive_port_there : Stands w → is_some (port_at w p) ≡ true
  receive_port_there stands = stands.shown.agrees.live_port p ∙ receive_port_lives stands.state stands.shown
