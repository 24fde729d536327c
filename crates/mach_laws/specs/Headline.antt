-- What a run promises, in one statement (this project's own).
use Rattle.std.specs.Prelude.{◌≡◌, ℕ, true, List, map, slice_get, Some}
use Rattle.mach_types.specs.declared.calls.Event.{Event}
use Rattle.mach_types.specs.declared.calls.Reply.{Reply}
use Rattle.mach_types.specs.Tokens.{receive, count, is_of}
use Rattle.mach_model.specs.State.{State}
use Rattle.mach_laws.specs.Paths.{Stage, Path}
use Rattle.mach_laws.specs.Received.{GivesWhatCame}
use Rattle.mach_laws.specs.Order.{InOrder}
use Rattle.mach_types.specs.declared.profiles.Profile.{Profile}

pub record Headline (profile : Profile) (events : List Event) (replies : List Reply) (s : State) : Type 0 where
  -- the run's stages, from nothing to the state, with these events and replies; each does what a step may do (`Acts`)
  pub stages : List Stage
  pub path : Path profile stages s
  pub events_are : map (λ x. x.event) stages ≡ events
  pub replies_are : map (λ x. x.reply) stages ≡ replies
  -- Each message that a stage gives came by an earlier stage: it was accepted there, or is a notice that was due there. It means what it
  -- meant then, but that rights for ports that are dead by now are dead. The stage takes it from the front of its port, and no other.
  pub meant : (k : ℕ) (bytes : List ℕ) (x : Stage) → slice_get stages k ≡ Some x → x.reply ≡ Reply.Message bytes → GivesWhatCame stages k bytes x
  -- of each port, what was taken from it, and then what is queued, is what came to it, in the same order
  pub order : (p : ℕ) → InOrder p stages s
  -- each port that lives has one receive right, over all tasks and all messages
  pub one_receive : (p : ℕ) → s.live_port p ≡ true → count (is_of receive p) s.ledger ≡ 1
