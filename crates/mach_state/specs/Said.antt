-- What is said of a task's name and of a port, and when that is true of a state of the machine.
use Rattle.std.specs.Prelude.{◌≡◌, ℕ, ◌^◌, ◌-◌, true, false, List, drop, length, min, slice_get, Option, Some, None, is_some}
use Rattle.mach_types.specs.Tokens.{receive, send, send_once, Request, count, is_of}
use Rattle.mach_model.specs.State.{State, Target, lookup, queue, held, Holds}
use Rattle.mach_model.specs.Telling.{one_if}
use Rattle.name_space.specs.Entry.{port_named, has_receive, send_references}
use Rattle.copyin_base.specs.Shows.{target_of, HasCount}
use Rattle.mach_state.specs.declared.states.NameState.{NameState}
use Rattle.mach_state.specs.declared.states.PortState.{PortState}

-- The name stands for this, with these references, and has a dead-name request or none.
pub record SaysName (s : State) (task name : ℕ) (said : NameState) : Type 0 where
  pub named : lookup s task name ≡ Some (target_of said.standing)
  pub some : HasCount said.standing
  pub rights : (p : ℕ) → port_named said.standing ≡ Some p →
      (held s task receive p ≡ one_if (has_receive said.standing)) × (held s task send p ≡ send_references said.standing)
  pub request : s.stands (Request.dead_name task name) ≡ is_some said.notify

-- What is said of the name is so. Of no name nothing is said.
abbrev pub IsNameSaid : State → (task name : ℕ) → Option NameState → Type 0
IsNameSaid s task name (Some said) = SaysName s task name said
IsNameSaid s task name None = lookup s task name ≡ None

-- How many there are, as 64 bits say it: 2^64 - 1 stands for more.
abbrev pub number_of : List ℕ → ℕ
number_of xs = min (length xs) (2 ^ 64 - 1)

-- The port lives, and its queue, numbers, sets, rights and requests are these.
pub record SaysPort (s : State) (p : ℕ) (said : PortState) : Type 0 where
  pub live : s.live_port p ≡ true
  pub waiting : length (queue s p) ≡ said.queued
  pub limit : s.limit p ≡ said.limit
  pub make_send : s.make_send p ≡ said.make_send
  pub sequence : s.sequence p ≡ said.sequence
  pub set : slice_get (s.sets_of p) 0 ≡ said.set
  pub more_sets : number_of (drop 1 (s.sets_of p)) ≡ said.more_sets
  pub send_rights : count (is_of send p) s.ledger ≡ said.send_rights
  pub once_rights : count (is_of send_once p) s.ledger ≡ said.once_rights
  pub for_no_senders : s.stands (Request.no_senders p) ≡ is_some said.no_senders
  pub for_its_end : s.stands (Request.port_destroyed p) ≡ is_some said.port_destroyed

-- What is said of the port is so. Of a port that doesn't live nothing is said.
abbrev pub IsPortSaid : State → (p : ℕ) → Option PortState → Type 0
IsPortSaid s p (Some said) = SaysPort s p said
IsPortSaid s p None = s.live_port p ≡ false

-- The task has the port's receive right under the name.
pub record Receives (s : State) (task name p : ℕ) : Type 0 where
  pub named : lookup s task name ≡ Some (Target.port p)
  pub holds : Holds s task receive p
