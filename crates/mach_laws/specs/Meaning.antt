-- What each notice means, in the states before and after the step that posts it (IPC Interface, notifications). The notify port is the one
-- that it is posted at. `mid` is the state after the event's own part, before ports die.
use Rattle.std.specs.Prelude.{◌≡◌, ℕ, ◌+◌, ◌<◌, ◌≤◌, ◌⊎◌, true, false, Some}
use Rattle.mach_types.specs.declared.calls.Event.{Event}
use Rattle.mach_types.specs.Tokens.{receive, send_once, Request, no_senders, port_destroyed, dead_name, Place, in_task, in_message, in_request}
use Rattle.mach_model.specs.State.{State, Target, lookup, senders}
use Rattle.mach_model.specs.Death.{LiesAt, IsSentAway}
use Rattle.mach_model.specs.Notices.{Notice, port_deleted, port_sent, no_more_senders, right_unused, name_died}
use Rattle.mach_model.specs.Turns.{IsNameOf}

-- The request stood before the step with a right for the notify port, and stands no more.
pub record WasAsked (old new : State) (notify : ℕ) (request : Request) : Type 0 where
  pub stood : old.stands request ≡ true
  pub kept : LiesAt old send_once notify (in_request request)
  pub ended : new.stands request ≡ false

-- The step's own event makes the request, with a right for the notify port: `own` is the task's name of that.
abbrev pub AsksNow : State → Event → (task name variant sync notify : ℕ) → Type 0
AsksNow old event task name variant sync notify =
    (own number : ℕ) × (event ≡ Event.RequestNotification task name variant sync own number) × IsNameOf notify (lookup old task own)

abbrev pub DiesIn : (old new : State) → (port : ℕ) → Type 0
DiesIn old new p = (old.live_port p ≡ true) × (new.live_port p ≡ false)

-- port-deleted: a dead-name request stood on a task's name, and the event itself took the name away.
pub record NameWent (old mid new : State) (notify name : ℕ) : Type 0 where
  pub task : ℕ
  pub asked : WasAsked old new notify (dead_name task name)
  pub went : mid.stands (dead_name task name) ≡ false

-- port-destroyed: the port would have died, but lives, and its receive right is in the notice.
pub record WasSentAway (old mid new : State) (notify entry port : ℕ) : Type 0 where
  pub asked : WasAsked old new notify (port_destroyed port)
  pub lives : new.live_port port ≡ true
  pub away : IsSentAway mid port
  pub carried : LiesAt new receive port (in_message notify entry)

-- no-senders: a port had send rights before the step and has none after it. Its make-send count is told.
pub record LostSenders (old new : State) (notify make_send : ℕ) : Type 0 where
  pub port : ℕ
  pub asked : WasAsked old new notify (no_senders port)
  pub lives : new.live_port port ≡ true
  pub had : 0 < senders old port
  pub has_none : senders new port ≡ 0
  pub counted : make_send ≡ new.make_send port

-- Or it has none already when that is asked, and was made as many as the caller names.
pub record HasNoSendersYet (old : State) (event : Event) (notify make_send : ℕ) : Type 0 where
  pub task : ℕ
  pub name : ℕ
  pub sync : ℕ
  pub asks : AsksNow old event task name 70 sync notify
  pub port : ℕ
  pub named : lookup old task name ≡ Some (Target.port port)
  pub has_none : senders old port ≡ 0
  pub enough : sync ≤ old.make_send port
  pub counted : make_send ≡ old.make_send port

-- The event may drop a send-once right of the task.
abbrev pub MayDrop : Event → (task : ℕ) → Type 0
MayDrop (Event.TaskTerminate caller) task = caller ≡ task
MayDrop (Event.Deallocate caller name) task = caller ≡ task
MayDrop (Event.Destroy caller name) task = caller ≡ task
MayDrop (Event.ModRefs caller name right delta) task = caller ≡ task
MayDrop event task = ⊥

-- What became of the place: the event dropped the task's right; the port of the message died, or the message was the one in front
-- and was destroyed as too long; or the port of the request died.
abbrev pub WasLost : (old : State) → Event → (new : State) → Place → Type 0
WasLost old event new (in_task task) = MayDrop event task
WasLost old event new (in_message q k) = DiesIn old new q ⊎ (k ≡ old.taken q) × (new.taken q ≡ k + 1)
WasLost old event new (in_request (no_senders p)) = DiesIn old new p
WasLost old event new (in_request (port_destroyed p)) = DiesIn old new p
WasLost old event new (in_request (dead_name task name)) = ⊥

-- send-once: a right for the notify port is lost unused, from where it lay before the step.
pub record WentUnused (old : State) (event : Event) (new : State) (notify : ℕ) : Type 0 where
  pub place : Place
  pub lay : LiesAt old send_once notify place
  pub lost : WasLost old event new place

-- dead-name: a dead-name request stood on a task's name, whose port died in the step. The name is a dead name then.
pub record NameDied (old new : State) (notify name : ℕ) : Type 0 where
  pub task : ℕ
  pub asked : WasAsked old new notify (dead_name task name)
  pub port : ℕ
  pub named : IsNameOf port (lookup old task name)
  pub dies : DiesIn old new port
  pub references : ℕ
  pub is_dead : lookup new task name ≡ Some (Target.dead references)

-- Or it was a dead name already when that is asked.
pub record IsDeadAlready (old : State) (event : Event) (notify name : ℕ) : Type 0 where
  pub task : ℕ
  pub sync : ℕ
  pub asks : AsksNow old event task name 72 sync notify
  pub references : ℕ
  pub was_dead : lookup old task name ≡ Some (Target.dead references)

-- the notice that stands at this entry of the notify port's log
abbrev pub Means : (old : State) → Event → (mid new : State) → (notify entry : ℕ) → Notice → Type 0
Means old event mid new notify entry (port_deleted name) = NameWent old mid new notify name
Means old event mid new notify entry (port_sent port) = WasSentAway old mid new notify entry port
Means old event mid new notify entry (no_more_senders n) = LostSenders old new notify n ⊎ HasNoSendersYet old event notify n
Means old event mid new notify entry right_unused = WentUnused old event new notify
Means old event mid new notify entry (name_died name) = NameDied old new notify name ⊎ IsDeadAlready old event notify name
