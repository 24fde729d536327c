-- What a step changes of the ports and port sets that tasks wait for (this project's own).
use Rattle.std.specs.Prelude.{◌≡◌, ◌≢◌, ◌↔◌, ℕ, None, Contains}
use Rattle.mach_types.specs.declared.calls.Waited.TheVariants.{Port, Set}
use Rattle.mach_types.specs.declared.touched.Touched.{Touched}
use Rattle.mach_types.specs.Touching.{Covers}
use Rattle.mach_types.specs.Tokens.{receive, in_message}
use Rattle.mach_model.specs.State.{State, held, queue}
use Rattle.mach_model.specs.Carried.{lying}

-- The port lives as before, or doesn't; it has the same queue, limit and sets, and its receive right lies where it lay.
pub record SamePort (s t : State) (p : ℕ) : Type 0 where
  pub live : t.live_port p ≡ s.live_port p
  pub waiting : queue t p ≡ queue s p
  pub limit : t.limit p ≡ s.limit p
  pub sets : t.sets_of p ≡ s.sets_of p
  pub with_task : (task : ℕ) → held t task receive p ≡ held s task receive p
  pub in_queue : (q k : ℕ) → lying t receive p (in_message q k) ≡ lying s receive p (in_message q k)

-- The set has its task, the same members, and these the same queues.
pub record SameSet (s t : State) (set : ℕ) : Type 0 where
  pub owner : t.set_owner set ≡ s.set_owner set
  pub members : (p : ℕ) → Contains (t.sets_of p) set ↔ Contains (s.sets_of p) set
  pub waiting : (p : ℕ) → Contains (s.sets_of p) set → queue t p ≡ queue s p

-- From the one state to the other each port is the same that isn't covered, and each such set that was there.
pub record TouchesOnly (s t : State) (touched : Touched) : Type 0 where
  pub ports : (p : ℕ) → ¬ (Covers touched (Port p)) → SamePort s t p
  pub sets : (set : ℕ) → s.set_owner set ≢ None → ¬ (Covers touched (Set set)) → SameSet s t set
