-- What is kept of the queues of live ports, and what a step makes of it, by counts.
use Rattle.std.specs.Prelude.{◌≡◌, ◌≢◌, ◌⊎◌, ℕ, ◌<◌, ◌≤◌, ◌^◌, List, [], ◌∷◌, ◌++◌, All, Option, Some, None, is_some, map, drop, length}
use Rattle.std.specs.Option.{option_map}
use Rattle.std.specs.BTreeMap.{get}
use Rattle.std.specs.Ordering.{nat_cmp}
use Rattle.mach_types.specs.declared.calls.Waited.TheVariants.{Port}
use Rattle.mach_types.specs.declared.touched.Touched.{Touched}
use Rattle.mach_types.specs.Touching.{Covers}
use Rattle.port.specs.Ports.{PortView}
use Rattle.copyin_base.specs.Kept.{Kept}
use Rattle.copyin_base.specs.Worlds.{WorldView, port_at}
use Rattle.mach_fates.specs.declared.effects.Lost.{Lost}
use Rattle.mach_fates.specs.declared.origin.Origin.{Origin}
use Rattle.mach_fates.specs.declared.origin.Waiting.{Waiting}
use Rattle.mach_fates.specs.declared.fates.Fates.{Fates}

-- ---- what is kept

-- from which entries the messages of a queue came
abbrev pub entries_of : List Origin → List ℕ
entries_of q = map (λ o. o.entry) q

abbrev pub entries_in : Waiting → List ℕ
entries_in w = entries_of w.origins

-- what is kept of the port, if it is kept
abbrev pub kept_at : Fates → ℕ → Option (List ℕ)
kept_at f p = option_map entries_in (get nat_cmp f.ports p)

-- how many messages are kept of it
abbrev pub queued_at : Fates → ℕ → Option ℕ
queued_at f p = option_map (λ (w : Waiting). length w.origins) (get nat_cmp f.ports p)

abbrev pub or_nothing : Option (List ℕ) → List ℕ
or_nothing None = []
or_nothing (Some xs) = xs

-- ---- what a visit makes of it

-- The number comes behind, as many times as the queue has more.
pub record Grows (number : ℕ) (queued : ℕ) (old new : List ℕ) : Type 0 where
  pub added : List ℕ
  pub more : new ≡ old ++ added
  pub same : All (λ n. n ≡ number) added
  pub count : length old ≤ queued → length new ≡ queued

-- So it is for a port that lives, by its tables.
abbrev pub Appends : (number : ℕ) → WorldView → (port : ℕ) → (old new : List ℕ) → Type 0
Appends number w p old new = (queued : ℕ) → option_map (λ (v : PortView Kept). length v.queue) (port_at w p) ≡ Some queued → Grows number queued old new

-- Nothing is kept of a port that doesn't live.
pub record Settles (number : ℕ) (w : WorldView) (p : ℕ) (old new : Option (List ℕ)) : Type 0 where
  pub live : is_some new ≡ is_some (port_at w p)
  pub appends : Appends number w p (or_nothing old) (or_nothing new)

-- The port is visited, and nothing else changes.
pub record Visits (number : ℕ) (w : WorldView) (p : ℕ) (old new : Fates) : Type 0 where
  pub taken : new.taken ≡ old.taken
  pub visited : new.visited.items ≡ old.visited.items ++ p ∷ []
  pub settles : Settles number w p (kept_at old p) (kept_at new p)
  pub others : (q : ℕ) → q ≢ p → kept_at new q ≡ kept_at old q
  pub made : new.made ≡ old.made

-- It is none of the elements.
abbrev pub Apart : {A : Type 0} → A → List A → Type 0
Apart x xs = All (λ y. y ≢ x) xs

-- The list of visited ports grows, and has each port of which what is kept changed.
pub record Sees (old new : Fates) : Type 0 where
  pub more : (p : ℕ) → Apart p new.visited.items → Apart p old.visited.items
  pub quiet : (p : ℕ) → Apart p new.visited.items → kept_at new p ≡ kept_at old p

-- Each port is visited, or what is kept of it stays, and then this holds of it.
pub record VisitsBut (Stays : ℕ → Type 0) (number : ℕ) (w : WorldView) (old new : Fates) : Type 0 where
  pub taken : new.taken ≡ old.taken
  pub made : new.made ≡ old.made
  pub sees : Sees old new
  pub each : (p : ℕ) → Settles number w p (kept_at old p) (kept_at new p) ⊎ (kept_at new p ≡ kept_at old p) × Stays p

-- ---- what is taken

-- The message that was taken is the first of these, and the port's.
abbrev pub IsFirst : (port : ℕ) → Option Lost → List ℕ → Type 0
IsFirst p taken [] = taken ≡ None
IsFirst p taken (n ∷ ns) = (x : Lost) × (taken ≡ Some x) × (x.port ≡ p) × (x.origin.entry ≡ n)

-- The first origin of the port goes, and is that of the message that was taken.
pub record Takes (p : ℕ) (old new : Fates) : Type 0 where
  pub first : IsFirst p new.taken (or_nothing (kept_at old p))
  pub rest : kept_at new p ≡ option_map (drop 1) (kept_at old p)
  pub others : (q : ℕ) → q ≢ p → kept_at new q ≡ kept_at old q
  pub made : new.made ≡ old.made
  pub visited : new.visited.items ≡ old.visited.items

-- So it does where there is a port from which the step took; and that port is visited.
abbrev pub TakesFrom : (number : ℕ) → WorldView → (source : Option ℕ) → (old new : Fates) → Type 0
TakesFrom number w None old new = new ≡ old
TakesFrom number w (Some p) old new = (mid : Fates) × Takes p old mid × Visits number w p mid new

-- ---- what a step touched

-- Fewer ports were made than there are identities.
abbrev pub HasIdentities : WorldView → Type 0
HasIdentities w = w.ports.made < 2 ^ 64

-- The step can't have changed the port; or nothing was kept of it, and it wasn't made in the step.
abbrev pub IsPassed : (touched : Touched) → (made : ℕ) → (old : Fates) → ℕ → Type 0
IsPassed touched made old p = ¬ (Covers touched (Port p)) ⊎ (kept_at old p ≡ None) × ((p < old.made) ⊎ (made ≤ p))

-- What the step touched is visited.
pub record Follows (number : ℕ) (w : WorldView) (touched : Touched) (old new : Fates) : Type 0 where
  pub taken : new.taken ≡ old.taken
  pub made : new.made ≡ w.ports.made
  pub sees : Sees old new
  pub each : (p : ℕ) → Settles number w p (kept_at old p) (kept_at new p) ⊎ (kept_at new p ≡ kept_at old p) × IsPassed touched w.ports.made old p
