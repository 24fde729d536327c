-- The blocks of a hall: who waits for what, whom a change wakes, and when a block that waits gives up.
use Rattle.std.specs.Prelude.{◌≡◌, ◌≢◌, ◌<◌, ◌++◌, ◌∷◌, [], ◌⊎◌, ℕ, Bool, true, false, List, length, Option, Some, None, All, Contains, slice_index_or, slice_set}
use Rattle.mach_types.specs.declared.calls.Waited.{Waited}
use Rattle.mach_types.specs.declared.touched.Touched.{Touched}
use Rattle.mach_types.specs.Touching.{Covers}
use Rattle.mach_msg_threads.specs.declared.guests.Standing.{Standing}
use Rattle.mach_msg_threads.specs.declared.guests.Standing.TheVariants.{Runs, Waits as waits, Woken, Ended}

-- ---- what a block does

-- It sleeps, and no change has ended its wait.
abbrev pub Waits : Standing → Type 0
Waits (waits on) = Unit {0}
Waits standing = ⊥

-- It makes no call unless another block does.
abbrev pub Rests : Standing → Type 0
Rests standing = Waits standing ⊎ (standing ≡ Ended)

-- ---- changes

-- A change of these ports and sets ends its wait. One that waits in sending waits for any change.
abbrev pub IsEndedBy : Standing → Touched → Type 0
IsEndedBy (waits (Some on)) touched = Covers touched on
IsEndedBy (waits None) touched = Unit {0}
IsEndedBy standing touched = ⊥

-- A block before a change and after it: it is woken where the change ends its wait, and else does what it did.
abbrev pub Hears : Touched → (before after : Standing) → Type 0
Hears touched before after = (IsEndedBy before touched → after ≡ Woken) × (¬ (IsEndedBy before touched) → after ≡ before)

-- ---- coming and going

-- A block comes to the first place that another has left, or to a new one.
abbrev pub Admits : (old : List Standing) → (place : ℕ) → (new : List Standing) → Type 0
Admits old place new =
    (place < length old) × (slice_index_or old place Ended ≡ Ended) × (new ≡ slice_set old place Runs)
    ⊎ (place ≡ length old) × ¬ (Contains old Ended) × (new ≡ old ++ Runs ∷ [])

-- ---- waiting

-- A block that knows of so many changes is about to wait. It tries again at once where there were others since, gives up where no
-- other block can make one, and sleeps otherwise.
abbrev pub Begins : (place seen : ℕ) (on : Option Waited) → (changes : ℕ) (old : List Standing) → Option Bool → (new : List Standing) → Type 0
Begins place seen on changes old (Some true) new = (changes ≢ seen) × (new ≡ old)
Begins place seen on changes old (Some false) new = (changes ≡ seen) × All Rests (slice_set old place (waits on)) × (new ≡ slice_set old place Runs)
Begins place seen on changes old None new = (changes ≡ seen) × ¬ (All Rests (slice_set old place (waits on))) × (new ≡ slice_set old place (waits on))

-- A block was rung for. It tries again where a change woke it, gives up where no block can make one, and sleeps on otherwise.
abbrev pub Resumes : (place : ℕ) → (old : List Standing) → Option Bool → (new : List Standing) → Type 0
Resumes place old (Some true) new = (slice_index_or old place Ended ≡ Woken) × (new ≡ slice_set old place Runs)
Resumes place old (Some false) new = (slice_index_or old place Ended ≢ Woken) × All Rests old × (new ≡ slice_set old place Runs)
Resumes place old None new = (slice_index_or old place Ended ≢ Woken) × ¬ (All Rests old) × (new ≡ old)

-- The first block that waits is rung for, where none runs.
abbrev pub RingsFirst : List Standing → Option ℕ → Type 0
RingsFirst all (Some place) = All Rests all × (place < length all) × Waits (slice_index_or all place Ended) × ((k : ℕ) → k < place → ¬ (Waits (slice_index_or all k Ended)))
RingsFirst all None = All Rests all → All (λ standing. ¬ (Waits standing)) all
