-- How many messages are queued and how many may come by send-once rights, and the bound on a kernel's slots (this project's own).
use Rattle.std.specs.Prelude.{◌≡◌, ℕ, zero, suc, ◌+◌, ◌≤◌, max, List, [], ◌∷◌, length, All, if◌then◌else◌}
use Rattle.mach_model.specs.State.{State, queue}
use Rattle.mach_model.specs.Unused.{unused_at}
use Rattle.mach_laws.specs.Paths.{Stage}

-- the sum of the function's values below a number
abbrev pub sum_below : (ℕ → ℕ) → ℕ → ℕ
sum_below f zero = 0
sum_below f (suc n) = sum_below f n + f n

-- how many messages lie at the port, if it lives: those of a dead port are destroyed
abbrev pub waiting : State → (port : ℕ) → ℕ
waiting s p = if s.live_port p then length (queue s p) else 0

-- how many messages lie at all ports
abbrev pub queued : State → ℕ
queued s = sum_below (waiting s) s.ports_made

-- how many send-once rights there are that no queued message goes by
abbrev pub unused_onces : State → ℕ
unused_onces s = sum_below (unused_at s) s.ports_made

-- ---- a kernel's slots

-- A kernel has a slot for each queued message, and spare ones. In a step that leaves it so many spare slots it makes slots only as far as
-- the messages that are queued then, and the send-once rights that none of them goes by, need one each.
abbrev pub MakesAsNeeded : (spare more : ℕ) → (old new : State) → Type 0
MakesAsNeeded spare more old new = more + queued new ≤ max (spare + queued old) (queued new + unused_onces new)

-- It does so in each of these stages, after which it has these numbers of spare slots.
abbrev pub MakesSlots : (spare : ℕ) → List Stage → (spares : List ℕ) → (last : ℕ) → Type 0
MakesSlots spare [] [] last = last ≡ spare
MakesSlots spare (x ∷ xs) (n ∷ ns) last = MakesAsNeeded spare n x.before x.after × MakesSlots n xs ns last
MakesSlots spare [] (n ∷ ns) last = ⊥
MakesSlots spare (x ∷ xs) [] last = ⊥

-- These spare slots and the messages that are queued in the end are together never more than queued messages and unused send-once rights
-- were at once, before a stage or in the end.
abbrev pub SlotsWithin : (spare : ℕ) → List Stage → State → Type 0
SlotsWithin spare stages s =
    (most : ℕ) → All (λ (x : Stage). queued x.before + unused_onces x.before ≤ most) stages → queued s + unused_onces s ≤ most →
    spare + queued s ≤ most
