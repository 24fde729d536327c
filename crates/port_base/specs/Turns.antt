-- The ready ports of each set, those that have a message, in their turns.
use Rattle.std.specs.Prelude.{ℕ, ◌++◌, Bool, true, false, cond, eqb, List, [], ◌∷◌, unwrap_or}
use Rattle.std.specs.FinMap as map
use Rattle.std.specs.Ordering.{nat_cmp}
use Rattle.member_lists.specs.Lists.{without}

abbrev pub contains_number : List ℕ → ℕ → Bool
contains_number [] x = false
contains_number (y ∷ ys) x = cond (eqb x y) true (contains_number ys x)

-- the lists of the sets that have ready ports, by their numbers
abbrev pub ReadyLists : Type 0
ReadyLists = map.FinMap nat_cmp (List ℕ)

-- a set's ready ports in their turns, none where it has no list
abbrev pub turns_of : ReadyLists → (set : ℕ) → List ℕ
turns_of ready set = unwrap_or (map.get ready set) []

-- a set's ready ports are these, and it has no list where there are none; each other set's are as they were
abbrev pub with_turns : ReadyLists → (set : ℕ) → List ℕ → ReadyLists
with_turns ready set [] = map.remove ready set
with_turns ready set (x ∷ xs) = map.insert ready set (x ∷ xs)

-- a port leaves the ready ports of these sets; the others keep their order
abbrev pub left : ReadyLists → (port : ℕ) → (sets : List ℕ) → ReadyLists
left ready port [] = ready
left ready port (set ∷ sets) = left (with_turns ready set (without port (turns_of ready set))) port sets

-- a port joins the ready ports of these sets at their end
abbrev pub joined : ReadyLists → (port : ℕ) → (sets : List ℕ) → ReadyLists
joined ready port [] = ready
joined ready port (set ∷ sets) = joined (with_turns ready set (turns_of ready set ++ port ∷ [])) port sets

-- the port whose turn it is in this set has its turn there behind the other ready ones
abbrev pub passed : ReadyLists → (port set : ℕ) → ReadyLists
passed ready port set = joined (left ready port (set ∷ [])) port (set ∷ [])

-- whether there is a message
abbrev pub has_some : {M : Type 0} → List M → Bool
has_some [] = false
has_some (m ∷ ms) = true

-- the sets that a port is ready in: those that it is in, if it has a message
abbrev pub ready_if : {M : Type 0} → List M → List ℕ → List ℕ
ready_if [] sets = []
ready_if (m ∷ ms) sets = sets

-- those of the first sets that aren't among the others
abbrev pub sets_without : (sets others : List ℕ) → List ℕ
sets_without [] others = []
sets_without (set ∷ sets) others = cond (contains_number others set) (sets_without sets others) (set ∷ sets_without sets others)
