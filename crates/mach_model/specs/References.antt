-- The references of a right under a name: one is taken, all are taken, or they change by a number (Port Manipulation Interface,
-- `mach_port_deallocate`, `mach_port_destroy` and `mach_port_mod_refs`).
use Rattle.std.specs.Prelude.{◌≡◌, ℕ, ℤ, pos, negsuc, ◌+◌, ◌-◌, ◌⊎◌, Bool, true, List, [], ◌∷◌, map, filter, replicate, Some, None, if◌then◌else◌, ◌==◌, ◌||◌, nat_lt, All, not}
use Rattle.mach_types.specs.declared.rights.Disposition.{Disposition}
use Rattle.mach_types.specs.declared.rights.Disposition.TheVariants.{MoveSend, MoveSendOnce}
use Rattle.mach_types.specs.Tokens.{receive, send, send_once, in_task, Token, token, Moves, count, is_held, same_kind}
use Rattle.mach_model.specs.State.{State, Target, lookup, held, without_name, with_name, at}
use Rattle.mach_model.specs.CopyIn.{changed_by, taken_by, name_kept}
use Rattle.mach_model.specs.Notices.{right_unused, Owed}

-- ---- one reference, or the send-once right

-- what a disposition would take from the name goes
pub record LosesOne (task name : ℕ) (d : Disposition) (target : Target) (old mid : State) : Type 0 where
  pub found : lookup old task name ≡ Some target
  pub rest : mid ≡ record (changed_by d target task name old) { ledger = mid.ledger }
  pub tokens : Moves old.ledger mid.ledger (taken_by d target task) []

-- a send-once right that goes unused is owed a notice
abbrev pub unused_once : (port task : ℕ) → Owed
unused_once p task = (token send_once p (in_task task), right_unused) ∷ []

abbrev pub Deallocates : (task name : ℕ) → State → State → Owed → Type 0
Deallocates task name old mid owed =
    ((p : ℕ) × LosesOne task name MoveSend (Target.port p) old mid × (owed ≡ []))
    ⊎ ((p : ℕ) × LosesOne task name MoveSendOnce (Target.once p) old mid × (owed ≡ unused_once p task))
    ⊎ ((n : ℕ) × LosesOne task name MoveSend (Target.dead n) old mid × (owed ≡ []))

-- ---- all under the name

abbrev pub is_either : (task port : ℕ) → Token → Bool
is_either task p x = is_held task receive p x || is_held task send p x

-- all tokens that pass the test go, and no other
pub record LosesAll (test : Token → Bool) (old new : List Token) : Type 0 where
  pub gone : List Token
  pub moves : Moves old new gone []
  pub passed : All (λ x. test x ≡ true) gone
  pub none_left : count test new ≡ 0

-- the send-once rights among these go unused
abbrev pub unused_among : List Token → Owed
unused_among xs = map (λ x. (x, right_unused)) (filter (λ x. same_kind send_once x.kind) xs)

-- the set is gone, and no port is in it
abbrev pub without_set : (set : ℕ) → State → State
without_set set s = record s { set_owner = at s.set_owner set None; sets_of = λ p. filter (λ t. not (t == set)) (s.sets_of p) }

abbrev pub DestroysTarget : (task name : ℕ) → Target → State → State → Owed → Type 0
DestroysTarget task name (Target.port p) old mid owed =
    LosesAll (is_either task p) old.ledger mid.ledger × (mid ≡ record (without_name task name old) { ledger = mid.ledger }) × (owed ≡ [])
DestroysTarget task name (Target.once p) old mid owed = LosesOne task name MoveSendOnce (Target.once p) old mid × (owed ≡ unused_once p task)
DestroysTarget task name (Target.dead n) old mid owed = (mid ≡ without_name task name old) × (owed ≡ [])
DestroysTarget task name (Target.set set) old mid owed = (mid ≡ without_set set (without_name task name old)) × (owed ≡ [])

abbrev pub Destroys : (task name : ℕ) → State → State → Owed → Type 0
Destroys task name old mid owed = (target : Target) × (lookup old task name ≡ Some target) × DestroysTarget task name target old mid owed

-- ---- references by a number

-- the send references become so many
pub record SetsSends (task name port references : ℕ) (old mid : State) : Type 0 where
  pub tokens : Moves old.ledger mid.ledger
      (replicate (held old task send port - references) (token send port (in_task task)))
      (replicate (references - held old task send port) (token send port (in_task task)))
  pub rest : mid ≡ record (name_kept (nat_lt 0 references || nat_lt 0 (held old task receive port)) task name old) { ledger = mid.ledger }

abbrev pub LosesReceive : (task name port : ℕ) → State → State → Type 0
LosesReceive task name p old mid =
    Moves old.ledger mid.ledger (token receive p (in_task task) ∷ []) []
    × (mid ≡ record (name_kept (nat_lt 0 (held old task send p)) task name old) { ledger = mid.ledger })

abbrev pub with_dead : (task name references : ℕ) → State → State
with_dead task name references s = if nat_lt 0 references then with_name task name (Target.dead references) s else without_name task name s

-- n references and delta more are these many
abbrev pub AddsTo : ℕ → ℤ → ℕ → Type 0
AddsTo n (pos k) m = m ≡ n + k
AddsTo n (negsuc k) m = m + (k + 1) ≡ n

-- a right that has no references goes
abbrev pub RemovesRight : (right : ℕ) → (task name : ℕ) → Target → State → State → Owed → Type 0
RemovesRight right task name (Target.port p) old mid owed = (right ≡ 1) × LosesReceive task name p old mid × (owed ≡ [])
RemovesRight right task name (Target.once p) old mid owed = (right ≡ 2) × DestroysTarget task name (Target.once p) old mid owed
RemovesRight right task name (Target.set set) old mid owed = (right ≡ 3) × DestroysTarget task name (Target.set set) old mid owed
RemovesRight right task name (Target.dead n) old mid owed = ⊥

abbrev pub CountsNoReferences : (right : ℕ) → Type 0
CountsNoReferences right = (right ≡ 1) ⊎ (right ≡ 2) ⊎ (right ≡ 3)

abbrev pub Modifies : (task name right : ℕ) → ℤ → State → State → Owed → Type 0
Modifies task name right delta old mid owed =
    ((p m : ℕ) × (right ≡ 0) × (lookup old task name ≡ Some (Target.port p)) × AddsTo (held old task send p) delta m
    × SetsSends task name p m old mid × (owed ≡ []))
    ⊎ ((n m : ℕ) × (right ≡ 4) × (lookup old task name ≡ Some (Target.dead n)) × AddsTo n delta m × (mid ≡ with_dead task name m old) × (owed ≡ []))
    ⊎ CountsNoReferences right × (delta ≡ pos 0) × (mid ≡ old) × (owed ≡ [])
    ⊎ ((target : Target) × (delta ≡ negsuc 0) × (lookup old task name ≡ Some target) × RemovesRight right task name target old mid owed)
