-- The space of one task was read and replaced in the tables.
use Rattle.std.proofs.Common.{◌≡◌, ℕ, List, [], ◌∷◌, ◌++◌, ◌<◌, Option, Some, None, Ok, Err, OnOk, refl, sym, ap, subst, ◌∙◌, zero, suc, length, get_or, inl, inr, arith}
use Rattle.std.specs.Prelude.{◌≢◌, slice_set, Result}
use Rattle.std.proofs.lemmas.Bool.Decides.{eqb_tells}
use Rattle.mach_types.specs.declared.profiles.Profile.{Profile}
use Rattle.name_space.specs.Names.{SpaceView}
use Rattle.port.specs.Ports.{PortsView}
use Rattle.port_set.specs.Sets.{SetsView}
use Rattle.rights.specs.Ledger.{LedgerView}
use Rattle.tables_base.specs.Kept.{Kept}
use Rattle.request_table.specs.Tables.{RequestTablesView}
use Rattle.copyin_base.specs.Worlds.{WorldView, space_in}

-- ---- the spaces after one was set, and after one was put at the end

pub space-set_same : (spaces : List (Option SpaceView)) (task : ℕ) (new was : SpaceView) → space_in spaces task ≡ Some was → space_in (slice_set spaces task (Some new)) task ≡ Some new
space-set_same [] task new was is = absurd (let none : None ≡ Some was = is in cc)
space-set_same (x ∷ xs) zero new was is = refl
space-set_same (x ∷ xs) (suc task) new was is = space-set_same xs task new was is

pub space-set_other : (spaces : List (Option SpaceView)) (task : ℕ) (new : SpaceView) (other : ℕ) → other ≢ task → space_in (slice_set spaces task (Some new)) other ≡ space_in spaces other
space-set_other [] task new other not = refl
space-set_other (x ∷ xs) zero new zero not = absurd (not refl)
space-set_other (x ∷ xs) zero new (suc other) not = refl
space-set_other (x ∷ xs) (suc task) new zero not = refl
space-set_other (x ∷ xs) (suc task) new (suc other) not = space-set_other xs task new other (λ e. not (ap suc e))

-- a task that lives was made
pub task_below : (spaces : List (Option SpaceView)) (task : ℕ) (space : SpaceView) → space_in spaces task ≡ Some space → task < length spaces
task_below [] task space is = absurd (let none : None ≡ Some space = is in cc)
task_below (x ∷ xs) zero space is = omega arith
task_below (x ∷ xs) (suc task) space is = let below = task_below xs task space is in omega (arith, below)

-- what is true of the space that was set, and of each other, is true of all
pub each-space-set : (spaces : List (Option SpaceView)) (task : ℕ) (new was : SpaceView) → space_in spaces task ≡ Some was → (P : ℕ → Option SpaceView → Type 0) → P task (Some new) →
    ((other : ℕ) → other ≢ task → P other (space_in spaces other)) → (u : ℕ) → P u (space_in (slice_set spaces task (Some new)) u)
each-space-set spaces task new was is P own others u = elim (eqb_tells u task) [
  | inl h ↦ subst (λ (k : ℕ). P k (space_in (slice_set spaces task (Some new)) k)) (sym h.1) (subst (P task) (sym (space-set_same spaces task new was is)) own)
  | inr h ↦ subst (P u) (sym (space-set_other spaces task new u h.1)) (others u h.1)
]

pub space-push_same : (spaces : List (Option SpaceView)) (new : SpaceView) → space_in (spaces ++ Some new ∷ []) (length spaces) ≡ Some new
space-push_same [] new = refl
space-push_same (x ∷ xs) new = space-push_same xs new

pub space-push_other : (spaces : List (Option SpaceView)) (new : SpaceView) (task : ℕ) → task ≢ length spaces → space_in (spaces ++ Some new ∷ []) task ≡ space_in spaces task
space-push_other [] new zero not = absurd (not refl)
space-push_other [] new (suc task) not = refl
space-push_other (x ∷ xs) new zero not = refl
space-push_other (x ∷ xs) new (suc task) not = space-push_other xs new task (λ e. not (ap suc e))

pub space-end : (spaces : List (Option SpaceView)) → space_in spaces (length spaces) ≡ None
space-end [] = refl
space-end (x ∷ xs) = space-end xs

-- ---- in the tables

pub same_world : (a b : List (Option SpaceView)) (p q : PortsView Kept) (l m : LedgerView) (x y : SetsView) (r t : RequestTablesView) (u v : Profile) → a ≡ b → p ≡ q → l ≡ m → x ≡ y → r ≡ t → u ≡ v →
    ◌≡◌ {A = WorldView} (record { spaces = a; ports = p; ledger = l; sets = x; requests = r; profile = u }) (record { spaces = b; ports = q; ledger = m; sets = y; requests = t; profile = v })
same_world a b p q l m x y r t u v e f g h k j = λ i. record { spaces = e i; ports = f i; ledger = g i; sets = h i; requests = k i; profile = j i }

-- what is set again was never set before
pub set-set : {A : Type 0} (xs : List A) (i : ℕ) (y z : A) → slice_set (slice_set xs i y) i z ≡ slice_set xs i z
set-set [] i y z = refl
set-set (x ∷ xs) zero y z = refl
set-set (x ∷ xs) (suc i) y z = ap (λ (ys : List _). x ∷ ys) (set-set xs i y z)

-- what is read at the task's place is its space
pub read_there : (spaces : List (Option SpaceView)) (i : ℕ) (space : SpaceView) (read : Option SpaceView) → space_in spaces i ≡ Some space → read ≡ get_or spaces i read → read ≡ Some space
read_there [] i space read is at = absurd (let none : None ≡ Some space = is in cc)
read_there (x ∷ xs) zero space read is at = at ∙ is
read_there (x ∷ xs) (suc i) space read is at = read_there xs i space read is at

-- what follows where all went well
pub on_ok : {T E : Type 0} (r : Result T E) (P Q : Type 0) → (P → Q) → OnOk r P → OnOk r Q
on_ok (Ok x) P Q f h = f h
on_ok (Err e) P Q f h = tt
