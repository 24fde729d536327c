-- What a step's own part changed, and what is covered once the step has ended.
use Rattle.std.proofs.Common.{◌≡◌, ℕ, zero, suc, List, [], ◌∷◌, Option, Some, None, refl, sym, ap, subst, ◌∙◌, arith, false, inl, inr, ◌⊎◌, is_some}
use Rattle.std.specs.Prelude.{Contains}
use Rattle.std.specs.Option.{option_map, option_and_then}
use Rattle.mach_types.specs.declared.calls.Waited.{Waited}
use Rattle.mach_types.specs.declared.touched.Touched.{Touched}
use Rattle.mach_types.specs.declared.touched.Touched.TheVariants.{All as Any}
use Rattle.mach_types.specs.Touching.{Covers}
use Rattle.mach_model.specs.State.{State, Target, lookup}
use Rattle.mach_model.specs.Midway.{MidLawful}
use Rattle.mach_model.specs.Notices.{Owed}
use Rattle.mach_laws.specs.Touching.{TouchesOnly}
use Rattle.mach_laws.proofs.Requesting.{OwesOne}
use Rattle.mach_laws.proofs.Touching.{Keeps, Changes, changes_none, changes_end, touches}
use Rattle.name_space.specs.declared.Entry.{Entry as Named}
use Rattle.name_space.specs.declared.Entry.TheVariants as named
use Rattle.name_space.specs.Entry.{port_named}
use Rattle.port.specs.Ports.{PortView}
use Rattle.copyin_base.specs.Kept.{Kept}
use Rattle.copyin_base.specs.Shows.{Agrees, target_of}
use Rattle.copyin_base.specs.Worlds.{WorldView, entry_at, port_at, sets_at}
use Rattle.copyin_base.proofs.InSets.{set_has}
use Rattle.kernel_change.specs.declared.change.Change.TheVariants as change
use Rattle.kernel_change.specs.Changing.{few, port_under, lone, named_sets, unless_several, with_sets, touched_by}

-- ---- what is covered

-- The step's own part owed one notice, to this port.
abbrev pub OwesNotice : (s mid : State) → Owed → Touched → Type 0
OwesNotice s mid owed touched = (p : ℕ) × OwesOne p owed × ((t : State) → Changes mid t (Some p) None → TouchesOnly s t touched)

-- After a quiet end this is all that the step changed; it owed nothing, or one such notice.
abbrev pub OwnTouches : (s mid : State) → Owed → Touched → Type 0
OwnTouches s mid owed touched = (touched ≡ Any) ⊎ ((owed ≡ []) × ((t : State) → Keeps mid t → TouchesOnly s t touched)) ⊎ OwesNotice s mid owed touched

pub touches_all : (s t : State) → TouchesOnly s t Any
touches_all s t = record { ports = λ p not. absurd (not tt); sets = λ set there not. absurd (not tt) }

pub none_some : {A : Type 0} (x : A) → None ≡ Some x → ⊥
none_some x e = cc

pub one_some : {A : Type 0} (x y : A) → Some x ≡ Some y → x ≡ y
one_some x y e = cc

-- nothing that is waited for has changed
pub unchanged : (s mid : State) (owed : Owed) (touched : Touched) → Changes s mid None None → owed ≡ [] → OwnTouches s mid owed touched
unchanged s mid owed touched c none = inr (inl (
  none,
  λ t k.
      touches s t None None touched (changes_end s mid t None None c k) (λ p e. absurd (none_some p e)) (λ p e. absurd (none_some p e)) (λ p set e. absurd (none_some p e)),
))

pub kept_all : (s mid : State) (owed : Owed) (touched : Touched) → Keeps s mid → owed ≡ [] → OwnTouches s mid owed touched
kept_all s mid owed touched k none = unchanged s mid owed touched (changes_none s mid None None k) none

-- a name for a port stands for it in the tables
pub named_port : (o : Option Named) (p : ℕ) → Some (Target.port p) ≡ option_map target_of o → option_and_then port_named o ≡ Some p
named_port None p e = cc
named_port (Some (named.Receive q)) p e = grind arith
named_port (Some (named.Send q n)) p e = grind arith
named_port (Some (named.ReceiveAndSend q n)) p e = grind arith
named_port (Some (named.SendOnce q)) p e = cc
named_port (Some (named.DeadName n)) p e = cc
named_port (Some (named.Set set)) p e = cc

-- the sets that a port is in are those of its tables
module _ (w : WorldView) (s : State) (a : Agrees w s) (p : ℕ) (no_sets : s.live_port p ≡ false → s.sets_of p ≡ []) where
  pub none_in : (set : ℕ) → Contains [] set → ⊥
  none_in set (i, below, is) = omega (arith, below)

  pub set_is : (set : ℕ) → Contains (s.sets_of p) set → Contains (sets_at w p) set
  set_is set in_it = go (port_at w p) refl
    where
      go : (o : Option (PortView Kept)) → port_at w p ≡ o → Contains (sets_at w p) set
      go None is = absurd (none_in set (subst (λ (xs : List ℕ). Contains xs set) (no_sets (sym (a.live_port p) ∙ ap is_some is)) in_it))
      go (Some v) is = set_has w p set v is (subst (λ (xs : List ℕ). Contains xs set) (sym (a.ports p v is).sets) in_it)

-- ---- a port with its sets

pub covers_named : (p : ℕ) (sets : List ℕ) → Covers (named_sets p sets) (Waited.Port p)
covers_named p [] = (0, omega arith, refl)
covers_named p (a ∷ []) = (0, omega arith, refl)
covers_named p (a ∷ b ∷ []) = (0, omega arith, refl)
covers_named p (a ∷ b ∷ c ∷ []) = (0, omega arith, refl)
covers_named p (a ∷ b ∷ c ∷ d ∷ sets) = tt

pub covers_its : (p : ℕ) (sets : List ℕ) (set : ℕ) → Contains sets set → Covers (named_sets p sets) (Waited.Set set)
covers_its p [] set (i, below, is) = absurd (omega (arith, below))
covers_its p (a ∷ []) set (zero, below, is) = (1, omega arith, ap (λ (n : ℕ). Some (Waited.Set n)) is)
covers_its p (a ∷ []) set (suc i, below, is) = absurd (omega (arith, below))
covers_its p (a ∷ b ∷ []) set (zero, below, is) = (1, omega arith, ap (λ (n : ℕ). Some (Waited.Set n)) is)
covers_its p (a ∷ b ∷ []) set (suc zero, below, is) = (2, omega arith, ap (λ (n : ℕ). Some (Waited.Set n)) is)
covers_its p (a ∷ b ∷ []) set (suc (suc i), below, is) = absurd (omega (arith, below))
covers_its p (a ∷ b ∷ c ∷ []) set (zero, below, is) = (1, omega arith, ap (λ (n : ℕ). Some (Waited.Set n)) is)
covers_its p (a ∷ b ∷ c ∷ []) set (suc zero, below, is) = (2, omega arith, ap (λ (n : ℕ). Some (Waited.Set n)) is)
covers_its p (a ∷ b ∷ c ∷ []) set (suc (suc zero), below, is) = (3, omega arith, ap (λ (n : ℕ). Some (Waited.Set n)) is)
covers_its p (a ∷ b ∷ c ∷ []) set (suc (suc (suc i)), below, is) = absurd (omega (arith, below))
covers_its p (a ∷ b ∷ c ∷ d ∷ sets) set in_it = tt

-- What is covered by few ports and sets is covered where all may be meant, for a port is in several sets.
pub unless_covers : (sets : List ℕ) (touched : Touched) (one : Waited) → Covers touched one → Covers (unless_several sets touched) one
unless_covers [] touched one c = c
unless_covers (a ∷ []) touched one c = c
unless_covers (a ∷ b ∷ sets) touched one c = tt

-- so is the only set of a port that is in one
pub unless_set : (sets : List ℕ) (touched : Touched) (set : ℕ) → Contains sets set → (lone sets ≡ Some (Waited.Set set) → Covers touched (Waited.Set set)) → Covers (unless_several sets touched) (Waited.Set set)
unless_set [] touched set (i, below, is) k = absurd (omega (arith, below))
unless_set (a ∷ []) touched set (zero, below, is) k = k (ap (λ (n : ℕ). Some (Waited.Set n)) is)
unless_set (a ∷ []) touched set (suc i, below, is) k = absurd (omega (arith, below))
unless_set (a ∷ b ∷ sets) touched set in_it k = tt

module _ (w : WorldView) (mid : State) (a : Agrees w mid) where
  pub under : (task name p : ℕ) → lookup mid task name ≡ Some (Target.port p) → port_under w task name ≡ Some p
  under task name p is = named_port (entry_at w task name) p (sym is ∙ a.naming task name)

  pub covers_port : (p : ℕ) → Covers (with_sets w (Some p)) (Waited.Port p)
  covers_port p = covers_named p (sets_at w p)

  pub covers_alone : (o : Option ℕ) (p : ℕ) → o ≡ Some p → Covers (few (option_map Waited.Port o) None) (Waited.Port p)
  covers_alone o p e = rw e (0, omega arith, refl)

  pub covers_set : (p set : ℕ) → (mid.live_port p ≡ false → mid.sets_of p ≡ []) → Contains (mid.sets_of p) set → Covers (with_sets w (Some p)) (Waited.Set set)
  covers_set p set no_sets in_it = covers_its p (sets_at w p) set (set_is w mid a p no_sets set in_it)

  -- the queue of one port has changed
  pub queue_changed : (s : State) (owed : Owed) (p : ℕ) → MidLawful mid [] → Changes s mid (Some p) None → owed ≡ [] → OwnTouches s mid owed (with_sets w (Some p))
  queue_changed s owed p l c none = inr (inl (
    none,
    λ t k.
        touches s t (Some p) None (with_sets w (Some p)) (changes_end s mid t (Some p) None c k)
        (λ q e. subst (λ (x : ℕ). Covers (with_sets w (Some p)) (Waited.Port x)) (one_some p q e) (covers_port p))
        (λ q e. absurd (none_some q e))
        (λ q set e in_it.
        let own : Contains (s.sets_of p) set = subst (λ (x : ℕ). Contains (s.sets_of x) set) (sym (one_some p q e)) in_it in
        covers_set p set (l.no_sets p) (subst (λ (xs : List ℕ). Contains xs set) (sym (c.sets p)) own)),
  ))

  -- the limit of one port has
  pub limit_changed : (s : State) (owed : Owed) (task name p : ℕ) → Changes s mid None (Some p) → lookup mid task name ≡ Some (Target.port p) → owed ≡ [] → OwnTouches s mid owed (touched_by w (change.PortNamed task name))
  limit_changed s owed task name p c found none = inr (inl (
    none,
    λ t k.
        touches s t None (Some p) (touched_by w (change.PortNamed task name)) (changes_end s mid t None (Some p) c k)
        (λ q e. absurd (none_some q e))
        (λ q e. covers_alone (port_under w task name) q (under task name p found ∙ e))
        (λ q set e. absurd (none_some q e)),
  ))
