-- What each verb keeps of the room for names and of the spare slots.
use Rattle.std.proofs.Common.{◌≡◌, ℕ, ◌≤◌, List, [], ◌∷◌, ◌++◌, Option, Some, refl, sym, ap, subst, ◌∙◌, arith, length, inl, inr}
use Rattle.std.specs.Prelude.{max, slice_set}
use Rattle.std.proofs.lemmas.Bool.Decides.{eqb_tells}
use Rattle.name_space.specs.declared.Entry.{Entry}
use Rattle.name_space.specs.Names.{SpaceView}
use Rattle.port.specs.declared.Attributes.{Attributes}
use Rattle.copyin_base.specs.Worlds.{WorldView, space_in, space_at}
use Rattle.copyin_base.specs.Changes.{PutsLeft, KeepsPlace, SetsAttributes, SameButRoom}
use Rattle.copyin_base.specs.Wanted.{room_in, room_of, KeepsSpares}
use Rattle.copyin_base.proofs.Spaces.{each-space-set, space-push_same, space-push_other}

pub room_there : (w : WorldView) (task : ℕ) (space : SpaceView) → space_at w task ≡ Some space → room_of w task ≡ space.room
room_there w task space there = ap room_in there

pub keeps_refl : (w : WorldView) → KeepsSpares w w
keeps_refl w = record { rooms = λ task. omega arith; slots = refl }

pub keeps_trans : (a b c : WorldView) → KeepsSpares a b → KeepsSpares b c → KeepsSpares a c
keeps_trans a b c x y = record { rooms = λ task. let g = x.rooms task in let h = y.rooms task in omega (arith, g, h); slots = y.slots ∙ x.slots }

-- where nothing changed
pub keeps_same : (old new : WorldView) → new ≡ old → KeepsSpares old new
keeps_same old new e = subst (KeepsSpares old) (sym e) (keeps_refl old)

-- where no names changed
pub keeps_names : (old new : WorldView) → new.spaces ≡ old.spaces → new.ports.spare ≡ old.ports.spare → KeepsSpares old new
keeps_names old new spaces slots = record {
  rooms = λ task. let e : room_of new task ≡ room_of old task = ap (λ (xs : List (Option SpaceView)). room_in (space_in xs task)) spaces in omega (arith, e);
  slots = slots;
}

-- where one task's did
pub keeps_space : (old new : WorldView) (task : ℕ) (space space2 : SpaceView) → space_at old task ≡ Some space → new.spaces ≡ slice_set old.spaces task (Some space2) →
    space2.room ≤ max space.room 1 → new.ports.spare ≡ old.ports.spare → KeepsSpares old new
keeps_space old new task space space2 there spaces few slots = record {
  rooms = λ u.
      let e : room_of new u ≡ room_in (space_in (slice_set old.spaces task (Some space2)) u) = ap (λ (xs : List (Option SpaceView)). room_in (space_in xs u)) spaces in
      let h = each-space-set old.spaces task space2 space there (λ i o. room_in o ≤ max (room_of old i) 1)
      (let k = room_there old task space there in omega (arith, few, k)) (λ i not. omega arith) u in
      omega (arith, e, h);
  slots = slots;
}

-- where a task was made
pub keeps_push : (old new : WorldView) (space : SpaceView) → new.spaces ≡ old.spaces ++ Some space ∷ [] → space.room ≤ 1 → new.ports.spare ≡ old.ports.spare → KeepsSpares old new
keeps_push old new space spaces few slots = record {
  rooms = λ u.
      let e : room_of new u ≡ room_in (space_in (old.spaces ++ Some space ∷ []) u) = ap (λ (xs : List (Option SpaceView)). room_in (space_in xs u)) spaces in
      elim (eqb_tells u (length old.spaces)) [
        | inl h ↦
            let g : room_in (space_in (old.spaces ++ Some space ∷ []) u) ≡ space.room =
            ap (λ (i : ℕ). room_in (space_in (old.spaces ++ Some space ∷ []) i)) h.1 ∙ ap room_in (space-push_same old.spaces space) in
            omega (arith, e, g, few)
        | inr h ↦ let g : room_in (space_in (old.spaces ++ Some space ∷ []) u) ≡ room_of old u = ap room_in (space-push_other old.spaces space u h.1) in omega (arith, e, g)
      ];
  slots = slots;
}

-- ---- the verbs

module _ (old new : WorldView) where
  pub left_keeps : (task name : ℕ) (left : Option Entry) → PutsLeft old task name left new → KeepsSpares old new
  left_keeps task name left p = keeps_space old new task p.space _ p.there (ap (λ (w : WorldView). w.spaces) p.rest) (omega arith) (ap (λ (w : WorldView). w.ports.spare) p.rest)

  pub place_keeps : (task name : ℕ) → KeepsPlace old task name new → KeepsSpares old new
  place_keeps task name p = keeps_space old new task p.space _ p.there (ap (λ (w : WorldView). w.spaces) p.rest) (omega arith) (ap (λ (w : WorldView). w.ports.spare) p.rest)

  pub attributes_keep : (port : ℕ) (attributes : Attributes) → SetsAttributes old port attributes new → KeepsSpares old new
  attributes_keep port attributes p = keeps_names old new (ap (λ (w : WorldView). w.spaces) p.rest) (ap (λ (w : WorldView). w.ports.spare) p.rest)

  -- but for room, of which there is a name's more at most
  pub roomier_keeps : SameButRoom old new → ((task : ℕ) → room_of new task ≤ max (room_of old task) 1) → KeepsSpares old new
  roomier_keeps same rooms = record { rooms = rooms; slots = ap (λ p. p.spare) same.ports }
