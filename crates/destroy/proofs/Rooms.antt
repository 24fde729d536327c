-- Room for names over a step's end: the spaces of tasks stay but where names are dead, and there is room for as many as before.
use Rattle.std.proofs.Common.{◌≡◌, ℕ, List, Option, Some, None, refl, sym, ap, ◌∙◌, Bool, ◌⊎◌, inl, inr}
use Rattle.std.specs.Prelude.{slice_set, option_map}
use Rattle.name_space.specs.Names.{Names, SpaceView}
use Rattle.copyin_base.specs.declared.Notice.{Notice}
use Rattle.copyin_base.specs.Reading.{read_space, live_in}
use Rattle.copyin_base.specs.Wanted.{room_in, room_of}
use Rattle.copyin_base.specs.Worlds.{WorldView, space_in, space_at}
use Rattle.copyin_base.proofs.Reading.{space_read_in}
use Rattle.copyin_base.proofs.Spaces.{each-space-set}
use Rattle.destroy.specs.Burying.{without_port, buried}
use Rattle.destroy.specs.Paying.{LivesIn, Pays}
use Rattle.destroy.specs.Stages.{KeepsRooms}

-- the same spaces
pub same_rooms : (w v : WorldView) → v.spaces ≡ w.spaces → KeepsRooms w v
same_rooms w v same task = ap (λ (xs : List (Option SpaceView)). room_in (space_in xs task)) same

pub pays_spaces : (w : WorldView) (n : ℕ) (notice : Notice) (v : WorldView) → Pays w n notice v → (LivesIn w n ⊎ ¬ (LivesIn w n)) → v.spaces ≡ w.spaces
pays_spaces w n notice v p (inl l) = let q = p.posts l in ap (λ (x : WorldView). x.spaces) q.rest
pays_spaces w n notice v p (inr l) = ap (λ (x : WorldView). x.spaces) (p.stays l)

-- one task's names became others
pub renamed_rooms : (w v : WorldView) (task : ℕ) (space : SpaceView) (names : Names) → space_at w task ≡ Some space → v.spaces ≡ slice_set w.spaces task (Some (record space { names = names })) → KeepsRooms w v
renamed_rooms w v task space names there is u =
    ap (λ (xs : List (Option SpaceView)). room_in (space_in xs u)) is
    ∙ each-space-set w.spaces task (record space { names = names }) space there (λ i o. room_in o ≡ room_of w i) (sym (ap room_in there)) (λ i not. refl) u

-- names are read with a port less
pub buried_rooms : (w v : WorldView) (port : ℕ) (doomed : List ℕ) → v ≡ buried w port doomed → KeepsRooms w v
buried_rooms w v port doomed is task =
    ap (λ (x : WorldView). room_of x task) is
    ∙ ap room_in (space_read_in (live_in (without_port w.ports port doomed)) w.spaces task)
    ∙ read_room (live_in (without_port w.ports port doomed)) (space_in w.spaces task)
  where
    read_room : (live : ℕ → Bool) (o : Option SpaceView) → room_in (option_map (read_space live) o) ≡ room_in o
    read_room live None = refl
    read_room live (Some space) = refl
