-- Nothing was lost: what each verb keeps of that.
use Rattle.std.proofs.Common.{◌≡◌, ℕ, Option, refl, ap, ◌∙◌}
use Rattle.mach_types.specs.declared.profiles.Profile.{Profile}
use Rattle.name_space.specs.declared.Entry.{Entry}
use Rattle.port.specs.declared.Attributes.{Attributes}
use Rattle.port.specs.declared.Holder.{Holder}
use Rattle.port.specs.Ports.{PortsView}
use Rattle.port_set.specs.Sets.{IsDisbanded}
use Rattle.tables_base.specs.Kept.{Kept}
use Rattle.copyin_base.specs.Changes.{PutsLeft, InsertsEntry, SetsAttributes, SetsHolder, SameButNaming}
use Rattle.copyin_base.specs.Stands.{Stands}
use Rattle.copyin_base.specs.Worlds.{WorldView, no_world, NoneLost, IsIdle}

pub idle_none : (profile : Profile) → IsIdle (no_world profile)
idle_none profile = record { none_lost = record { lost = refl; doomed = refl; destroyed = refl }; noted = refl; went = refl }

-- in tables that show a state
pub stands_none_lost : (w : WorldView) → Stands w → NoneLost w
stands_none_lost w stands = stands.shown.idle.none_lost

module _ (w w2 : WorldView) (n : NoneLost w) where
  -- the same ports are lost and doomed, and the same messages destroyed
  pub none_lost_by : w2.ports.lost ≡ w.ports.lost → w2.ports.doomed ≡ w.ports.doomed → w2.ports.destroyed ≡ w.ports.destroyed → NoneLost w2
  none_lost_by lost doomed destroyed = record { lost = lost ∙ n.lost; doomed = doomed ∙ n.doomed; destroyed = destroyed ∙ n.destroyed }

  -- no port changed
  pub none_lost_same : w2.ports ≡ w.ports → NoneLost w2
  none_lost_same same = none_lost_by (ap (λ (p : PortsView Kept). p.lost) same) (ap (λ (p : PortsView Kept). p.doomed) same) (ap (λ (p : PortsView Kept). p.destroyed) same)

  pub none_lost_left : (task name : ℕ) (left : Option Entry) → PutsLeft w task name left w2 → NoneLost w2
  none_lost_left task name left puts = none_lost_same (ap (λ (x : WorldView). x.ports) puts.rest)

  pub none_lost_inserted : (task name : ℕ) (entry : Entry) → InsertsEntry w task name entry w2 → NoneLost w2
  none_lost_inserted task name entry puts = none_lost_same (ap (λ (x : WorldView). x.ports) puts.rest)

  pub none_lost_room : SameButNaming w w2 → NoneLost w2
  none_lost_room same = none_lost_same same.ports

  pub none_lost_set : (port : ℕ) (attributes : Attributes) → SetsAttributes w port attributes w2 → NoneLost w2
  none_lost_set port attributes set = none_lost_by (ap (λ (x : WorldView). x.ports.lost) set.rest) (ap (λ (x : WorldView). x.ports.doomed) set.rest) (ap (λ (x : WorldView). x.ports.destroyed) set.rest)

  pub none_lost_held : (port : ℕ) (holder : Holder) → SetsHolder w port holder w2 → NoneLost w2
  none_lost_held port holder set = none_lost_by (ap (λ (x : WorldView). x.ports.lost) set.rest) (ap (λ (x : WorldView). x.ports.doomed) set.rest) (ap (λ (x : WorldView). x.ports.destroyed) set.rest)

  pub none_lost_disbanded : (set : ℕ) → IsDisbanded w.ports w2.ports set → NoneLost w2
  none_lost_disbanded set d = none_lost_by d.lost d.doomed d.destroyed
