-- A right that a request kept pays for a notice, where its port lives.
use Rattle.std.specs.Prelude.{◌≡◌, ◌≢◌, ℕ, Some}
use Rattle.port.specs.declared.Holder.TheVariants as holder
use Rattle.port.specs.Ports.{PortView}
use Rattle.copyin_base.specs.declared.Notice.{Notice}
use Rattle.copyin_base.specs.Kept.{Kept}
use Rattle.copyin_base.specs.Worlds.{WorldView, port_at}
use Rattle.copyin_base.specs.Losing.{Posts}

-- The port is there, and isn't doomed.
pub record LivesIn (w : WorldView) (port : ℕ) : Type 0 where
  pub v : PortView Kept
  pub there : port_at w port ≡ Some v
  pub undoomed : v.attributes.holder ≢ holder.Doomed

-- The notice is posted where the port lives; else all stays.
pub record Pays (old : WorldView) (port : ℕ) (notice : Notice) (new : WorldView) : Type 0 where
  pub posts : LivesIn old port → Posts old port notice new
  pub stays : ¬ (LivesIn old port) → new ≡ old

-- So many rights pay: one where the port lives.
abbrev pub PaysMany : (old : WorldView) (port many : ℕ) → Type 0
PaysMany old port many = (LivesIn old port → many ≡ 1) × (¬ (LivesIn old port) → many ≡ 0)
