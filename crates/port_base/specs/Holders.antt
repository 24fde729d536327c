-- How a port's attributes and the holder of its receive right are kept. No clause above the crate `port` cites this module.
use Rattle.std.specs.Prelude.{ℕ, ◌%◌, ◌^◌, Bool, refl}
use Rattle.std.specs.Coded.{Coded, code_by, coded×, coded_bool}
use Rattle.port_base.specs.declared.Attributes.{Attributes}
use Rattle.port_base.specs.declared.Membership.{Membership}
use Rattle.port_base.specs.declared.Holder.{Holder}
use Rattle.port_base.specs.declared.Holder.TheVariants.{Task, QueueOf, Nobody, Doomed}
use Rattle.port_base.specs.declared.HolderKind.{HolderKind}
use Rattle.port_base.specs.declared.HolderKind.TheVariants as kind

abbrev pub holder_of : HolderKind → ℕ → Holder
holder_of kind.Task number = Task (number % 2 ^ 32)
holder_of kind.Queue number = QueueOf number
holder_of kind.Nobody number = Nobody
holder_of kind.Doomed number = Doomed

pub record KeptView : Type 0 where
  pub attributes : Attributes
  -- the set of the attributes is the first of these
  pub membership : Membership
  pub is_noted : Bool

abbrev pub kept_code : Coded Attributes → Coded Membership → Coded KeptView
kept_code a m = code_by (Attributes × (Membership × Bool)) (coded× a (coded× m coded_bool)) (λ k. (k.attributes, (k.membership, k.is_noted))) (λ p. record { attributes = p.0; membership = p.1.0; is_noted = p.1.1 }) (λ _. refl)
