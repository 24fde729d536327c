-- A message that carries one right at most beside that of its destination.
use Rattle.std.specs.Prelude.{◌≡◌, ℕ, false, true, MatchOption, length, Option, Some, None, is_some, if◌then◌else◌}
use Rattle.mach_types.specs.Numbers.{kind_sent}
use Rattle.copyin_base.specs.Carrying.{reply_held, spans_held, rights_held}
use Rattle.copyin_base.specs.declared.Carried.{Carried}
use Rattle.copyin_base.specs.declared.Mark.TheVariants as mark
use Rattle.copyin_base.specs.Kept.{Kept}
use Rattle.copyin_base.specs.Worlds.{WorldView, port_at}
use Rattle.copyout.specs.declared.short.Short.{Short}
use Rattle.copyout.specs.Giving.{NeedsOwn}

-- It was sent, and this is known of it: it has so many bytes, and carries this right, to answer with or in its body, and no other.
pub record IsShort (m : Kept) (b : Short) : Type 0 where
  pub sent : m.told ≡ false
  pub size : b.size ≡ length m.bytes
  pub reply : m.reply ≡ reply_held b.in_body b.right
  pub spans : m.spans ≡ spans_held b.in_body b.right None
  pub rights : m.rights ≡ rights_held b.in_body b.right None

-- the right, where it is the body's
abbrev pub body_right : Short → Option Carried
body_right b = if b.in_body then b.right else None

-- The right is for this port, which is there, and needs a name of its own.
pub record OwnsFor (w : WorldView) (task : ℕ) (right : Option Carried) (port : ℕ) : Type 0 where
  pub carried : Carried
  pub is : right ≡ Some carried
  pub for_port : carried.mark ≡ mark.Port port
  pub there : is_some (port_at w port) ≡ true
  pub own : NeedsOwn w task (kind_sent carried.given) port

-- Where a port is told, it is so.
abbrev pub TellsOwn : WorldView → (task : ℕ) → (right : Option Carried) → (own : Option ℕ) → Type 0
TellsOwn w task right own = MatchOption own (Unit {0}) (λ port. OwnsFor w task right port)

-- how many names of its own the right needs then
abbrev pub own_names : (own : Option ℕ) → ℕ
own_names None = 0
own_names (Some port) = 1
