-- The members of a set that goes.
use Rattle.std.proofs.Common.{◌≡◌, ℕ, List, [], Some, arith}
use Rattle.std.specs.List.{Contains}
use Rattle.port.specs.Ports.{PortView, IsIn, NoneIn, sets_in}
use Rattle.copyin_base.specs.Kept.{Kept}
use Rattle.copyin_base.specs.Worlds.{WorldView, port_at}
use Rattle.copyin_base.proofs.InSets.{in_set, set_has}
use Rattle.kernel_change.specs.Changing.{AreMembers}

pub none_are : (w : WorldView) (set : ℕ) → NoneIn w.ports set → AreMembers w set []
none_are w set none = record {
  only = λ p has. absurd (let few = has.1 in omega (arith, few));
  all = λ p has. let v = in_set w p set has in absurd (none.apart p v.view v.there v.member);
}

pub members_are : (w : WorldView) (set : ℕ) (ports : List ℕ) → ((p : ℕ) → Contains ports p → IsIn w.ports set p) → ((p : ℕ) (v : PortView Kept) → port_at w p ≡ Some v → Contains (sets_in v) set → Contains ports p) →
    AreMembers w set ports
members_are w set ports only all = record {
  only = λ p has. let m = only p has in set_has w p set m.view m.there m.member;
  all = λ p has. let v = in_set w p set has in all p v.view v.there v.member;
}
