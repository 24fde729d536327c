use Rattle.std.proofs.Common.{◌≡◌, ap, arith}
use Rattle.member_lists.specs.declared.Ends.{Ends}
use Rattle.member_lists.specs.Chains.{ends_at}
use Rattle.member_lists.proofs.Fields.{zero_is, one_is, said}
use Rattle.member_lists.proofs.TwoEnds.last.Goals as goal

pub returns-in-0 : goal.returns-in-0
returns-in-0 c = said _ c.args.self.now c.args.list 0 c.self.view_is c.in-0.is (λ w l. c.self.inside.of_zero.last ≡ (ends_at w l).last) (ap (λ (e : Ends). e.last) (zero_is c.self.inside.of_zero c.self.inside.of_one c.self.invariant))

pub returns-in_default : goal.returns-in_default
returns-in_default c = said _ c.args.self.now c.args.list 1 c.self.view_is (omega arith) (λ w l. c.self.inside.of_one.last ≡ (ends_at w l).last) (ap (λ (e : Ends). e.last) (one_is c.self.inside.of_zero c.self.inside.of_one c.self.invariant))
