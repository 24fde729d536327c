use Rattle.std.proofs.Common.{◌≡◌, arith}
use Rattle.std.specs.FinMap as map
use Rattle.member_lists.specs.Chains.{ends_at, joined_by}
use Rattle.member_lists.specs.Fields.{both_ends}
use Rattle.member_lists.proofs.Fields.{zero_joined, zero_joined_are, one_joined, one_joined_are, said}
use Rattle.member_lists.proofs.TwoEnds.join.Goals as goal

pub invariant_of-self : goal.invariant_of-self
invariant_of-self c = zero_joined_are c.self.inside.of_zero c.self.inside.of_one c.self.invariant c.args.item c.join.new.self c.join.ensures

pub invariant_of-self-in_default : goal.invariant_of-self-in_default
invariant_of-self-in_default c = one_joined_are c.self.inside.of_zero c.self.inside.of_one c.self.invariant c.args.item c.join-in_default.new.self c.join-in_default.ensures

pub returns-in-0 : goal.returns-in-0
returns-in-0 c = said _ c.args.self.now c.args.list 0 c.self.view_is c.in-0.is (λ w l. both_ends c.join.new.self c.self.inside.of_one ≡ map.insert w l (joined_by c.args.item (ends_at w l))) (zero_joined c.self.inside.of_zero c.self.inside.of_one c.self.invariant c.args.item c.join.new.self c.join.ensures)

pub returns-in_default : goal.returns-in_default
returns-in_default c = said _ c.args.self.now c.args.list 1 c.self.view_is (omega arith) (λ w l. both_ends c.self.inside.of_zero c.join-in_default.new.self ≡ map.insert w l (joined_by c.args.item (ends_at w l))) (one_joined c.self.inside.of_zero c.self.inside.of_one c.self.invariant c.args.item c.join-in_default.new.self c.join-in_default.ensures)
