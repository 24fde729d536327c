use Rattle.std.proofs.Common.{◌≡◌, ℕ, None, Some, sym, arith}
use Rattle.std.specs.FinMap as map
use Rattle.member_lists.specs.Chains.{ends_at, left_by, blank_ends}
use Rattle.member_lists.specs.Fields.{both_ends}
use Rattle.member_lists.proofs.Fields.{zero_left_out, zero_left_put, zero_left_are, one_left_out, one_left_put, one_left_are, said}
use Rattle.member_lists.proofs.TwoEnds.leave.Goals as goal

pub invariant_of-self : goal.invariant_of-self
invariant_of-self c = let same : c.args.list ≡ 0 = c.in-0.is in zero_left_are c.self.inside.of_zero c.self.inside.of_one c.self.invariant c.args.before c.args.behind c.leave.new.self c.leave.ensures (said c.args.self.now (both_ends c.self.inside.of_zero c.self.inside.of_one) 0 c.args.list (sym c.self.view_is) (sym same) (λ w l. (left_by c.args.before c.args.behind (ends_at w l)).first ≡ None → (left_by c.args.before c.args.behind (ends_at w l)) ≡ blank_ends) c.requires.blank)

pub returns-in-0-clause-none : goal.returns-in-0-clause-none
returns-in-0-clause-none c = said _ c.args.self.now c.args.list 0 c.self.view_is (c.in-0.is) (λ w l. (left_by c.args.before c.args.behind (ends_at w l)).first ≡ None → both_ends c.leave.new.self c.self.inside.of_one ≡ map.remove w l) (zero_left_out c.self.inside.of_zero c.self.inside.of_one c.self.invariant c.args.before c.args.behind c.leave.new.self c.leave.ensures)

pub returns-in-0-clause-some : goal.returns-in-0-clause-some
returns-in-0-clause-some c = said _ c.args.self.now c.args.list 0 c.self.view_is (c.in-0.is) (λ w l. (x : ℕ) → (left_by c.args.before c.args.behind (ends_at w l)).first ≡ Some x → both_ends c.leave.new.self c.self.inside.of_one ≡ map.insert w l (left_by c.args.before c.args.behind (ends_at w l))) (zero_left_put c.self.inside.of_zero c.self.inside.of_one c.self.invariant c.args.before c.args.behind c.leave.new.self c.leave.ensures)

pub invariant_of-self-in_default : goal.invariant_of-self-in_default
invariant_of-self-in_default c = let same : c.args.list ≡ 1 = omega arith in one_left_are c.self.inside.of_zero c.self.inside.of_one c.self.invariant c.args.before c.args.behind c.leave-in_default.new.self c.leave-in_default.ensures (said c.args.self.now (both_ends c.self.inside.of_zero c.self.inside.of_one) 1 c.args.list (sym c.self.view_is) (sym same) (λ w l. (left_by c.args.before c.args.behind (ends_at w l)).first ≡ None → (left_by c.args.before c.args.behind (ends_at w l)) ≡ blank_ends) c.requires.blank)

pub returns-in_default-clause-none : goal.returns-in_default-clause-none
returns-in_default-clause-none c = said _ c.args.self.now c.args.list 1 c.self.view_is (omega arith) (λ w l. (left_by c.args.before c.args.behind (ends_at w l)).first ≡ None → both_ends c.self.inside.of_zero c.leave-in_default.new.self ≡ map.remove w l) (one_left_out c.self.inside.of_zero c.self.inside.of_one c.self.invariant c.args.before c.args.behind c.leave-in_default.new.self c.leave-in_default.ensures)

pub returns-in_default-clause-some : goal.returns-in_default-clause-some
returns-in_default-clause-some c = said _ c.args.self.now c.args.list 1 c.self.view_is (omega arith) (λ w l. (x : ℕ) → (left_by c.args.before c.args.behind (ends_at w l)).first ≡ Some x → both_ends c.self.inside.of_zero c.leave-in_default.new.self ≡ map.insert w l (left_by c.args.before c.args.behind (ends_at w l))) (one_left_put c.self.inside.of_zero c.self.inside.of_one c.self.invariant c.args.before c.args.behind c.leave-in_default.new.self c.leave-in_default.ensures)
