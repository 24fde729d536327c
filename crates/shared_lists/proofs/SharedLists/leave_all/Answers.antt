use Rattle.std.proofs.Common.{◌≡◌, ◌∷◌, ◌<◌, List, ℕ, IfSome, IfNone, length, refl, sym, ap, subst, ◌∙◌, arith}
use Rattle.member_lists.specs.Lists.{IsApart}
use Rattle.member_lists.proofs.Times.{none_some}
use Rattle.shared_lists.specs.Shared.{IsFirst, more_of, left_each, with_first}
use Rattle.shared_lists.proofs.Walk.{none_of}
use Rattle.shared_lists.proofs.Leaving.{bare, nothing_first, first_rest, first_others, ready_still, each_left, none_left}
use Rattle.shared_lists.proofs.SharedLists.leave_all.Goals as goal

pub loop-first-init : goal.loop-first-init
loop-first-init c = record {
  after = refl;
  first = c.requires.first;
  apart = tt;
  none = λ e. absurd (none_some c.args.own (sym e));
  ready = c.requires.ready;
  others = λ o d. refl;
  room = omega arith;
}

pub leave_first-first-requires-clause-first : goal.leave_first-first-requires-clause-first
leave_first-first-requires-clause-first c = subst (λ o. IfSome o (λ first. IsFirst c.loop-first.self first c.args.item)) c.in-Some.is c.loop-first.invariant.first

pub loop-first-smaller : goal.loop-first-smaller
loop-first-smaller c =
    let a : length (with_first c.leave_first-first.result (more_of c.leave_first-first.new.self c.args.item)) ≡ length (more_of c.loop-first.self c.args.item) = ap (λ (ls : List ℕ). length ls) c.leave_first-first.ensures.lists in
    subst (λ o. length (with_first c.leave_first-first.result (more_of c.leave_first-first.new.self c.args.item)) < length (with_first o (more_of c.loop-first.self c.args.item))) (sym c.in-Some.is) (omega arith)

pub loop-first-preserved : goal.loop-first-preserved
loop-first-preserved c =
    record {
      after =
          ap (λ ls. bare (left_each c.leave_first-first.new.self ls c.args.item c.args.is_ready)) c.leave_first-first.ensures.lists
          ∙ each_left c.loop-first.self c.leave_first-first.new.self c.in-Some.list c.args.item c.args.is_ready (first_rest c.loop-first.self c.leave_first-first.new.self c.in-Some.list c.args.item c.args.is_ready c.leave_first-first.result c.leave_first-first.ensures.none c.leave_first-first.ensures.some) (more_of c.loop-first.self c.args.item)
          ∙ ap (λ o. bare (left_each c.loop-first.self (with_first o (more_of c.loop-first.self c.args.item)) c.args.item c.args.is_ready)) (sym c.in-Some.is)
          ∙ c.loop-first.invariant.after;
      first = c.leave_first-first.ensures.first;
      apart = c.leave_first-first.ensures.apart;
      none = λ e. ap (λ o. with_first o (more_of c.leave_first-first.new.self c.args.item)) (sym e) ∙ c.leave_first-first.ensures.lists ∙ nothing_first (more_of c.loop-first.self c.args.item) (sym e ∙ c.leave_first-first.ensures.result);
      ready = ready_still c.loop-first.self c.leave_first-first.new.self c.in-Some.list c.args.item c.args.is_ready (first_rest c.loop-first.self c.leave_first-first.new.self c.in-Some.list c.args.item c.args.is_ready c.leave_first-first.result c.leave_first-first.ensures.none c.leave_first-first.ensures.some) c.loop-first.invariant.ready;
      others = λ o d. first_others c.loop-first.self c.leave_first-first.new.self c.in-Some.list c.args.item c.args.is_ready c.leave_first-first.result c.leave_first-first.ensures.none c.leave_first-first.ensures.some o d ∙ c.loop-first.invariant.others o d;
      room = let a = c.leave_first-first.ensures.room in let b = c.loop-first.invariant.room in omega arith;
    }

pub returns-clause-after : goal.returns-clause-after
returns-clause-after c =
    none_left c.loop-first.self (left_each c.args.self.now (c.args.own ∷ more_of c.args.self.now c.args.item) c.args.item c.args.is_ready) c.args.item c.args.is_ready
    (with_first c.loop-first.first (more_of c.loop-first.self c.args.item)) (ap (λ o. with_first o (more_of c.loop-first.self c.args.item)) (none_of c.loop-first.first c.in_default.not-Some) ∙ c.loop-first.invariant.none (none_of c.loop-first.first c.in_default.not-Some)) c.loop-first.invariant.after

pub returns-clause-none : goal.returns-clause-none
returns-clause-none c = c.loop-first.invariant.none (none_of c.loop-first.first c.in_default.not-Some)

pub returns-clause-apart : goal.returns-clause-apart
returns-clause-apart c = subst (λ o. IfNone o (IsApart c.loop-first.self.all c.args.item)) (none_of c.loop-first.first c.in_default.not-Some) c.loop-first.invariant.apart

pub returns-clause-others : goal.returns-clause-others
returns-clause-others c = c.loop-first.invariant.others
