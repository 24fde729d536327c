use Rattle.std.proofs.Common.{◌++◌, ◌∷◌, [], ap, sym, subst, ◌∙◌}
use Rattle.shared_lists.specs.Shared.{more_of, with_first}
use Rattle.shared_lists.proofs.Leaving.{first_rest, first_others}
use Rattle.port_base.specs.Memberships.{IsPartlyOut}
use Rattle.port_base.proofs.Settled.{has_next, next_out, next_inside, next_apart, next_fewer, none_out_yet, nothing_in}
use Rattle.port_base.proofs.moves.lead.Goals as goal

pub loop-own-init : goal.loop-own-init
loop-own-init c = record {
  gone = [];
  out = none_out_yet c.args.sets.now c.args.key c.args.first c.args.is_ready c.requires.first c.requires.ready;
  apart = nothing_in c.args.set;
  inside = c.requires.there;
}

pub leave_first-requires-clause-first : goal.leave_first-requires-clause-first
leave_first-requires-clause-first c = c.loop-own.invariant.out.first

pub leave_first-requires-clause-ready : goal.leave_first-requires-clause-ready
leave_first-requires-clause-ready c = c.loop-own.invariant.out.ready

pub loop-own-preserved : goal.loop-own-preserved
loop-own-preserved c = record {
  gone = c.loop-own.invariant.gone ++ c.loop-own.own ∷ [];
  out = next_out c.args.sets.now c.loop-own.sets c.args.key c.args.first c.loop-own.own c.args.set c.args.is_ready c.loop-own.invariant.gone c.loop-own.invariant.out c.loop-own-test.true c.loop-own.invariant.inside c.leave_first.new.self c.in-Some.next (first_rest c.loop-own.sets c.leave_first.new.self c.loop-own.own c.args.key c.args.is_ready c.leave_first.result c.leave_first.ensures.none c.leave_first.ensures.some) (first_others c.loop-own.sets c.leave_first.new.self c.loop-own.own c.args.key c.args.is_ready c.leave_first.result c.leave_first.ensures.none c.leave_first.ensures.some) c.in-Some.ensures.first (ap (λ o. with_first o (more_of c.leave_first.new.self c.args.key)) (sym c.in-Some.is) ∙ c.leave_first.ensures.lists);
  apart = next_apart c.args.sets.now c.loop-own.sets c.args.key c.args.first c.loop-own.own c.args.set c.args.is_ready c.loop-own.invariant.gone c.loop-own.invariant.out c.loop-own-test.true c.loop-own.invariant.inside c.leave_first.new.self c.in-Some.next (first_rest c.loop-own.sets c.leave_first.new.self c.loop-own.own c.args.key c.args.is_ready c.leave_first.result c.leave_first.ensures.none c.leave_first.ensures.some) (first_others c.loop-own.sets c.leave_first.new.self c.loop-own.own c.args.key c.args.is_ready c.leave_first.result c.leave_first.ensures.none c.leave_first.ensures.some) c.in-Some.ensures.first (ap (λ o. with_first o (more_of c.leave_first.new.self c.args.key)) (sym c.in-Some.is) ∙ c.leave_first.ensures.lists) c.loop-own.invariant.apart;
  inside = next_inside c.args.sets.now c.loop-own.sets c.args.key c.args.first c.loop-own.own c.args.set c.args.is_ready c.loop-own.invariant.gone c.loop-own.invariant.out c.loop-own-test.true c.loop-own.invariant.inside c.leave_first.new.self c.in-Some.next (first_rest c.loop-own.sets c.leave_first.new.self c.loop-own.own c.args.key c.args.is_ready c.leave_first.result c.leave_first.ensures.none c.leave_first.ensures.some) (first_others c.loop-own.sets c.leave_first.new.self c.loop-own.own c.args.key c.args.is_ready c.leave_first.result c.leave_first.ensures.none c.leave_first.ensures.some) c.in-Some.ensures.first (ap (λ o. with_first o (more_of c.leave_first.new.self c.args.key)) (sym c.in-Some.is) ∙ c.leave_first.ensures.lists);
}

pub loop-own-smaller : goal.loop-own-smaller
loop-own-smaller c = next_fewer c.args.sets.now c.loop-own.sets c.args.key c.args.first c.loop-own.own c.args.set c.args.is_ready c.loop-own.invariant.gone c.loop-own.invariant.out c.loop-own-test.true c.loop-own.invariant.inside c.leave_first.new.self c.in-Some.next (first_rest c.loop-own.sets c.leave_first.new.self c.loop-own.own c.args.key c.args.is_ready c.leave_first.result c.leave_first.ensures.none c.leave_first.ensures.some) (first_others c.loop-own.sets c.leave_first.new.self c.loop-own.own c.args.key c.args.is_ready c.leave_first.result c.leave_first.ensures.none c.leave_first.ensures.some) c.in-Some.ensures.first (ap (λ o. with_first o (more_of c.leave_first.new.self c.args.key)) (sym c.in-Some.is) ∙ c.leave_first.ensures.lists)

pub returns-in-None : goal.returns-in-None
returns-in-None c = absurd (has_next c.args.sets.now c.loop-own.sets c.args.key c.args.first c.loop-own.own c.args.set c.args.is_ready c.loop-own.invariant.gone c.loop-own.invariant.out c.loop-own-test.true c.loop-own.invariant.inside c.leave_first.result c.leave_first.ensures.result c.in-None.is)

pub returns : goal.returns
returns c = (c.loop-own.invariant.gone, subst (λ x. IsPartlyOut c.args.sets.now c.args.key c.args.first c.args.is_ready c.loop-own.invariant.gone x c.loop-own.sets) c.loop-own-test.false c.loop-own.invariant.out, c.loop-own.invariant.apart)
