use Rattle.std.proofs.Common.{List, Bool, sym, subst, ◌++◌, ◌∷◌, [], inl, inr, refl, ◌∙◌}
use Rattle.std.specs.Option.{option_to_list}
use Rattle.copyout.specs.Room.{Marks}
use Rattle.copyout.proofs.Counting.{marks_none, marks_once, marks_named, marks_before, marks_own, shares_name, found_name, place_there}
use Rattle.copyout.proofs.room.needs_own.Goals as goal

pub returns-in_default : goal.returns-in_default
returns-in_default c = record {
  some = refl;
  marked = marks_none c.args.marks.now c.args.space.now.names (option_to_list c.args.reply.now ++ c.args.earlier.now) c.args.carried.now c.requires.marked c.in_default.not-Port;
  needs = inl (λ p is. absurd (c.in_default.not-Port p is));
}

pub returns-then-is_send_once-clause-marked : goal.returns-then-is_send_once-clause-marked
returns-then-is_send_once-clause-marked c =
    marks_once c.args.marks.now c.args.space.now.names (option_to_list c.args.reply.now ++ c.args.earlier.now) c.args.carried.now c.requires.marked c.if-is_send_once.ensures.sent

pub returns-then-is_some-clause-marked : goal.returns-then-is_some-clause-marked
returns-then-is_some-clause-marked c =
    let named = found_name c.args.space.now.names c.in-Port.port c.name_of_port.result (sym c.is_some.ensures ∙ c.if-is_some.true) c.name_of_port.ensures.found in
    marks_named c.args.marks.now c.args.space.now.names (option_to_list c.args.reply.now ++ c.args.earlier.now) c.args.carried.now c.in-Port.port c.in-Port.is c.requires.marked named.0 named.1

pub returns-then-is_some-clause-needs : goal.returns-then-is_some-clause-needs
returns-then-is_some-clause-needs c =
    shares_name c.args.world.now.ports c.args.space.now.names (option_to_list c.args.reply.now ++ c.args.earlier.now) c.args.carried.now c.in-Port.port c.in-Port.is c.if-is_send_once.ensures.sent
    (inl (found_name c.args.space.now.names c.in-Port.port c.name_of_port.result (sym c.is_some.ensures ∙ c.if-is_some.true) c.name_of_port.ensures.found))

pub returns-then-is_named_before-clause-marked : goal.returns-then-is_named_before-clause-marked
returns-then-is_named_before-clause-marked c =
    marks_before c.args.marks.now c.args.space.now.names (option_to_list c.args.reply.now ++ c.args.earlier.now) c.args.carried.now c.in-Port.port c.in-Port.is c.requires.marked (sym c.if-is_named_before.ensures)

pub returns-then-is_named_before-clause-needs : goal.returns-then-is_named_before-clause-needs
returns-then-is_named_before-clause-needs c =
    shares_name c.args.world.now.ports c.args.space.now.names (option_to_list c.args.reply.now ++ c.args.earlier.now) c.args.carried.now c.in-Port.port c.in-Port.is c.if-is_send_once.ensures.sent
    (inr (sym c.if-is_named_before.ensures))

pub returns-clause-marked : goal.returns-clause-marked
returns-clause-marked c =
    let there = place_there c.args.marks.now c.in-Port.port c.requires.some in
    subst (λ (m : List Bool). Marks m c.args.space.now.names ((option_to_list c.args.reply.now ++ c.args.earlier.now) ++ c.args.carried.now ∷ [])) (sym c.mark_port.ensures)
    (marks_own c.args.marks.now c.in-Port.port there.0 there.1 c.args.space.now.names (option_to_list c.args.reply.now ++ c.args.earlier.now) c.args.carried.now c.in-Port.is c.requires.marked)
