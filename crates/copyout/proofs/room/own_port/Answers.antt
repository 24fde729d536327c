use Rattle.std.proofs.Common.{◌∙◌, sym, [], inl}
use Rattle.mach_types.specs.Numbers.{kind_sent}
use Rattle.copyout.proofs.Counting.{shared_found, shared_none, shares_name, owns_alone, shares_gone}
use Rattle.copyout.proofs.room.own_port.Goals as goal

pub returns-in_default : goal.returns-in_default
returns-in_default c = inl (λ p is. absurd (c.in_default.not-Port p is))

pub returns-then-is_some : goal.returns-then-is_some
returns-then-is_some c =
    let found = shared_found (kind_sent c.args.carried.now.given) c.args.space.now.names c.in-Port.port c.shared_name.result (sym c.is_some.ensures ∙ c.if-is_some.true) c.shared_name.ensures.some in
    shares_name c.args.world.now.ports c.args.space.now.names [] c.args.carried.now c.in-Port.port c.in-Port.is found.0 (inl found.1)

pub returns-then-has_port : goal.returns-then-has_port
returns-then-has_port c =
    owns_alone c.args.world.now.ports c.args.space.now.names c.args.carried.now c.in-Port.port c.in-Port.is
    (shared_none c.shared_name.result _ (sym c.is_some.ensures ∙ c.if-is_some.false) c.shared_name.ensures.none)
    (sym c.has_port.ensures ∙ c.if-has_port.true)

pub returns-else-has_port : goal.returns-else-has_port
returns-else-has_port c = shares_gone c.args.world.now.ports c.args.space.now.names c.args.carried.now c.in-Port.port c.in-Port.is (sym c.has_port.ensures ∙ c.if-has_port.false)
