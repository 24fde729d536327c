use Rattle.std.proofs.Common.{refl, sym, ap, subst, ◌∙◌, arith}
use Rattle.std.specs.Prelude.{◌+◌, ◌<◌, ◌^◌}
use Rattle.kernel_change.proofs.NamesAsked.{none_below, fits, less_to_come, one_sent, one_other, all_sent}
use Rattle.kernel_change.proofs.change.has_sends_alone.Goals as goal

pub loop-name-init : goal.loop-name-init
loop-name-init c = none_below c.space-space.result.names c.null-from.result c.null-from.ensures

pub overflow_add-number : goal.overflow_add-number
overflow_add-number c = let f = fits c.args.world.now c.args.task c.space-space.result c.space-space.ensures c.loop-name.from c.loop-name.invariant c.in-Some.name c.in-Some.ensures.found c.in-Some-lookup.entry (sym c.lookup.ensures ∙ c.in-Some-lookup.is) c.requires.stands c.number.result c.number.ensures c.number.type_inv in omega (arith, f)

pub loop-name-smaller : goal.loop-name-smaller
loop-name-smaller c =
    less_to_come c.args.world.now c.args.task c.space-space.result c.space-space.ensures c.loop-name.from c.loop-name.invariant c.in-Some.name c.in-Some.ensures.found c.in-Some-lookup.entry (sym c.lookup.ensures ∙ c.in-Some-lookup.is) c.new-from.result (c.new-from.ensures ∙ ap (λ n. n + 1) c.number.ensures) (subst (λ n. n < 2 ^ 32) (sym c.new-from.ensures) (fits c.args.world.now c.args.task c.space-space.result c.space-space.ensures c.loop-name.from c.loop-name.invariant c.in-Some.name c.in-Some.ensures.found c.in-Some-lookup.entry (sym c.lookup.ensures ∙ c.in-Some-lookup.is) c.requires.stands c.number.result c.number.ensures c.number.type_inv))

pub loop-name-preserved : goal.loop-name-preserved
loop-name-preserved c =
    one_sent c.args.world.now c.args.task c.space-space.result c.space-space.ensures c.loop-name.from c.loop-name.invariant c.in-Some.name c.in-Some.ensures.found c.in-Some-lookup.entry (sym c.lookup.ensures ∙ c.in-Some-lookup.is) (sym c.is_send_or_dead.ensures ∙ c.if-is_send_or_dead.true) c.new-from.result (c.new-from.ensures ∙ ap (λ n. n + 1) c.number.ensures)

pub returns-in_default-lookup : goal.returns-in_default-lookup
returns-in_default-lookup c = ((λ never. absurd (cc)), λ has. absurd (one_other c.args.world.now c.args.task c.space-space.result c.space-space.ensures c.loop-name.from c.loop-name.invariant c.in-Some.name c.in-Some.ensures.found c.in-Some-lookup.entry (sym c.lookup.ensures ∙ c.in-Some-lookup.is) (sym c.is_send_or_dead.ensures ∙ c.if-is_send_or_dead.false) has))

pub returns : goal.returns
returns c = ((λ so. all_sent c.args.world.now c.args.task c.space-space.result c.space-space.ensures c.loop-name.from c.loop-name.invariant c.in_default.ensures.none), (λ has. refl))
