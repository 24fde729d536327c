use Rattle.std.proofs.Common.{ℕ, ap, sym, ◌∙◌}
use Rattle.std.specs.Prelude.{min}
use Rattle.copyin_base.specs.Worlds.{port_at}
use Rattle.receive_right.specs.Status.{least_name}
use Rattle.receive_right.proofs.Status.{least_begun, least_next, sets_had, with_least}
use Rattle.receive_right.proofs.least_set_name.Goals as goal

pub loop-set-init : goal.loop-set-init
loop-set-init c v there =
    let sets = c.args.world.now.sets in
    let rest = c.next_set.new.self in
    ap (λ (n : ℕ). with_least sets n rest) c.set_name-least.ensures
    ∙ least_begun sets c.in-Some-next_set.first rest
    ∙ ap (least_name sets) (sym c.in-Some-next_set.ensures.some ∙ sets_had (port_at c.args.world.now c.args.port) c.in-Some.sets (sym c.in-Some.is ∙ c.sets_of.ensures) v there)

pub loop-set-preserved : goal.loop-set-preserved
loop-set-preserved c v there =
    let sets = c.args.world.now.sets in
    let least = c.loop-set.least in
    let rest = c.next_set-in-loop-set.new.self in
    ap (λ (n : ℕ). with_least sets n rest) (c.lesser-least.ensures ∙ ap (min least) c.set_name.ensures)
    ∙ least_next sets least c.in-Some-next_set-2.set rest
    ∙ ap (with_least sets least) (sym c.in-Some-next_set-2.ensures.some)
    ∙ c.loop-set.invariant v there

pub returns : goal.returns
returns c v there = sym (ap (with_least c.args.world.now.sets c.loop-set.least) c.in_default-next_set-2.ensures.none.0) ∙ c.loop-set.invariant v there
