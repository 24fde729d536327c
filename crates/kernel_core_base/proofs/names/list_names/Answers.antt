use Rattle.std.proofs.Common.{List, ℕ, sym, subst, ◌∙◌}
use Rattle.mach_types.specs.declared.calls.Event.{Event}
use Rattle.mach_types.specs.declared.calls.Reply.{Reply}
use Rattle.copyin_base.specs.Serving.{Completes}
use Rattle.kernel_core_base.proofs.NamesListed.{names_listed}
use Rattle.kernel_core_base.proofs.names.list_names.Goals as goal

pub returns-in-Ok-clause-serves : goal.returns-in-Ok-clause-serves
returns-in-Ok-clause-serves c =
    let told = c.from_vec.ensures ∙ c.in-Ok.ensures.ok in
    subst (λ (xs : List (ℕ × ℕ)). Completes c.args.world.now (Event.Names c.args.task) (Reply.Names xs) c.args.world.now) (sym told)
    (names_listed c.args.world.now c.args.task c.space.result c.requires.there c.space.ensures)
