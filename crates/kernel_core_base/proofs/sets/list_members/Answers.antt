use Rattle.std.proofs.Common.{Contains, List, ℕ, subst, sym, ◌∙◌}
use Rattle.std.proofs.lemmas.Result.{IfOk-weaker}
use Rattle.port.specs.Ports.{IsIn}
use Rattle.kernel_core_base.specs.Gathered.{AreGathered}
use Rattle.kernel_core_base.proofs.Gathering.{gathered_all}
use Rattle.kernel_core_base.proofs.sets.list_members.Goals as goal

pub gather-requires : goal.gather-requires
gather-requires c = subst (λ (ports : List ℕ). (port : ℕ) → Contains ports port → IsIn c.args.world.now.ports c.args.set port) (sym c.deref.ensures.value) c.in_ok-ports.ensures.only

pub returns : goal.returns
returns c =
    let g = subst (λ (ports : List ℕ). AreGathered c.args.world.now c.args.set c.args.space.now.names ports c.in_ok-numbers.numbers) c.deref.ensures.value c.in_ok-numbers.ensures in
    IfOk-weaker c.names_of.result _ _
    (λ names is. is ∙ gathered_all c.args.world.now c.args.set c.args.space.now.names c.in_ok-ports.ports.items c.in_ok-numbers.numbers g
    c.in_ok-ports.ensures.all)
    c.names_of.ensures
