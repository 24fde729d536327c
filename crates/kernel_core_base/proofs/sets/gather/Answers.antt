use Rattle.std.proofs.Common.{Contains, ◌++◌, ◌∷◌, [], List, ℕ, ap, sym, subst, ◌∙◌, take}
use Rattle.std.proofs.lemmas.List.{take_more}
use Rattle.std.proofs.lemmas.List.Elements.{Contains-get_or}
use Rattle.kernel_core_base.specs.Gathered.{AreGathered}
use Rattle.kernel_core_base.proofs.Gathering.{gathered_more}
use Rattle.kernel_core_base.proofs.sets.gather.Goals as goal

pub member_name-requires : goal.member_name-requires
member_name-requires c =
    c.requires c.port-item.result (subst (λ (p : ℕ). Contains c.args.ports.now p) (sym c.port-item.is) (Contains-get_or c.args.ports.now c.loop-port.port-index c.port-item.result c.loop-port-test.true))

pub loop-port-preserved : goal.loop-port-preserved
loop-port-preserved c =
    let before = take c.loop-port.port-index c.args.ports.now in
    let more = gathered_more c.args.world.now c.args.set c.args.space.now.names before c.port-item.result c.loop-port.numbers c.note.new.numbers c.member_name.result c.loop-port.invariant c.in_ok-note.ensures c.member_name.ensures.found c.member_name.ensures.only in
    subst (λ (ports : List ℕ). AreGathered c.args.world.now c.args.set c.args.space.now.names ports c.note.new.numbers)
    (ap (λ p. before ++ p ∷ []) c.port-item.is ∙ sym (take_more c.args.ports.now c.loop-port.port-index c.port-item.result c.loop-port-test.true)) more
