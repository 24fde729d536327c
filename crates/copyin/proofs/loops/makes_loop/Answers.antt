use Rattle.std.proofs.Common.{ℕ, List, sym, subst, ◌∙◌, arith}
use Rattle.std.specs.Prelude.{◌↔◌, IsTrue}
use Rattle.std.proofs.lemmas.Bool.{eqb-true}
use Rattle.std.proofs.lemmas.List.{nil_from_length}
use Rattle.circularity.specs.Chains.{LeadsToAny}
use Rattle.copyin.proofs.LoopFound.{none_moves, any_moves}
use Rattle.copyin.proofs.loops.makes_loop.Goals as goal

pub returns-then-is_empty-clause-ok : goal.returns-then-is_empty-clause-ok
returns-then-is_empty-clause-ok c =
    let none = nil_from_length c.in_ok-moved.moved.items (let n = eqb-true c.in_ok-moved.moved.len 0 (sym c.if-is_empty.ensures) in let same = c.in_ok-moved.moved.ok in omega (arith, n, same)) in
    none_moves c.args.world.now.ports c.args.port c.args.rights.now (sym c.in_ok-moved.ensures ∙ none)

pub returns-clause-ok : goal.returns-clause-ok
returns-clause-ok c = any_moves c.args.world.now.ports c.args.port c.args.rights.now c.closes_loop.result
    (subst (λ (moved : List ℕ). IsTrue c.closes_loop.result ↔ LeadsToAny c.args.world.now.ports c.args.port moved) (c.as_slice.ensures.value ∙ c.in_ok-moved.ensures) c.closes_loop.ensures)
