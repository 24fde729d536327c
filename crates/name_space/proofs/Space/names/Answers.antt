use Rattle.std.proofs.Common.{◌+◌, ◌++◌, ◌∷◌, [], ap, sym, subst, ◌∙◌, arith}
use Rattle.name_space.proofs.Turns.{Remains, remains_first, remains_some, remains_found}
use Rattle.name_space.proofs.Space.names.Goals as goal

pub loop-turn-init : goal.loop-turn-init
loop-turn-init c = subst (λ l. Remains c.self.inside.table.names l 0 1) (sym (c.in_ok-reserve.ensures.items ∙ c.new-names.ensures.items)) (remains_first c.self.inside.table.names c.self.invariant.not_null)

pub unwrap-name-requires : goal.unwrap-name-requires
unwrap-name-requires c =
    remains_some c.self.inside.table.names c.loop-turn.names.items c.loop-turn._turn c.loop-turn.from c.loop-turn.invariant (let here = c.loop-turn-test.true in let counted = c.self.invariant.counted in omega arith) c.next.result c.next.ensures.none

pub loop-turn-preserved : goal.loop-turn-preserved
loop-turn-preserved c =
    subst (λ l. Remains c.self.inside.table.names l (c.loop-turn._turn + 1) (c.unwrap-name.result + 1)) (sym (c.in_ok-push.ensures.items ∙ ap (λ n. c.loop-turn.names.items ++ n ∷ []) c.new.ensures))
    (remains_found c.self.inside.table.names c.loop-turn.names.items c.loop-turn._turn c.loop-turn.from c.loop-turn.invariant c.next.result c.unwrap-name.result c.unwrap-name.ensures c.next.ensures.found)
