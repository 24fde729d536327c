use Rattle.name_space.proofs.Turns.{Remains}
use Rattle.name_space.proofs.Space.names.Given as goal

abbrev pub invariant-loop-turn : goal.invariant-loop-turn
invariant-loop-turn l = Remains l.self-inside.table.names l.names.items l._turn l.from
