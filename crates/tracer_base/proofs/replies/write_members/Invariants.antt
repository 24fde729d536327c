use Rattle.std.proofs.Common.{◌++◌, ◌∷◌, take, codes, flat_map, decimal}
use Rattle.std.specs.Io.KnownBytes.{Appends}
use Rattle.tracer_base.proofs.replies.write_members.Given as goal

-- the names before this one are written
abbrev pub invariant-loop-name : goal.invariant-loop-name
invariant-loop-name g l =
    Appends (g.W.Write.contents l.fn.out) (g.W.Write.contents l.out) (codes "members" ++ flat_map (λ name. 32 ∷ decimal name) (take l.name-index l.name-items))
