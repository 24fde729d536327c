use Rattle.std.proofs.Common.{◌++◌, ◌∷◌, take, codes, flat_map}
use Rattle.std.specs.Io.KnownBytes.{Appends}
use Rattle.tracer_base.specs.Replies.{typed_name_text}
use Rattle.tracer_base.proofs.replies.write_names.Given as goal

-- the names before this one are written
abbrev pub invariant-loop-name : goal.invariant-loop-name
invariant-loop-name g l =
    Appends (g.W.Write.contents l.fn.out) (g.W.Write.contents l.out) (codes "names" ++ flat_map (λ entry. 32 ∷ typed_name_text entry) (take l.name-index l.name-items))
