use Rattle.std.proofs.Common.{◌≡◌, ◌++◌, take, drop, map}
use Rattle.gelvonds_c.proofs.names.put_names.Given as goal

-- the names and types before this place are written
abbrev pub invariant-loop-place : goal.invariant-loop-place
invariant-loop-place l =
    (l.names ≡ map (λ e. e.0) (take l.place l.found) ++ drop l.place l.initial.names)
    × (l.types ≡ map (λ e. e.1) (take l.place l.found) ++ drop l.place l.initial.types)
