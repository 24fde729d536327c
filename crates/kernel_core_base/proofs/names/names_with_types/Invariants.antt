use Rattle.std.proofs.Common.{◌≡◌, take, map as list_map}
use Rattle.std.specs.FinMap as map
use Rattle.kernel_core_base.specs.Names.{type_found}
use Rattle.kernel_core_base.proofs.names.names_with_types.Given as goal

abbrev pub invariant-loop-name : goal.invariant-loop-name
invariant-loop-name l = l.entries.items ≡ list_map (λ n. (n, type_found l.world.requests l.task n (map.get l.space.names n))) (take l.name-index (map.keys l.space.names))
