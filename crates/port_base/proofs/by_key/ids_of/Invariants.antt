use Rattle.std.proofs.Common.{◌≡◌, take}
use Rattle.slab.specs.Slab.{get}
use Rattle.port_base.specs.Records.{ids_at}
use Rattle.port_base.proofs.by_key.ids_of.Given as goal

-- the identities under the keys so far
abbrev pub invariant-loop-key : goal.invariant-loop-key
invariant-loop-key g l = l.ids.items ≡ ids_at (get l.records) (take l.key-index l.keys)
