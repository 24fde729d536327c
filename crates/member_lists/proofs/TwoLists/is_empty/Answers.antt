use Rattle.std.proofs.Common.{refl}
use Rattle.std.specs.FinMap as map
use Rattle.member_lists.proofs.Empty.{empty_told}
use Rattle.member_lists.proofs.TwoLists.is_empty.Goals as goal

pub returns : goal.returns
returns c = rw c.is_empty.ensures (empty_told c.self.inside.links.items c.self.inside.ends c.self.invariant c.args.self.now c.self.view_is (map.len c.self.inside.ends) refl)
