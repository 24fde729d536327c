use Rattle.std.proofs.Common.{◌≡◌, false, nat_eq, arith, deque_len}
use Rattle.std.specs.Vec.{vec_capacity}
use Rattle.request_table.proofs.Found.{empty-tells, some-tells}
use Rattle.request_table.proofs.Requests.is_empty.Goals as goal

pub returns-then-len-eq0 : goal.returns-then-len-eq0
returns-then-len-eq0 c =
    let none : c.len.result ≡ 0 = grind (arith, c.if-len-eq0.true) in
    empty-tells c.self.inside.by_name c.self.inside.by_port c.self.inside.keys.items c.self.inside.free.items (vec_capacity c.self.inside.free) c.self.inside.fresh c.self.invariant.standing c.self.inside.went.items c.args.self.now c.self.view_is c.len.result c.len.ensures (deque_len c.self.inside.went) c.self.inside.went.ok.0 c.is_empty.result c.is_empty.ensures none

pub returns-else-len-eq0 : goal.returns-else-len-eq0
returns-else-len-eq0 c =
    let some : nat_eq c.len.result 0 ≡ false = grind (arith, c.if-len-eq0.false) in
    some-tells c.self.inside.by_name c.self.inside.by_port c.self.inside.keys.items c.self.inside.free.items (vec_capacity c.self.inside.free) c.self.inside.fresh c.self.invariant.standing c.self.inside.went.items c.args.self.now c.self.view_is c.len.result c.len.ensures some
