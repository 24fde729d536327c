use Rattle.std.proofs.Common.{◌≡◌, ◌+◌, ◌-◌, ◌<◌, length, max, refl, ap, sym, ◌∙◌, arith, deque_capacity}
use Rattle.std.specs.FinMap as map
use Rattle.std.specs.Vec.{vec_capacity}
use Rattle.member_lists.specs.Lists.{ListsView}
use Rattle.request_table.specs.Requests.{RequestsView}
use Rattle.request_table.specs.Kept.{requests_of, names_at}
use Rattle.request_table.proofs.Moved.{sum_told, on_err}
use Rattle.request_table.proofs.Came.{shown, whole-grown, view-grown}
use Rattle.request_table.proofs.Found.{room_is}
use Rattle.request_table.proofs.Requests.reserve.Goals as goal

pub invariant_of-self : goal.invariant_of-self
invariant_of-self c = whole-grown c.self.inside.by_name c.self.inside.by_port c.self.inside.keys.items c.self.inside.free.items (vec_capacity c.self.inside.free) c.self.inside.fresh c.self.invariant.standing c.self.inside.went.items c.self.invariant.waiting
    c.self.inside.by_name c.self.inside.by_port c.grow.new.keys.items c.self.inside.free.items (vec_capacity c.self.inside.free) c.self.inside.went.items (deque_capacity c.self.inside.went) c.self.inside.by_name.room c.self.inside.by_port.items
    refl refl c.grow.ensures.stays c.grow.ensures.longer refl refl (omega arith)
    c.self.invariant.standing.in_lists (let a = c.self.invariant.standing.in_keys in let b = c.grow.ensures.longer in omega arith) c.self.invariant.standing.in_free c.self.invariant.in_went

pub returns-in_err-grow-clause-err : goal.returns-in_err-grow-clause-err
returns-in_err-grow-clause-err c = on_err c.from_residual-in_err-grow.result _ (view-grown c.self.inside.by_name c.self.inside.by_port c.self.inside.keys.items c.self.inside.free.items (vec_capacity c.self.inside.free) c.self.inside.fresh c.self.invariant.standing c.self.inside.went.items c.self.inside.by_name c.self.inside.by_port c.grow.new.keys.items c.self.inside.went.items c.self.inside.by_name.room refl refl c.grow.ensures.stays refl ∙ c.self.view_is)

pub invariant_of-self-in_err-reserve : goal.invariant_of-self-in_err-reserve
invariant_of-self-in_err-reserve c = whole-grown c.self.inside.by_name c.self.inside.by_port c.self.inside.keys.items c.self.inside.free.items (vec_capacity c.self.inside.free) c.self.inside.fresh c.self.invariant.standing c.self.inside.went.items c.self.invariant.waiting
    c.self.inside.by_name c.self.inside.by_port c.grow.new.keys.items c.reserve.new.self.items (vec_capacity c.reserve.new.self) c.self.inside.went.items (deque_capacity c.self.inside.went) c.self.inside.by_name.room c.self.inside.by_port.items
    refl refl c.grow.ensures.stays c.grow.ensures.longer c.reserve.ensures.items refl (omega arith)
    c.self.invariant.standing.in_lists (let a = c.self.invariant.standing.in_keys in let b = c.grow.ensures.longer in omega arith) (let a = c.self.invariant.standing.in_free in let b = c.reserve.ensures.capacity in omega arith) c.self.invariant.in_went

pub returns-in_err-reserve-clause-err : goal.returns-in_err-reserve-clause-err
returns-in_err-reserve-clause-err c = on_err c.from_residual-in_err-reserve.result _ (view-grown c.self.inside.by_name c.self.inside.by_port c.self.inside.keys.items c.self.inside.free.items (vec_capacity c.self.inside.free) c.self.inside.fresh c.self.invariant.standing c.self.inside.went.items c.self.inside.by_name c.self.inside.by_port c.grow.new.keys.items c.self.inside.went.items c.self.inside.by_name.room refl refl c.grow.ensures.stays refl ∙ c.self.view_is)

pub invariant_of-self-in_err-reserve-2 : goal.invariant_of-self-in_err-reserve-2
invariant_of-self-in_err-reserve-2 c = whole-grown c.self.inside.by_name c.self.inside.by_port c.self.inside.keys.items c.self.inside.free.items (vec_capacity c.self.inside.free) c.self.inside.fresh c.self.invariant.standing c.self.inside.went.items c.self.invariant.waiting
    c.self.inside.by_name c.self.inside.by_port c.grow.new.keys.items c.reserve.new.self.items (vec_capacity c.reserve.new.self) c.reserve-then-additional-room.new.self.items (deque_capacity c.reserve-then-additional-room.new.self) c.self.inside.by_name.room c.self.inside.by_port.items
    refl refl c.grow.ensures.stays c.grow.ensures.longer c.reserve.ensures.items c.reserve-then-additional-room.ensures.items (omega arith)
    c.self.invariant.standing.in_lists (let a = c.self.invariant.standing.in_keys in let b = c.grow.ensures.longer in omega arith) (let a = c.self.invariant.standing.in_free in let b = c.reserve.ensures.capacity in omega arith) (let a = c.self.invariant.in_went in let b = c.reserve-then-additional-room.ensures.capacity in omega arith)

pub returns-in_err-reserve-2-clause-err : goal.returns-in_err-reserve-2-clause-err
returns-in_err-reserve-2-clause-err c = on_err c.from_residual-in_err-reserve-2.result _ (view-grown c.self.inside.by_name c.self.inside.by_port c.self.inside.keys.items c.self.inside.free.items (vec_capacity c.self.inside.free) c.self.inside.fresh c.self.invariant.standing c.self.inside.went.items c.self.inside.by_name c.self.inside.by_port c.grow.new.keys.items c.reserve-then-additional-room.new.self.items c.self.inside.by_name.room refl refl c.grow.ensures.stays c.reserve-then-additional-room.ensures.items ∙ c.self.view_is)

pub invariant_of-self-in_err-reserve-3 : goal.invariant_of-self-in_err-reserve-3
invariant_of-self-in_err-reserve-3 c = whole-grown c.self.inside.by_name c.self.inside.by_port c.self.inside.keys.items c.self.inside.free.items (vec_capacity c.self.inside.free) c.self.inside.fresh c.self.invariant.standing c.self.inside.went.items c.self.invariant.waiting
    c.self.inside.by_name c.reserve-then-additional-room-2.new.self c.grow.new.keys.items c.reserve.new.self.items (vec_capacity c.reserve.new.self) c.reserve-then-additional-room.new.self.items (deque_capacity c.reserve-then-additional-room.new.self) c.self.inside.by_name.room c.self.inside.by_port.items
    refl c.in_err-reserve-3.ensures.err c.grow.ensures.stays c.grow.ensures.longer c.reserve.ensures.items c.reserve-then-additional-room.ensures.items (omega arith)
    c.self.invariant.standing.in_lists (let a = c.self.invariant.standing.in_keys in let b = c.grow.ensures.longer in omega arith) (let a = c.self.invariant.standing.in_free in let b = c.reserve.ensures.capacity in omega arith) (let a = c.self.invariant.in_went in let b = c.reserve-then-additional-room.ensures.capacity in omega arith)

pub returns-in_err-reserve-3-clause-err : goal.returns-in_err-reserve-3-clause-err
returns-in_err-reserve-3-clause-err c = on_err c.from_residual-in_err-reserve-3.result _ (view-grown c.self.inside.by_name c.self.inside.by_port c.self.inside.keys.items c.self.inside.free.items (vec_capacity c.self.inside.free) c.self.inside.fresh c.self.invariant.standing c.self.inside.went.items c.self.inside.by_name c.reserve-then-additional-room-2.new.self c.grow.new.keys.items c.reserve-then-additional-room.new.self.items c.self.inside.by_name.room refl (ap (λ (w : ListsView). w.lists) c.in_err-reserve-3.ensures.err) c.grow.ensures.stays c.reserve-then-additional-room.ensures.items ∙ c.self.view_is)

pub invariant_of-self-in_err-reserve-4 : goal.invariant_of-self-in_err-reserve-4
invariant_of-self-in_err-reserve-4 c = whole-grown c.self.inside.by_name c.self.inside.by_port c.self.inside.keys.items c.self.inside.free.items (vec_capacity c.self.inside.free) c.self.inside.fresh c.self.invariant.standing c.self.inside.went.items c.self.invariant.waiting
    c.reserve-then-additional-room-3.new.self c.reserve-then-additional-room-2.new.self c.grow.new.keys.items c.reserve.new.self.items (vec_capacity c.reserve.new.self) c.reserve-then-additional-room.new.self.items (deque_capacity c.reserve-then-additional-room.new.self) c.self.inside.by_name.room (max c.self.inside.by_port.items c.in_ok-items.items)
    c.in_err-reserve-4.ensures.err c.in_ok-reserve-3.ensures.ok c.grow.ensures.stays c.grow.ensures.longer c.reserve.ensures.items c.reserve-then-additional-room.ensures.items (omega arith)
    (let a = c.self.invariant.standing.in_lists in omega arith) (let a = c.self.invariant.standing.in_keys in let b = c.grow.ensures.longer in omega arith) (let a = c.self.invariant.standing.in_free in let b = c.reserve.ensures.capacity in omega arith) (let a = c.self.invariant.in_went in let b = c.reserve-then-additional-room.ensures.capacity in omega arith)

pub returns-in_err-reserve-4-clause-err : goal.returns-in_err-reserve-4-clause-err
returns-in_err-reserve-4-clause-err c = on_err c.from_residual-in_err-reserve-4.result _ (view-grown c.self.inside.by_name c.self.inside.by_port c.self.inside.keys.items c.self.inside.free.items (vec_capacity c.self.inside.free) c.self.inside.fresh c.self.invariant.standing c.self.inside.went.items c.reserve-then-additional-room-3.new.self c.reserve-then-additional-room-2.new.self c.grow.new.keys.items c.reserve-then-additional-room.new.self.items c.self.inside.by_name.room c.in_err-reserve-4.ensures.err (ap (λ (w : ListsView). w.lists) c.in_ok-reserve-3.ensures.ok) c.grow.ensures.stays c.reserve-then-additional-room.ensures.items ∙ c.self.view_is)

pub invariant_of-self-in-Continue-branch-7 : goal.invariant_of-self-in-Continue-branch-7
invariant_of-self-in-Continue-branch-7 c =
    let long : c.len.result ≡ length c.self.inside.went.items = c.len.ensures ∙ c.self.inside.went.ok.0 in
    let room : c.in_ok-room.room ≡ c.args.additional + c.len.result = sum_told c.checked_add.result c.in_ok-room.room (c.args.additional + c.len.result) c.checked_add.ensures (sym c.in_ok-room.ensures.ok_part) in
    let total : c.in_ok-items.items ≡ c.in_ok-room.room + c.len-then-additional-room.result = sum_told c.checked_add-then-additional-room.result c.in_ok-items.items (c.in_ok-room.room + c.len-then-additional-room.result) c.checked_add-then-additional-room.ensures (sym c.in_ok-items.ensures.ok_part) in
    let number : c.len-then-additional-room.result ≡ map.len c.self.inside.by_name.map = c.len-then-additional-room.ensures in
    let above : c.self.inside.by_name.room < c.in_ok-room.room = (let t = c.if-additional-room.true in let r = c.room.ensures in let is = room_is c.self.inside.by_name c.self.inside.by_port c.self.inside.keys.items c.self.inside.free.items (vec_capacity c.self.inside.free) c.self.inside.fresh c.self.invariant.standing c.self.inside.went.items c.args.self.now c.self.view_is in omega arith) in
    whole-grown c.self.inside.by_name c.self.inside.by_port c.self.inside.keys.items c.self.inside.free.items (vec_capacity c.self.inside.free) c.self.inside.fresh c.self.invariant.standing c.self.inside.went.items c.self.invariant.waiting
    c.reserve-then-additional-room-3.new.self c.reserve-then-additional-room-2.new.self c.grow.new.keys.items c.reserve.new.self.items (vec_capacity c.reserve.new.self) c.reserve-then-additional-room.new.self.items (deque_capacity c.reserve-then-additional-room.new.self) (max c.self.inside.by_name.room c.in_ok-room.room) (max c.self.inside.by_port.items c.in_ok-items.items)
    c.in_ok-reserve-4.ensures.ok c.in_ok-reserve-3.ensures.ok c.grow.ensures.stays c.grow.ensures.longer c.reserve.ensures.items c.reserve-then-additional-room.ensures.items (omega arith)
    (omega arith) (let k = c.in_ok-grow.ensures.ok in omega arith) (let k = c.in_ok-reserve.ensures.ok in omega arith) (let k = c.in_ok-reserve-2.ensures.ok in omega arith)

pub returns-in_ok-reserve-4-clause-ok : goal.returns-in_ok-reserve-4-clause-ok
returns-in_ok-reserve-4-clause-ok c =
    let long : c.len.result ≡ length c.self.inside.went.items = c.len.ensures ∙ c.self.inside.went.ok.0 in
    let room : c.in_ok-room.room ≡ c.args.additional + c.len.result = sum_told c.checked_add.result c.in_ok-room.room (c.args.additional + c.len.result) c.checked_add.ensures (sym c.in_ok-room.ensures.ok_part) in
    let more : (max c.self.inside.by_name.room c.in_ok-room.room) - length c.self.inside.went.items ≡ max (c.self.inside.by_name.room - length c.self.inside.went.items) c.args.additional = omega arith in
    view-grown c.self.inside.by_name c.self.inside.by_port c.self.inside.keys.items c.self.inside.free.items (vec_capacity c.self.inside.free) c.self.inside.fresh c.self.invariant.standing c.self.inside.went.items c.reserve-then-additional-room-3.new.self c.reserve-then-additional-room-2.new.self c.grow.new.keys.items c.reserve-then-additional-room.new.self.items (max c.self.inside.by_name.room c.in_ok-room.room) c.in_ok-reserve-4.ensures.ok (ap (λ (w : ListsView). w.lists) c.in_ok-reserve-3.ensures.ok) c.grow.ensures.stays c.reserve-then-additional-room.ensures.items
    ∙ ap (λ n. shown (requests_of c.self.inside.by_name.map) (names_at c.self.inside.keys.items c.self.inside.by_port.lists) n c.self.inside.went.items) more
    ∙ ap (λ (w : RequestsView). shown w.requests w.names (max w.room c.args.additional) w.went) c.self.view_is
