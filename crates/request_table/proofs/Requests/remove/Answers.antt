use Rattle.std.proofs.Common.{◌≡◌, ◌+◌, ◌≤◌, Some, None, length, ap, sym, subst, ◌∙◌, arith, Contains}
use Rattle.std.specs.FinMap as map
use Rattle.std.specs.Vec.{vec_capacity}
use Rattle.member_lists.specs.Lists.{with_list, list_of, without}
use Rattle.number_map.specs.Maps.{MapView}
use Rattle.request_table.specs.declared.Entry.{Entry}
use Rattle.request_table.specs.Requests.{name_key}
use Rattle.request_table.proofs.Found.{found-request, none-request, task_is, name_is}
use Rattle.request_table.proofs.Went.{total-went, kept-went, view-went, free_fits}
use Rattle.request_table.proofs.Requests.remove.Goals as goal

pub returns-in_err-request-clause-kept : goal.returns-in_err-request-clause-kept
returns-in_err-request-clause-kept c =
    let none : map.get c.self.inside.by_name.map (name_key c.args.task c.args.name) ≡ None = sym (c.in_err-request.ensures ∙ ap (map.get c.self.inside.by_name.map) c.key_of-key.ensures.key) in
    c.from_residual.ensures ∙ sym (none-request c.self.inside.by_name c.self.inside.by_port c.self.inside.keys.items c.self.inside.free.items (vec_capacity c.self.inside.free) c.self.inside.fresh c.self.invariant.standing c.self.inside.went.items c.args.self.now c.self.view_is (name_key c.args.task c.args.name) none)

pub remove-requires : goal.remove-requires
remove-requires c =
    let f = c.self.invariant.standing.found c.key_of-key.result c.in_ok-request.field-0 (sym c.in_ok-request.ensures) in
    subst (λ n. Contains (list_of c.self.inside.by_port n) c.in_ok-request.field-0.item) (sym c.number.ensures) f.stands

pub push_reserved-requires : goal.push_reserved-requires
push_reserved-requires c =
    let f : length c.self.inside.free.items + 1 ≤ vec_capacity c.self.inside.free = free_fits c.self.inside.by_name c.self.inside.by_port c.self.inside.keys.items c.self.inside.free.items (vec_capacity c.self.inside.free) c.self.inside.fresh c.self.invariant.standing c.key_of-key.result c.in_ok-request.field-0 (sym c.in_ok-request.ensures) in omega arith

pub invariant_of-self : goal.invariant_of-self
invariant_of-self c =
    let left : c.remove.new.self ≡ with_list c.self.inside.by_port c.in_ok-request.field-0.request.port (without c.in_ok-request.field-0.item (list_of c.self.inside.by_port c.in_ok-request.field-0.request.port)) =
    c.remove.ensures ∙ ap (λ n. with_list c.self.inside.by_port n (without c.in_ok-request.field-0.item (list_of c.self.inside.by_port n))) c.number.ensures in
    record {
      standing = kept-went c.self.inside.by_name c.self.inside.by_port c.self.inside.keys.items c.self.inside.free.items (vec_capacity c.self.inside.free) c.self.inside.fresh c.self.invariant.standing c.key_of-key.result c.in_ok-request.field-0 (sym c.in_ok-request.ensures)
          c.release.new.self c.remove.new.self c.push_reserved.new.self.items (vec_capacity c.push_reserved.new.self) c.release.ensures left c.push_reserved.ensures.items c.push_reserved.ensures.capacity;
      waiting = (let more = ap (λ (w : MapView Entry). w.room) c.release.ensures in let few = c.self.invariant.waiting in omega arith);
      in_went = (let total = total-went c.self.inside.by_name c.self.inside.by_port c.self.inside.keys.items c.self.inside.free.items (vec_capacity c.self.inside.free) c.self.inside.fresh c.self.invariant.standing c.key_of-key.result c.in_ok-request.field-0 (sym c.in_ok-request.ensures) c.release.new.self c.release.ensures in let fits = c.self.invariant.in_went in omega arith);
    }

pub returns-clause-kept : goal.returns-clause-kept
returns-clause-kept c =
    let at : map.get c.self.inside.by_name.map (name_key c.args.task c.args.name) ≡ Some c.in_ok-request.field-0 = sym (c.in_ok-request.ensures ∙ ap (map.get c.self.inside.by_name.map) c.key_of-key.ensures.key) in
    sym (found-request c.self.inside.by_name c.self.inside.by_port c.self.inside.keys.items c.self.inside.free.items (vec_capacity c.self.inside.free) c.self.inside.fresh c.self.invariant.standing c.self.inside.went.items c.args.self.now c.self.view_is (name_key c.args.task c.args.name) c.in_ok-request.field-0 at)

pub returns-clause-own : goal.returns-clause-own
returns-clause-own c =
    let at : map.get c.self.inside.by_name.map (name_key c.args.task c.args.name) ≡ Some c.in_ok-request.field-0 = sym (c.in_ok-request.ensures ∙ ap (map.get c.self.inside.by_name.map) c.key_of-key.ensures.key) in (
      task_is c.self.inside.by_name c.self.inside.by_port c.self.inside.keys.items c.self.inside.free.items (vec_capacity c.self.inside.free) c.self.inside.fresh c.self.invariant.standing c.self.inside.went.items c.args.self.now c.self.view_is c.args.task c.args.name c.key_of-key.ensures.small c.in_ok-request.field-0 at,
      name_is c.self.inside.by_name c.self.inside.by_port c.self.inside.keys.items c.self.inside.free.items (vec_capacity c.self.inside.free) c.self.inside.fresh c.self.invariant.standing c.self.inside.went.items c.args.self.now c.self.view_is c.args.task c.args.name c.key_of-key.ensures.small c.in_ok-request.field-0 at,
    )

pub returns-clause-some : goal.returns-clause-some
returns-clause-some c =
    let left : c.remove.new.self ≡ with_list c.self.inside.by_port c.in_ok-request.field-0.request.port (without c.in_ok-request.field-0.item (list_of c.self.inside.by_port c.in_ok-request.field-0.request.port)) =
    c.remove.ensures ∙ ap (λ n. with_list c.self.inside.by_port n (without c.in_ok-request.field-0.item (list_of c.self.inside.by_port n))) c.number.ensures in
    view-went c.self.inside.by_name c.self.inside.by_port c.self.inside.keys.items c.self.inside.free.items (vec_capacity c.self.inside.free) c.self.inside.fresh c.self.invariant.standing c.key_of-key.result c.in_ok-request.field-0 (sym c.in_ok-request.ensures) c.self.inside.went.items c.self.invariant.waiting c.args.self.now c.self.view_is
    c.release.new.self c.remove.new.self c.release.ensures left
