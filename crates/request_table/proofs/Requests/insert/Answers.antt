use Rattle.std.proofs.Common.{◌≡◌, ◌<◌, None, [], ◌∷◌, ◌++◌, slice_set, refl, ap, sym, ◌∙◌, arith}
use Rattle.std.specs.FinMap as map
use Rattle.std.specs.Vec.{vec_capacity}
use Rattle.member_lists.specs.Lists.{list_of, with_list}
use Rattle.number_map.specs.Maps.{MapView}
use Rattle.request_table.specs.declared.Entry.{Entry}
use Rattle.request_table.specs.Requests.{key_of}
use Rattle.request_table.proofs.Came.{item-apart, total-came, kept-came, view-came}
use Rattle.request_table.proofs.Found.{none-entry, room_is}
use Rattle.request_table.proofs.Requests.insert.Goals as goal

pub push-requires-clause-apart : goal.push-requires-clause-apart
push-requires-clause-apart c =
    let own : key_of c.args.request ≡ c.key_of-key.result = sym c.key_of-key.ensures.key in
    let absent : map.get c.self.inside.by_name.map c.key_of-key.result ≡ None = none-entry c.self.inside.by_name c.self.inside.by_port c.self.inside.keys.items c.self.inside.free.items (vec_capacity c.self.inside.free) c.self.inside.fresh c.self.invariant.standing c.self.inside.went.items c.args.self.now c.self.view_is c.key_of-key.result (ap (map.get c.args.self.now.requests) c.key_of-key.ensures.key ∙ c.requires.absent) in
    let some : 0 < c.self.inside.by_name.room = (let is = room_is c.self.inside.by_name c.self.inside.by_port c.self.inside.keys.items c.self.inside.free.items (vec_capacity c.self.inside.free) c.self.inside.fresh c.self.invariant.standing c.self.inside.went.items c.args.self.now c.self.view_is in let more = c.requires.room in omega arith) in
    item-apart c.self.inside.by_name c.self.inside.by_port c.self.inside.keys.items c.self.inside.free.items (vec_capacity c.self.inside.free) c.self.inside.fresh c.self.invariant.standing c.args.request c.key_of-key.result own c.key_of-key.ensures.small absent some c.take_item-item.result c.take_item-item.new.free.items c.take_item-item.new.fresh c.take_item-item.ensures.taken

pub insert-requires-clause-absent : goal.insert-requires-clause-absent
insert-requires-clause-absent c = none-entry c.self.inside.by_name c.self.inside.by_port c.self.inside.keys.items c.self.inside.free.items (vec_capacity c.self.inside.free) c.self.inside.fresh c.self.invariant.standing c.self.inside.went.items c.args.self.now c.self.view_is c.key_of-key.result (ap (map.get c.args.self.now.requests) c.key_of-key.ensures.key ∙ c.requires.absent)

pub invariant_of-self : goal.invariant_of-self
invariant_of-self c =
    let own : key_of c.args.request ≡ c.key_of-key.result = sym c.key_of-key.ensures.key in
    let absent : map.get c.self.inside.by_name.map c.key_of-key.result ≡ None = none-entry c.self.inside.by_name c.self.inside.by_port c.self.inside.keys.items c.self.inside.free.items (vec_capacity c.self.inside.free) c.self.inside.fresh c.self.invariant.standing c.self.inside.went.items c.args.self.now c.self.view_is c.key_of-key.result (ap (map.get c.args.self.now.requests) c.key_of-key.ensures.key ∙ c.requires.absent) in
    let some : 0 < c.self.inside.by_name.room = (let is = room_is c.self.inside.by_name c.self.inside.by_port c.self.inside.keys.items c.self.inside.free.items (vec_capacity c.self.inside.free) c.self.inside.fresh c.self.invariant.standing c.self.inside.went.items c.args.self.now c.self.view_is in let more = c.requires.room in omega arith) in
    let listed : c.push.new.self ≡ with_list c.self.inside.by_port c.args.request.port (list_of c.self.inside.by_port c.args.request.port ++ c.take_item-item.result ∷ []) =
    c.push.ensures ∙ ap (λ n. with_list c.self.inside.by_port n (list_of c.self.inside.by_port n ++ c.take_item-item.result ∷ [])) c.number.ensures in
    record {
      standing = kept-came c.self.inside.by_name c.self.inside.by_port c.self.inside.keys.items c.self.inside.free.items (vec_capacity c.self.inside.free) c.self.inside.fresh c.self.invariant.standing c.args.request c.key_of-key.result own c.key_of-key.ensures.small absent some c.take_item-item.result c.take_item-item.new.free.items c.take_item-item.new.fresh c.take_item-item.ensures.taken
          c.insert.new.self c.push.new.self (slice_set c.self.inside.keys.items c.take_item-item.result c.key_of-key.result) (vec_capacity c.take_item-item.new.free) c.insert.ensures listed refl c.take_item-item.ensures.capacity;
      waiting = (let less = ap (λ (w : MapView Entry). w.room) c.insert.ensures in let is = room_is c.self.inside.by_name c.self.inside.by_port c.self.inside.keys.items c.self.inside.free.items (vec_capacity c.self.inside.free) c.self.inside.fresh c.self.invariant.standing c.self.inside.went.items c.args.self.now c.self.view_is in let more = c.requires.room in omega arith);
      in_went = (let total = total-came c.self.inside.by_name c.self.inside.by_port c.self.inside.keys.items c.self.inside.free.items (vec_capacity c.self.inside.free) c.self.inside.fresh c.self.invariant.standing c.args.request c.key_of-key.result own c.key_of-key.ensures.small absent some c.take_item-item.result c.take_item-item.new.free.items c.take_item-item.new.fresh c.take_item-item.ensures.taken c.insert.new.self c.insert.ensures in let fits = c.self.invariant.in_went in omega arith);
    }

pub returns : goal.returns
returns c =
    let own : key_of c.args.request ≡ c.key_of-key.result = sym c.key_of-key.ensures.key in
    let absent : map.get c.self.inside.by_name.map c.key_of-key.result ≡ None = none-entry c.self.inside.by_name c.self.inside.by_port c.self.inside.keys.items c.self.inside.free.items (vec_capacity c.self.inside.free) c.self.inside.fresh c.self.invariant.standing c.self.inside.went.items c.args.self.now c.self.view_is c.key_of-key.result (ap (map.get c.args.self.now.requests) c.key_of-key.ensures.key ∙ c.requires.absent) in
    let some : 0 < c.self.inside.by_name.room = (let is = room_is c.self.inside.by_name c.self.inside.by_port c.self.inside.keys.items c.self.inside.free.items (vec_capacity c.self.inside.free) c.self.inside.fresh c.self.invariant.standing c.self.inside.went.items c.args.self.now c.self.view_is in let more = c.requires.room in omega arith) in
    let listed : c.push.new.self ≡ with_list c.self.inside.by_port c.args.request.port (list_of c.self.inside.by_port c.args.request.port ++ c.take_item-item.result ∷ []) =
    c.push.ensures ∙ ap (λ n. with_list c.self.inside.by_port n (list_of c.self.inside.by_port n ++ c.take_item-item.result ∷ [])) c.number.ensures in
    view-came c.self.inside.by_name c.self.inside.by_port c.self.inside.keys.items c.self.inside.free.items (vec_capacity c.self.inside.free) c.self.inside.fresh c.self.invariant.standing c.args.request c.key_of-key.result own c.key_of-key.ensures.small absent some c.take_item-item.result c.take_item-item.new.free.items c.take_item-item.new.fresh c.take_item-item.ensures.taken
    c.self.inside.went.items c.args.self.now c.self.view_is c.insert.new.self c.push.new.self (slice_set c.self.inside.keys.items c.take_item-item.result c.key_of-key.result) c.insert.ensures listed refl
