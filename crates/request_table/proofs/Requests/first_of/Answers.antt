use Rattle.std.proofs.Common.{◌≡◌, ◌<◌, arith, Some, None, is_some, length, slice_get, refl, ap, sym, ◌∙◌}
use Rattle.std.specs.FinMap as map
use Rattle.std.specs.Vec.{vec_capacity}
use Rattle.std.proofs.lemmas.Option.{slice_get_within, slice_get_read}
use Rattle.member_lists.specs.Lists.{list_of}
use Rattle.member_lists.proofs.Times.{same_some}
use Rattle.request_table.proofs.Found.{first-held, first-key, first-some, first-none, first-on, none-on}
use Rattle.request_table.proofs.Requests.first_of.Goals as goal

pub returns-in_err-item-clause-first : goal.returns-in_err-item-clause-first
returns-in_err-item-clause-first c =
    let none : slice_get (list_of c.self.inside.by_port c.args.port) 0 ≡ None = sym (c.in_err-item.ensures ∙ ap (λ n. slice_get (list_of c.self.inside.by_port n) 0) c.number.ensures) in
    c.from_residual.ensures ∙ sym (first-none c.self.inside.by_name c.self.inside.by_port c.self.inside.keys.items c.self.inside.free.items (vec_capacity c.self.inside.free) c.self.inside.fresh c.self.invariant.standing c.self.inside.went.items c.args.self.now c.self.view_is c.args.port none)

pub returns-in_err-item-clause-none : goal.returns-in_err-item-clause-none
returns-in_err-item-clause-none c =
    let none : slice_get (list_of c.self.inside.by_port c.args.port) 0 ≡ None = sym (c.in_err-item.ensures ∙ ap (λ n. slice_get (list_of c.self.inside.by_port n) 0) c.number.ensures) in
    rw c.from_residual.ensures (none-on c.self.inside.by_name c.self.inside.by_port c.self.inside.keys.items c.self.inside.free.items (vec_capacity c.self.inside.free) c.self.inside.fresh c.self.invariant.standing c.self.inside.went.items c.args.self.now c.self.view_is c.args.port none)

pub index-requires : goal.index-requires
index-requires c =
    let first : slice_get (list_of c.self.inside.by_port c.args.port) 0 ≡ Some c.in_ok-item.item = sym (c.in_ok-item.ensures ∙ ap (λ n. slice_get (list_of c.self.inside.by_port n) 0) c.number.ensures) in
    let h = first-held c.self.inside.by_name c.self.inside.by_port c.self.inside.keys.items c.self.inside.free.items (vec_capacity c.self.inside.free) c.self.inside.fresh c.self.invariant.standing c.self.inside.went.items c.args.self.now c.self.view_is c.args.port c.in_ok-item.item first in
    let low : c.in_ok-item.item < length c.self.inside.keys.items = slice_get_within c.self.inside.keys.items c.in_ok-item.item h.key (first-key c.self.inside.by_name c.self.inside.by_port c.self.inside.keys.items c.self.inside.free.items (vec_capacity c.self.inside.free) c.self.inside.fresh c.self.invariant.standing c.self.inside.went.items c.args.self.now c.self.view_is c.args.port c.in_ok-item.item first) in omega arith

pub unwrap-entry-requires : goal.unwrap-entry-requires
unwrap-entry-requires c =
    let first : slice_get (list_of c.self.inside.by_port c.args.port) 0 ≡ Some c.in_ok-item.item = sym (c.in_ok-item.ensures ∙ ap (λ n. slice_get (list_of c.self.inside.by_port n) 0) c.number.ensures) in
    let h = first-held c.self.inside.by_name c.self.inside.by_port c.self.inside.keys.items c.self.inside.free.items (vec_capacity c.self.inside.free) c.self.inside.fresh c.self.invariant.standing c.self.inside.went.items c.args.self.now c.self.view_is c.args.port c.in_ok-item.item first in
    let key : slice_get c.self.inside.keys.items c.in_ok-item.item ≡ Some h.key = first-key c.self.inside.by_name c.self.inside.by_port c.self.inside.keys.items c.self.inside.free.items (vec_capacity c.self.inside.free) c.self.inside.fresh c.self.invariant.standing c.self.inside.went.items c.args.self.now c.self.view_is c.args.port c.in_ok-item.item first in
    let named : slice_get c.self.inside.keys.items c.in_ok-item.item ≡ Some c.index.result.now =
    slice_get_read c.self.inside.keys.items (length c.self.inside.keys.items) c.in_ok-item.item c.index.result.now refl (slice_get_within c.self.inside.keys.items c.in_ok-item.item h.key key) c.index.ensures in
    ap is_some (c.get.ensures ∙ ap (map.get c.self.inside.by_name.map) (same_some c.index.result.now h.key (sym named ∙ key)) ∙ h.there)

pub returns-clause-first : goal.returns-clause-first
returns-clause-first c =
    let first : slice_get (list_of c.self.inside.by_port c.args.port) 0 ≡ Some c.in_ok-item.item = sym (c.in_ok-item.ensures ∙ ap (λ n. slice_get (list_of c.self.inside.by_port n) 0) c.number.ensures) in
    let h = first-held c.self.inside.by_name c.self.inside.by_port c.self.inside.keys.items c.self.inside.free.items (vec_capacity c.self.inside.free) c.self.inside.fresh c.self.invariant.standing c.self.inside.went.items c.args.self.now c.self.view_is c.args.port c.in_ok-item.item first in
    let key : slice_get c.self.inside.keys.items c.in_ok-item.item ≡ Some h.key = first-key c.self.inside.by_name c.self.inside.by_port c.self.inside.keys.items c.self.inside.free.items (vec_capacity c.self.inside.free) c.self.inside.fresh c.self.invariant.standing c.self.inside.went.items c.args.self.now c.self.view_is c.args.port c.in_ok-item.item first in
    let named : slice_get c.self.inside.keys.items c.in_ok-item.item ≡ Some c.index.result.now =
    slice_get_read c.self.inside.keys.items (length c.self.inside.keys.items) c.in_ok-item.item c.index.result.now refl (slice_get_within c.self.inside.keys.items c.in_ok-item.item h.key key) c.index.ensures in
    first-some c.self.inside.by_name c.self.inside.by_port c.self.inside.keys.items c.self.inside.free.items (vec_capacity c.self.inside.free) c.self.inside.fresh c.self.invariant.standing c.self.inside.went.items c.args.self.now c.self.view_is c.args.port c.in_ok-item.item first c.index.result.now named c.unwrap-entry.result (sym c.get.ensures ∙ c.unwrap-entry.ensures)

pub returns-clause-some : goal.returns-clause-some
returns-clause-some c =
    let first : slice_get (list_of c.self.inside.by_port c.args.port) 0 ≡ Some c.in_ok-item.item = sym (c.in_ok-item.ensures ∙ ap (λ n. slice_get (list_of c.self.inside.by_port n) 0) c.number.ensures) in
    let h = first-held c.self.inside.by_name c.self.inside.by_port c.self.inside.keys.items c.self.inside.free.items (vec_capacity c.self.inside.free) c.self.inside.fresh c.self.invariant.standing c.self.inside.went.items c.args.self.now c.self.view_is c.args.port c.in_ok-item.item first in
    let key : slice_get c.self.inside.keys.items c.in_ok-item.item ≡ Some h.key = first-key c.self.inside.by_name c.self.inside.by_port c.self.inside.keys.items c.self.inside.free.items (vec_capacity c.self.inside.free) c.self.inside.fresh c.self.invariant.standing c.self.inside.went.items c.args.self.now c.self.view_is c.args.port c.in_ok-item.item first in
    let named : slice_get c.self.inside.keys.items c.in_ok-item.item ≡ Some c.index.result.now =
    slice_get_read c.self.inside.keys.items (length c.self.inside.keys.items) c.in_ok-item.item c.index.result.now refl (slice_get_within c.self.inside.keys.items c.in_ok-item.item h.key key) c.index.ensures in
    first-on c.self.inside.by_name c.self.inside.by_port c.self.inside.keys.items c.self.inside.free.items (vec_capacity c.self.inside.free) c.self.inside.fresh c.self.invariant.standing c.self.inside.went.items c.args.self.now c.self.view_is c.args.port c.in_ok-item.item first c.index.result.now named c.unwrap-entry.result (sym c.get.ensures ∙ c.unwrap-entry.ensures)
