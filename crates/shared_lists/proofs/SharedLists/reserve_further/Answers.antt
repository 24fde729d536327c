use Rattle.std.proofs.Common.{◌*◌, ap, refl, arith, ◌∙◌, length}
use Rattle.slab.specs.Slab.{get}
use Rattle.member_lists.specs.Lists.{ListsView}
use Rattle.shared_lists.proofs.Seen.{Kept}
use Rattle.shared_lists.proofs.Again.{listed_same, listed_longer}
use Rattle.shared_lists.proofs.Roomier.{no_room, shared_longer}
use Rattle.shared_lists.proofs.SharedLists.reserve_further.Goals as goal

pub invariant_of-self : goal.invariant_of-self
invariant_of-self c = (shared_longer c.self.inside.several c.self.inside.places c.self.inside.further c.self.inside.keys (length c.self.inside.lists.items) c.self.invariant.0 c.args.self.now c.self.view_is c.reserve.new.self (λ k. ap (λ (w : Kept). get w k) c.reserve.ensures.rest_kept) c.self.inside.places 0 (no_room c.self.inside.places) c.self.inside.keys refl (length c.self.inside.lists.items) c.self.invariant.0.keyed.fit (omega arith) (let f = c.self.invariant.0.fit in omega arith), listed_same c.self.inside.further c.reserve.new.self c.self.inside.lists.items c.self.invariant.1 (λ k. ap (λ (w : Kept). get w k) c.reserve.ensures.rest_kept))

pub invariant_of-self-in_err-lengthen : goal.invariant_of-self-in_err-lengthen
invariant_of-self-in_err-lengthen c = (shared_longer c.self.inside.several c.self.inside.places c.self.inside.further c.self.inside.keys (length c.self.inside.lists.items) c.self.invariant.0 c.args.self.now c.self.view_is c.reserve.new.self (λ k. ap (λ (w : Kept). get w k) c.reserve.ensures.rest_kept) c.lengthen.new.places 0 (c.in_err-lengthen.ensures.err.places ∙ no_room c.self.inside.places) c.lengthen.new.keys c.in_err-lengthen.ensures.err.lists (length c.self.inside.lists.items) (let f = c.self.invariant.0.keyed.fit in let g = c.in_err-lengthen.ensures.err.longer in omega arith) (omega arith) (let f = c.self.invariant.0.fit in omega arith), listed_same c.self.inside.further c.reserve.new.self c.self.inside.lists.items c.self.invariant.1 (λ k. ap (λ (w : Kept). get w k) c.reserve.ensures.rest_kept))

pub invariant_of-self-in_err-lengthen_row : goal.invariant_of-self-in_err-lengthen_row
invariant_of-self-in_err-lengthen_row c = rw c.in_err-lengthen_row.ensures.err (
  shared_longer c.self.inside.several c.self.inside.places c.self.inside.further c.self.inside.keys (length c.self.inside.lists.items) c.self.invariant.0 c.args.self.now c.self.view_is c.reserve.new.self (λ k. ap (λ (w : Kept). get w k) c.reserve.ensures.rest_kept) c.lengthen.new.places (2 * c.capacity-most.result) c.in_ok-lengthen.ensures.ok.places c.lengthen.new.keys (ap (λ (w : ListsView). w.lists) c.in_ok-lengthen.ensures.ok.longer) (length c.self.inside.lists.items) (let e = ap (λ (w : ListsView). w.items) c.in_ok-lengthen.ensures.ok.longer in let f = c.self.invariant.0.keyed.fit in omega arith) (let f = c.in_ok-lengthen.ensures.ok.few in omega arith) (let f = c.self.invariant.0.fit in omega arith),
  listed_same c.self.inside.further c.reserve.new.self c.self.inside.lists.items c.self.invariant.1 (λ k. ap (λ (w : Kept). get w k) c.reserve.ensures.rest_kept),
)

pub invariant_of-self-in-Continue-branch-3 : goal.invariant_of-self-in-Continue-branch-3
invariant_of-self-in-Continue-branch-3 c = (
  rw c.in_ok-lengthen_row.ensures.ok (shared_longer c.self.inside.several c.self.inside.places c.self.inside.further c.self.inside.keys (length c.self.inside.lists.items) c.self.invariant.0 c.args.self.now c.self.view_is c.reserve.new.self (λ k. ap (λ (w : Kept). get w k) c.reserve.ensures.rest_kept) c.lengthen.new.places (2 * c.capacity-most.result) c.in_ok-lengthen.ensures.ok.places c.lengthen.new.keys (ap (λ (w : ListsView). w.lists) c.in_ok-lengthen.ensures.ok.longer) c.capacity-most.result (let e = ap (λ (w : ListsView). w.items) c.in_ok-lengthen.ensures.ok.longer in omega arith) (let f = c.in_ok-lengthen.ensures.ok.few in omega arith) (omega arith)),
  listed_longer c.reserve.new.self c.self.inside.lists.items _ (listed_same c.self.inside.further c.reserve.new.self c.self.inside.lists.items c.self.invariant.1 (λ k. ap (λ (w : Kept). get w k) c.reserve.ensures.rest_kept)) c.lengthen_row.ensures.stays,
)

pub invariant_of-self-else-most-len : goal.invariant_of-self-else-most-len
invariant_of-self-else-most-len c = (shared_longer c.self.inside.several c.self.inside.places c.self.inside.further c.self.inside.keys (length c.self.inside.lists.items) c.self.invariant.0 c.args.self.now c.self.view_is c.reserve.new.self (λ k. ap (λ (w : Kept). get w k) c.reserve.ensures.rest_kept) c.self.inside.places 0 (no_room c.self.inside.places) c.self.inside.keys refl (length c.self.inside.lists.items) c.self.invariant.0.keyed.fit (omega arith) (let f = c.self.invariant.0.fit in omega arith), listed_same c.self.inside.further c.reserve.new.self c.self.inside.lists.items c.self.invariant.1 (λ k. ap (λ (w : Kept). get w k) c.reserve.ensures.rest_kept))
