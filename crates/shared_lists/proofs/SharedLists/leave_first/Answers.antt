use Rattle.std.proofs.Common.{◌∷◌, refl, sym, ap, ◌∙◌, slice_get, length}
use Rattle.member_lists.specs.Lists.{list_of}
use Rattle.shared_lists.specs.Shared.{SharedView, more_of}
use Rattle.shared_lists.specs.Places.{seen, room_in}
use Rattle.shared_lists.proofs.Parted.{key_there, far_low, room_more}
use Rattle.shared_lists.proofs.Promoted.{first_inside, key_item, first_more, if_none, own_here, own_low, own_marked, own_single, no_more, shared_out, seen_out, by_room, by_there, by_apart, by_mark, no_keys, out_apart, own_promoted, shared_promoted, seen_promoted}
use Rattle.shared_lists.proofs.Leaving.{none_lists, more_left, not_more, first_there, apart_there, first_once}
use Rattle.shared_lists.proofs.Again.{listed_out}
use Rattle.shared_lists.proofs.SharedLists.leave_first.Goals as goal

pub own_place-place-requires : goal.own_place-place-requires
own_place-place-requires c = own_low c.self.inside.several c.self.inside.places c.self.inside.further c.self.inside.keys (length c.self.inside.lists.items) c.self.invariant.0 c.args.self.now c.self.view_is c.args.own c.args.item c.requires.first

pub part-requires-clause-there : goal.part-requires-clause-there
part-requires-clause-there c = rw c.own_place-place.ensures (own_here c.self.inside.several c.self.inside.places c.self.inside.further c.self.inside.keys (length c.self.inside.lists.items) c.self.invariant.0 c.args.self.now c.self.view_is c.args.own c.args.item c.requires.first)

pub part-requires-clause-marked : goal.part-requires-clause-marked
part-requires-clause-marked c = rw c.own_place-place.ensures (own_marked c.self.inside.several c.self.inside.places c.self.inside.further c.self.inside.keys (length c.self.inside.lists.items) c.self.invariant.0 c.args.self.now c.self.view_is c.args.own c.args.item c.requires.first c.args.is_ready c.requires.ready)

pub part-requires-clause-single : goal.part-requires-clause-single
part-requires-clause-single c = rw c.own_place-place.ensures (own_single c.self.inside.several c.self.inside.places c.self.inside.further c.self.inside.keys (length c.self.inside.lists.items) c.self.invariant.0 c.args.self.now c.self.view_is c.args.own c.args.item c.requires.first)

pub invariant_of-self : goal.invariant_of-self
invariant_of-self c = (shared_out c.self.inside.several c.self.inside.places c.self.inside.further c.self.inside.keys (length c.self.inside.lists.items) c.self.invariant.0 c.args.self.now c.self.view_is c.args.own c.args.item c.requires.first c.args.is_ready c.requires.ready (sym c.in_err-key.was ∙ c.first.ensures) c.own_place-place.result c.own_place-place.ensures c.part.new.places c.part.ensures, c.self.invariant.1)

pub returns-in_err-key-clause-result : goal.returns-in_err-key-clause-result
returns-in_err-key-clause-result c = c.from_residual.ensures ∙ ap (λ xs. slice_get xs 0) (sym (no_more c.self.inside.several c.self.inside.places c.self.inside.further c.self.inside.keys (length c.self.inside.lists.items) c.self.invariant.0 c.args.self.now c.self.view_is c.args.own c.args.item c.requires.first c.args.is_ready c.requires.ready (sym c.in_err-key.was ∙ c.first.ensures)))

pub returns-in_err-key-clause-none : goal.returns-in_err-key-clause-none
returns-in_err-key-clause-none c = if_none _ _ (seen_out c.self.inside.several c.self.inside.places c.self.inside.further c.self.inside.keys (length c.self.inside.lists.items) c.self.invariant.0 c.args.self.now c.self.view_is c.args.own c.args.item c.requires.first c.args.is_ready c.requires.ready (sym c.in_err-key.was ∙ c.first.ensures) c.own_place-place.result c.own_place-place.ensures c.part.new.places c.part.ensures)

pub remove-list-requires : goal.remove-list-requires
remove-list-requires c = key_there c.self.inside.several c.self.inside.places c.self.inside.further c.self.inside.keys (length c.self.inside.lists.items) c.self.invariant.0 c.args.self.now c.self.view_is c.args.item c.in_ok-key.key (first_inside (list_of c.self.inside.keys c.args.item) c.in_ok-key.key (sym c.first.ensures ∙ c.in_ok-key.was))

pub further_place-further-requires : goal.further_place-further-requires
further_place-further-requires c = far_low c.self.inside.several c.self.inside.places c.self.inside.further c.self.inside.keys (length c.self.inside.lists.items) c.self.invariant.0 c.args.self.now c.self.view_is c.in_ok-key.key c.remove-list.result c.remove-list.ensures.value

pub replace-requires-clause-room : goal.replace-requires-clause-room
replace-requires-clause-room c = by_room c.self.inside.several c.self.inside.places c.self.inside.further c.self.inside.keys (length c.self.inside.lists.items) c.self.invariant.0 c.args.self.now c.self.view_is c.args.own c.args.item c.requires.first c.in_ok-key.key c.remove-list.result c.remove-list.ensures.value (key_item c.self.inside.several c.self.inside.places c.self.inside.further c.self.inside.keys (length c.self.inside.lists.items) c.self.invariant.0 c.args.self.now c.self.view_is c.args.item c.in_ok-key.key c.remove-list.result c.remove-list.ensures.value (first_inside (list_of c.self.inside.keys c.args.item) c.in_ok-key.key (sym c.first.ensures ∙ c.in_ok-key.was))) c.args.is_ready c.requires.ready c.own_place-place.result c.own_place-place.ensures c.part.new.places c.part.ensures

pub replace-requires-clause-there : goal.replace-requires-clause-there
replace-requires-clause-there c = by_there c.self.inside.several c.self.inside.places c.self.inside.further c.self.inside.keys (length c.self.inside.lists.items) c.self.invariant.0 c.args.self.now c.self.view_is c.args.own c.args.item c.requires.first c.in_ok-key.key c.remove-list.result c.remove-list.ensures.value (key_item c.self.inside.several c.self.inside.places c.self.inside.further c.self.inside.keys (length c.self.inside.lists.items) c.self.invariant.0 c.args.self.now c.self.view_is c.args.item c.in_ok-key.key c.remove-list.result c.remove-list.ensures.value (first_inside (list_of c.self.inside.keys c.args.item) c.in_ok-key.key (sym c.first.ensures ∙ c.in_ok-key.was))) c.args.is_ready c.requires.ready c.own_place-place.result c.own_place-place.ensures c.part.new.places c.part.ensures c.further_place-further.result c.further_place-further.ensures

pub replace-requires-clause-apart : goal.replace-requires-clause-apart
replace-requires-clause-apart c = by_apart c.self.inside.several c.self.inside.places c.self.inside.further c.self.inside.keys (length c.self.inside.lists.items) c.self.invariant.0 c.args.self.now c.self.view_is c.args.own c.args.item c.requires.first c.in_ok-key.key c.remove-list.result c.remove-list.ensures.value (key_item c.self.inside.several c.self.inside.places c.self.inside.further c.self.inside.keys (length c.self.inside.lists.items) c.self.invariant.0 c.args.self.now c.self.view_is c.args.item c.in_ok-key.key c.remove-list.result c.remove-list.ensures.value (first_inside (list_of c.self.inside.keys c.args.item) c.in_ok-key.key (sym c.first.ensures ∙ c.in_ok-key.was))) c.args.is_ready c.requires.ready c.own_place-place.result c.own_place-place.ensures c.part.new.places c.part.ensures

pub replace-requires-clause-marked : goal.replace-requires-clause-marked
replace-requires-clause-marked c = by_mark c.self.inside.several c.self.inside.places c.self.inside.further c.self.inside.keys (length c.self.inside.lists.items) c.self.invariant.0 c.args.self.now c.self.view_is c.args.own c.args.item c.requires.first c.in_ok-key.key c.remove-list.result c.remove-list.ensures.value (key_item c.self.inside.several c.self.inside.places c.self.inside.further c.self.inside.keys (length c.self.inside.lists.items) c.self.invariant.0 c.args.self.now c.self.view_is c.args.item c.in_ok-key.key c.remove-list.result c.remove-list.ensures.value (first_inside (list_of c.self.inside.keys c.args.item) c.in_ok-key.key (sym c.first.ensures ∙ c.in_ok-key.was))) c.args.is_ready c.requires.ready c.own_place-place.result c.own_place-place.ensures c.part.new.places c.part.ensures c.further_place-further.result c.further_place-further.ensures

pub invariant_of-self-2 : goal.invariant_of-self-2
invariant_of-self-2 c = (shared_promoted c.self.inside.several c.self.inside.places c.self.inside.further c.self.inside.keys (length c.self.inside.lists.items) c.self.invariant.0 c.args.self.now c.self.view_is c.args.own c.args.item c.requires.first c.in_ok-key.key c.remove-list.result c.remove-list.ensures.value (key_item c.self.inside.several c.self.inside.places c.self.inside.further c.self.inside.keys (length c.self.inside.lists.items) c.self.invariant.0 c.args.self.now c.self.view_is c.args.item c.in_ok-key.key c.remove-list.result c.remove-list.ensures.value (first_inside (list_of c.self.inside.keys c.args.item) c.in_ok-key.key (sym c.first.ensures ∙ c.in_ok-key.was))) c.args.is_ready c.requires.ready c.remove-list.new.self c.remove-list.ensures.updates c.remove-list.ensures.len c.remove-list.ensures.capacity c.own_place-place.result c.own_place-place.ensures c.part.new.places c.part.ensures c.further_place-further.result c.further_place-further.ensures c.replace.new.self c.replace.ensures c.remove.new.self c.remove.ensures, listed_out c.self.inside.further c.remove-list.new.self _ c.self.inside.lists.items c.self.invariant.1 c.remove-list.ensures.updates)

pub returns-clause-result : goal.returns-clause-result
returns-clause-result c = first_more c.self.inside.several c.self.inside.places c.self.inside.further c.self.inside.keys (length c.self.inside.lists.items) c.self.invariant.0 c.args.self.now c.self.view_is c.args.item c.in_ok-key.key c.remove-list.result c.remove-list.ensures.value (sym c.first.ensures ∙ c.in_ok-key.was)

pub returns-clause-some : goal.returns-clause-some
returns-clause-some c = seen_promoted c.self.inside.several c.self.inside.places c.self.inside.further c.self.inside.keys (length c.self.inside.lists.items) c.self.invariant.0 c.args.self.now c.self.view_is c.args.own c.args.item c.requires.first c.in_ok-key.key c.remove-list.result c.remove-list.ensures.value (key_item c.self.inside.several c.self.inside.places c.self.inside.further c.self.inside.keys (length c.self.inside.lists.items) c.self.invariant.0 c.args.self.now c.self.view_is c.args.item c.in_ok-key.key c.remove-list.result c.remove-list.ensures.value (first_inside (list_of c.self.inside.keys c.args.item) c.in_ok-key.key (sym c.first.ensures ∙ c.in_ok-key.was))) c.args.is_ready c.requires.ready c.remove-list.new.self c.remove-list.ensures.updates c.remove-list.ensures.len c.remove-list.ensures.capacity c.own_place-place.result c.own_place-place.ensures c.part.new.places c.part.ensures c.further_place-further.result c.further_place-further.ensures c.replace.new.self c.replace.ensures c.remove.new.self c.remove.ensures

pub returns-clause-room : goal.returns-clause-room
returns-clause-room c = room_more c.self.inside.several c.self.inside.places c.self.inside.further c.self.inside.keys (length c.self.inside.lists.items) c.self.invariant.0 c.args.self.now c.self.view_is c.in_ok-key.key c.remove-list.result c.remove-list.ensures.value c.remove-list.new.self c.remove-list.ensures.updates c.remove-list.ensures.len c.remove-list.ensures.capacity

pub returns-in_err-key-clause-apart : goal.returns-in_err-key-clause-apart
returns-in_err-key-clause-apart c = if_none _ _ (apart_there c.self.inside.several c.part.new.places c.self.inside.further c.self.inside.keys (length c.self.inside.lists.items) (shared_out c.self.inside.several c.self.inside.places c.self.inside.further c.self.inside.keys (length c.self.inside.lists.items) c.self.invariant.0 c.args.self.now c.self.view_is c.args.own c.args.item c.requires.first c.args.is_ready c.requires.ready (sym c.in_err-key.was ∙ c.first.ensures) c.own_place-place.result c.own_place-place.ensures c.part.new.places c.part.ensures) (seen c.self.inside.several c.part.new.places c.self.inside.further c.self.inside.keys (length c.self.inside.lists.items)) refl c.args.item (no_keys c.self.inside.several c.self.inside.places c.self.inside.further c.self.inside.keys (length c.self.inside.lists.items) c.self.invariant.0 c.args.self.now c.self.view_is c.args.own c.args.item c.requires.first c.args.is_ready c.requires.ready (sym c.in_err-key.was ∙ c.first.ensures)) (out_apart c.self.inside.several c.self.inside.places c.self.inside.further c.self.inside.keys (length c.self.inside.lists.items) c.self.invariant.0 c.args.self.now c.self.view_is c.args.own c.args.item c.requires.first c.args.is_ready c.requires.ready (sym c.in_err-key.was ∙ c.first.ensures) c.own_place-place.result c.own_place-place.ensures c.part.new.places c.part.ensures))

pub returns-clause-first : goal.returns-clause-first
returns-clause-first c = first_there c.self.inside.several c.replace.new.self c.remove-list.new.self c.remove.new.self (length c.self.inside.lists.items) (shared_promoted c.self.inside.several c.self.inside.places c.self.inside.further c.self.inside.keys (length c.self.inside.lists.items) c.self.invariant.0 c.args.self.now c.self.view_is c.args.own c.args.item c.requires.first c.in_ok-key.key c.remove-list.result c.remove-list.ensures.value (key_item c.self.inside.several c.self.inside.places c.self.inside.further c.self.inside.keys (length c.self.inside.lists.items) c.self.invariant.0 c.args.self.now c.self.view_is c.args.item c.in_ok-key.key c.remove-list.result c.remove-list.ensures.value (first_inside (list_of c.self.inside.keys c.args.item) c.in_ok-key.key (sym c.first.ensures ∙ c.in_ok-key.was))) c.args.is_ready c.requires.ready c.remove-list.new.self c.remove-list.ensures.updates c.remove-list.ensures.len c.remove-list.ensures.capacity c.own_place-place.result c.own_place-place.ensures c.part.new.places c.part.ensures c.further_place-further.result c.further_place-further.ensures c.replace.new.self c.replace.ensures c.remove.new.self c.remove.ensures) (seen c.self.inside.several c.replace.new.self c.remove-list.new.self c.remove.new.self (length c.self.inside.lists.items)) refl c.remove-list.result.list c.args.item (own_promoted c.self.inside.several c.self.inside.places c.self.inside.further c.self.inside.keys (length c.self.inside.lists.items) c.self.invariant.0 c.args.self.now c.self.view_is c.args.own c.args.item c.requires.first c.in_ok-key.key c.remove-list.result c.remove-list.ensures.value (key_item c.self.inside.several c.self.inside.places c.self.inside.further c.self.inside.keys (length c.self.inside.lists.items) c.self.invariant.0 c.args.self.now c.self.view_is c.args.item c.in_ok-key.key c.remove-list.result c.remove-list.ensures.value (first_inside (list_of c.self.inside.keys c.args.item) c.in_ok-key.key (sym c.first.ensures ∙ c.in_ok-key.was))) c.args.is_ready c.requires.ready c.remove-list.new.self c.remove-list.ensures.updates c.remove-list.ensures.len c.remove-list.ensures.capacity c.own_place-place.result c.own_place-place.ensures c.part.new.places c.part.ensures c.further_place-further.result c.further_place-further.ensures c.replace.new.self c.replace.ensures c.remove.new.self c.remove.ensures) (not_more c.args.self.now (seen c.self.inside.several c.replace.new.self c.remove-list.new.self c.remove.new.self (length c.self.inside.lists.items)) c.args.own c.args.item c.remove-list.result.list (room_in c.remove-list.new.self (length c.self.inside.lists.items)) c.args.is_ready (seen_promoted c.self.inside.several c.self.inside.places c.self.inside.further c.self.inside.keys (length c.self.inside.lists.items) c.self.invariant.0 c.args.self.now c.self.view_is c.args.own c.args.item c.requires.first c.in_ok-key.key c.remove-list.result c.remove-list.ensures.value (key_item c.self.inside.several c.self.inside.places c.self.inside.further c.self.inside.keys (length c.self.inside.lists.items) c.self.invariant.0 c.args.self.now c.self.view_is c.args.item c.in_ok-key.key c.remove-list.result c.remove-list.ensures.value (first_inside (list_of c.self.inside.keys c.args.item) c.in_ok-key.key (sym c.first.ensures ∙ c.in_ok-key.was))) c.args.is_ready c.requires.ready c.remove-list.new.self c.remove-list.ensures.updates c.remove-list.ensures.len c.remove-list.ensures.capacity c.own_place-place.result c.own_place-place.ensures c.part.new.places c.part.ensures c.further_place-further.result c.further_place-further.ensures c.replace.new.self c.replace.ensures c.remove.new.self c.remove.ensures))

pub returns-clause-lists : goal.returns-clause-lists
returns-clause-lists c = ap (λ ls. c.remove-list.result.list ∷ ls) (more_left c.args.self.now (seen c.self.inside.several c.replace.new.self c.remove-list.new.self c.remove.new.self (length c.self.inside.lists.items)) c.args.own c.args.item c.remove-list.result.list (room_in c.remove-list.new.self (length c.self.inside.lists.items)) c.args.is_ready (seen_promoted c.self.inside.several c.self.inside.places c.self.inside.further c.self.inside.keys (length c.self.inside.lists.items) c.self.invariant.0 c.args.self.now c.self.view_is c.args.own c.args.item c.requires.first c.in_ok-key.key c.remove-list.result c.remove-list.ensures.value (key_item c.self.inside.several c.self.inside.places c.self.inside.further c.self.inside.keys (length c.self.inside.lists.items) c.self.invariant.0 c.args.self.now c.self.view_is c.args.item c.in_ok-key.key c.remove-list.result c.remove-list.ensures.value (first_inside (list_of c.self.inside.keys c.args.item) c.in_ok-key.key (sym c.first.ensures ∙ c.in_ok-key.was))) c.args.is_ready c.requires.ready c.remove-list.new.self c.remove-list.ensures.updates c.remove-list.ensures.len c.remove-list.ensures.capacity c.own_place-place.result c.own_place-place.ensures c.part.new.places c.part.ensures c.further_place-further.result c.further_place-further.ensures c.replace.new.self c.replace.ensures c.remove.new.self c.remove.ensures)) ∙ first_once c.self.inside.several c.self.inside.places c.self.inside.further c.self.inside.keys (length c.self.inside.lists.items) c.self.invariant.0 c.args.self.now c.self.view_is c.args.item c.in_ok-key.key c.remove-list.result c.remove-list.ensures.value (key_item c.self.inside.several c.self.inside.places c.self.inside.further c.self.inside.keys (length c.self.inside.lists.items) c.self.invariant.0 c.args.self.now c.self.view_is c.args.item c.in_ok-key.key c.remove-list.result c.remove-list.ensures.value (first_inside (list_of c.self.inside.keys c.args.item) c.in_ok-key.key (sym c.first.ensures ∙ c.in_ok-key.was))) (sym c.first.ensures ∙ c.in_ok-key.was)

pub returns-in_err-key-clause-lists : goal.returns-in_err-key-clause-lists
returns-in_err-key-clause-lists c = none_lists c.from_residual.result c.from_residual.ensures _ _ (ap (λ (w : SharedView). more_of w c.args.item) (seen_out c.self.inside.several c.self.inside.places c.self.inside.further c.self.inside.keys (length c.self.inside.lists.items) c.self.invariant.0 c.args.self.now c.self.view_is c.args.own c.args.item c.requires.first c.args.is_ready c.requires.ready (sym c.in_err-key.was ∙ c.first.ensures) c.own_place-place.result c.own_place-place.ensures c.part.new.places c.part.ensures))
