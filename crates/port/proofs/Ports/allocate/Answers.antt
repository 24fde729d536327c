use Rattle.std.proofs.Common.{◌≡◌, ◌+◌, ◌<◌, ◌^◌, ℕ, Bool, false, cond, Option, Some, None, refl, ap, sym, ◌∙◌, List, [], max, arith}
use Rattle.std.specs.FinMap as map
use Rattle.number_map.specs.Maps.{MapView}
use Rattle.member_lists.specs.Lists.{ListsView}
use Rattle.shared_lists.specs.Shared.{SharedView}
use Rattle.port_base.specs.declared.Attributes.{Attributes}
use Rattle.port_base.specs.declared.Record.{Record}
use Rattle.port_base.specs.Attributes.{first_attributes}
use Rattle.port_base.specs.Holders.{KeptView}
use Rattle.port_base.specs.Memberships.{alone_in}
use Rattle.port_base.specs.Records.{noted_list, waits_in}
use Rattle.rights.specs.declared.Counts.{Counts}
use Rattle.rights.specs.declared.RightKind.TheVariants.{Receive}
use Rattle.rights.specs.Counts.{no_rights, with_more}
use Rattle.slab.specs.Slab.{get}
use Rattle.std.specs.Ordering.{nat_cmp}
use Rattle.port.specs.Ports.{PortView, PortsView}
use Rattle.port.specs.Records.{made_of, rights_of}
use Rattle.port.proofs.Grown.{widened, kept-came, view-came, made_more, next_in_range, rights-widened}
use Rattle.port.proofs.Records.{rights-came}
use Rattle.port.proofs.Readied.{on_err}
use Rattle.port.proofs.Sound.{bare_is, counts_is, places_are, all_are, opened}
use Rattle.port.proofs.Ports.allocate.Goals as goal

-- what is kept of a port with these attributes that isn't noted
abbrev first_kept : Attributes → KeptView
first_kept b = record { attributes = b; membership = alone_in b.set; is_noted = false }

abbrev notes : Bool → Option ℕ
notes b = cond b (Some noted_list) None

pub invariant_of-self-2 : goal.invariant_of-self-2
invariant_of-self-2 g c =
    let o = widened (opened c.self.invariant (bare_is c.self.view_is)) c.reserve_record.ensures.rest_kept (ap (λ (w : MapView ℕ). w.map) c.in_ok-reserve.ensures.ok) (max c.self.inside.sets.all.items c.capacity-keys.result) (max c.self.inside.sets.ready.items c.capacity-keys.result) c.self.inside.sets.room c.in_ok-reserve-2.ensures.ok (omega arith) (max c.self.inside.waiting.items c.capacity-keys.result) c.in_ok-reserve-3.ensures.ok (omega arith) (max c.self.inside.noted.items c.capacity-keys.result) c.in_ok-reserve-4.ensures.ok (omega arith) in
    let a : Record g.row.M.Denot = record { id = c.new-id.result; queue = c.new.result; kept = c.new-2.result; counts = c.first-2.result } in
    let number : made_of c.self.inside.next ≡ c.unwrap-number.result = ap made_of c.unwrap-number.ensures in
    let few : c.unwrap-number.result < 2 ^ 64 = c.self.invariant.sound.next_fits c.unwrap-number.result c.unwrap-number.ensures in
    let put : c.insert.new.self.map ≡ map.insert c.reserve.new.self.map (made_of c.self.inside.next) c.insert_reserved-key.result =
    ap (λ (w : MapView ℕ). w.map) c.insert.ensures ∙ ap (λ k. map.insert c.reserve.new.self.map c.unwrap-number.result k) c.narrow.ensures ∙ ap (λ n. map.insert c.reserve.new.self.map n c.insert_reserved-key.result) (sym number) in
    let kept_is : c.new-2.result ≡ first_kept (first_attributes c.args.task) = c.new-2.ensures ∙ ap first_kept c.first.ensures in
    let fits : c.insert_reserved-key.result < c.reserve-2.new.self.all.items = (let e = ap (λ (u : SharedView). u.all.items) c.in_ok-reserve-2.ensures.ok in omega (arith, c.insert_reserved-key.ensures.key_in_range, c.insert_reserved-key.ensures.capacity, c.capacity-keys.ensures.value)) in
    let waits_fit : c.insert_reserved-key.result < c.reserve-3.new.self.items = (let e = ap (λ (u : ListsView). u.items) c.in_ok-reserve-3.ensures.ok in omega (arith, c.insert_reserved-key.ensures.key_in_range, c.insert_reserved-key.ensures.capacity, c.capacity-keys.ensures.value)) in
    let notes_fit : c.insert_reserved-key.result < c.reserve-4.new.self.items = (let e = ap (λ (u : ListsView). u.items) c.in_ok-reserve-4.ensures.ok in omega (arith, c.insert_reserved-key.ensures.key_in_range, c.insert_reserved-key.ensures.capacity, c.capacity-keys.ensures.value)) in
    kept-came o c.insert_reserved-key.new.self c.insert.new.self.map c.checked_add-self-inside.result c.insert_reserved-key.result a c.insert_reserved-key.ensures.was_vacant c.insert_reserved-key.ensures.updates.changed c.insert_reserved-key.ensures.updates.others (c.new-id.ensures ∙ sym number) c.new.ensures
    (ap (λ (k : KeptView). k.attributes.set) kept_is) (ap (λ (k : KeptView). k.membership) kept_is) fits waits_fit notes_fit (ap (λ (k : KeptView). waits_in k.attributes.holder) kept_is) (ap (λ (k : KeptView). notes k.is_noted) kept_is) put
    (made_more c.checked_add-self-inside.result c.unwrap-number.result c.checked_add-self-inside.ensures few ∙ ap (λ n. n + 1) (sym number)) (next_in_range c.checked_add-self-inside.result c.unwrap-number.result c.checked_add-self-inside.ensures)

pub returns-clause-ok : goal.returns-clause-ok
returns-clause-ok g c =
    let o = widened (opened c.self.invariant (bare_is c.self.view_is)) c.reserve_record.ensures.rest_kept (ap (λ (w : MapView ℕ). w.map) c.in_ok-reserve.ensures.ok) (max c.self.inside.sets.all.items c.capacity-keys.result) (max c.self.inside.sets.ready.items c.capacity-keys.result) c.self.inside.sets.room c.in_ok-reserve-2.ensures.ok (omega arith) (max c.self.inside.waiting.items c.capacity-keys.result) c.in_ok-reserve-3.ensures.ok (omega arith) (max c.self.inside.noted.items c.capacity-keys.result) c.in_ok-reserve-4.ensures.ok (omega arith) in
    let a : Record g.row.M.Denot = record { id = c.new-id.result; queue = c.new.result; kept = c.new-2.result; counts = c.first-2.result } in
    let number : made_of c.self.inside.next ≡ c.unwrap-number.result = ap made_of c.unwrap-number.ensures in
    let few : c.unwrap-number.result < 2 ^ 64 = c.self.invariant.sound.next_fits c.unwrap-number.result c.unwrap-number.ensures in
    let put : c.insert.new.self.map ≡ map.insert c.reserve.new.self.map (made_of c.self.inside.next) c.insert_reserved-key.result =
    ap (λ (w : MapView ℕ). w.map) c.insert.ensures ∙ ap (λ k. map.insert c.reserve.new.self.map c.unwrap-number.result k) c.narrow.ensures ∙ ap (λ n. map.insert c.reserve.new.self.map n c.insert_reserved-key.result) (sym number) in
    let kept_is : c.new-2.result ≡ first_kept (first_attributes c.args.task) = c.new-2.ensures ∙ ap first_kept c.first.ensures in
    let fits : c.insert_reserved-key.result < c.reserve-2.new.self.all.items = (let e = ap (λ (u : SharedView). u.all.items) c.in_ok-reserve-2.ensures.ok in omega (arith, c.insert_reserved-key.ensures.key_in_range, c.insert_reserved-key.ensures.capacity, c.capacity-keys.ensures.value)) in
    let waits_fit : c.insert_reserved-key.result < c.reserve-3.new.self.items = (let e = ap (λ (u : ListsView). u.items) c.in_ok-reserve-3.ensures.ok in omega (arith, c.insert_reserved-key.ensures.key_in_range, c.insert_reserved-key.ensures.capacity, c.capacity-keys.ensures.value)) in
    let notes_fit : c.insert_reserved-key.result < c.reserve-4.new.self.items = (let e = ap (λ (u : ListsView). u.items) c.in_ok-reserve-4.ensures.ok in omega (arith, c.insert_reserved-key.ensures.key_in_range, c.insert_reserved-key.ensures.capacity, c.capacity-keys.ensures.value)) in
    view-came o c.insert_reserved-key.new.self c.insert.new.self.map c.checked_add-self-inside.result c.insert_reserved-key.result a c.insert_reserved-key.ensures.was_vacant c.insert_reserved-key.ensures.updates.changed c.insert_reserved-key.ensures.updates.others (c.new-id.ensures ∙ sym number) c.new.ensures
    (ap (λ (k : KeptView). k.attributes.set) kept_is) (ap (λ (k : KeptView). k.membership) kept_is) fits waits_fit notes_fit (ap (λ (k : KeptView). waits_in k.attributes.holder) kept_is) (ap (λ (k : KeptView). notes k.is_noted) kept_is) put
    (made_more c.checked_add-self-inside.result c.unwrap-number.result c.checked_add-self-inside.ensures few ∙ ap (λ n. n + 1) (sym number)) (next_in_range c.checked_add-self-inside.result c.unwrap-number.result c.checked_add-self-inside.ensures)
    (record { queue = []; attributes = first_attributes c.args.task; more = [] })
    (ap (λ (l : List g.row.M.Denot). let q : PortView g.row.M.Denot = record { queue = l; attributes = c.new-2.result.attributes; more = [] } in q) c.new.ensures ∙ ap (λ (k : KeptView). let q : PortView g.row.M.Denot = record { queue = []; attributes = k.attributes; more = [] } in q) kept_is)

pub invariant_of-self : goal.invariant_of-self
invariant_of-self g c =
    (widened (opened c.self.invariant (bare_is c.self.view_is)) c.reserve_record.ensures.rest_kept refl c.self.inside.sets.all.items c.self.inside.sets.ready.items c.self.inside.sets.room refl (omega arith) c.self.inside.waiting.items refl (omega arith) c.self.inside.noted.items refl (omega arith)).kept

pub invariant_of-self-in_err-reserve : goal.invariant_of-self-in_err-reserve
invariant_of-self-in_err-reserve g c =
    (widened (opened c.self.invariant (bare_is c.self.view_is)) c.reserve_record.ensures.rest_kept (ap (λ (w : MapView ℕ). w.map) c.in_err-reserve.ensures.err) c.self.inside.sets.all.items c.self.inside.sets.ready.items c.self.inside.sets.room refl (omega arith) c.self.inside.waiting.items refl (omega arith) c.self.inside.noted.items refl (omega arith)).kept

pub invariant_of-self-in_err-reserve-2 : goal.invariant_of-self-in_err-reserve-2
invariant_of-self-in_err-reserve-2 g c =
    (widened (opened c.self.invariant (bare_is c.self.view_is)) c.reserve_record.ensures.rest_kept (ap (λ (w : MapView ℕ). w.map) c.in_ok-reserve.ensures.ok) c.self.inside.sets.all.items c.self.inside.sets.ready.items c.self.inside.sets.room c.in_err-reserve-2.ensures.err (omega arith) c.self.inside.waiting.items refl (omega arith) c.self.inside.noted.items refl (omega arith)).kept

pub invariant_of-self-in_err-reserve-3 : goal.invariant_of-self-in_err-reserve-3
invariant_of-self-in_err-reserve-3 g c =
    (widened (opened c.self.invariant (bare_is c.self.view_is)) c.reserve_record.ensures.rest_kept (ap (λ (w : MapView ℕ). w.map) c.in_ok-reserve.ensures.ok) (max c.self.inside.sets.all.items c.capacity-keys.result) (max c.self.inside.sets.ready.items c.capacity-keys.result) c.self.inside.sets.room c.in_ok-reserve-2.ensures.ok (omega arith) c.self.inside.waiting.items c.in_err-reserve-3.ensures.err (omega arith) c.self.inside.noted.items refl (omega arith)).kept

pub invariant_of-self-in_err-reserve-4 : goal.invariant_of-self-in_err-reserve-4
invariant_of-self-in_err-reserve-4 g c =
    (widened (opened c.self.invariant (bare_is c.self.view_is)) c.reserve_record.ensures.rest_kept (ap (λ (w : MapView ℕ). w.map) c.in_ok-reserve.ensures.ok) (max c.self.inside.sets.all.items c.capacity-keys.result) (max c.self.inside.sets.ready.items c.capacity-keys.result) c.self.inside.sets.room c.in_ok-reserve-2.ensures.ok (omega arith) (max c.self.inside.waiting.items c.capacity-keys.result) c.in_ok-reserve-3.ensures.ok (omega arith) c.self.inside.noted.items c.in_err-reserve-4.ensures.err (omega arith)).kept

pub returns-in_err-reserve-3-clause-err : goal.returns-in_err-reserve-3-clause-err
returns-in_err-reserve-3-clause-err g c =
    on_err _ _ (all_are (widened (opened c.self.invariant (bare_is c.self.view_is)) c.reserve_record.ensures.rest_kept (ap (λ (w : MapView ℕ). w.map) c.in_ok-reserve.ensures.ok) (max c.self.inside.sets.all.items c.capacity-keys.result) (max c.self.inside.sets.ready.items c.capacity-keys.result) c.self.inside.sets.room c.in_ok-reserve-2.ensures.ok (omega arith) c.self.inside.waiting.items c.in_err-reserve-3.ensures.err (omega arith) c.self.inside.noted.items refl (omega arith)).view_is (rights-widened c.self.inside.records c.reserve_record.ensures.rest_kept (ap (λ (w : MapView ℕ). w.map) c.in_ok-reserve.ensures.ok) ∙ counts_is c.self.view_is) (ap (λ (w : MapView ℕ). w.map) c.in_ok-reserve.ensures.ok ∙ places_are c.self.view_is))

pub returns-in_err-reserve-4-clause-err : goal.returns-in_err-reserve-4-clause-err
returns-in_err-reserve-4-clause-err g c =
    on_err _ _ (all_are (widened (opened c.self.invariant (bare_is c.self.view_is)) c.reserve_record.ensures.rest_kept (ap (λ (w : MapView ℕ). w.map) c.in_ok-reserve.ensures.ok) (max c.self.inside.sets.all.items c.capacity-keys.result) (max c.self.inside.sets.ready.items c.capacity-keys.result) c.self.inside.sets.room c.in_ok-reserve-2.ensures.ok (omega arith) (max c.self.inside.waiting.items c.capacity-keys.result) c.in_ok-reserve-3.ensures.ok (omega arith) c.self.inside.noted.items c.in_err-reserve-4.ensures.err (omega arith)).view_is (rights-widened c.self.inside.records c.reserve_record.ensures.rest_kept (ap (λ (w : MapView ℕ). w.map) c.in_ok-reserve.ensures.ok) ∙ counts_is c.self.view_is) (ap (λ (w : MapView ℕ). w.map) c.in_ok-reserve.ensures.ok ∙ places_are c.self.view_is))

pub returns-clause-counts : goal.returns-clause-counts
returns-clause-counts g c =
    let o = widened (opened c.self.invariant (bare_is c.self.view_is)) c.reserve_record.ensures.rest_kept (ap (λ (w : MapView ℕ). w.map) c.in_ok-reserve.ensures.ok) (max c.self.inside.sets.all.items c.capacity-keys.result) (max c.self.inside.sets.ready.items c.capacity-keys.result) c.self.inside.sets.room c.in_ok-reserve-2.ensures.ok (omega arith) (max c.self.inside.waiting.items c.capacity-keys.result) c.in_ok-reserve-3.ensures.ok (omega arith) (max c.self.inside.noted.items c.capacity-keys.result) c.in_ok-reserve-4.ensures.ok (omega arith) in
    let a : Record g.row.M.Denot = record { id = c.new-id.result; queue = c.new.result; kept = c.new-2.result; counts = c.first-2.result } in
    let number : made_of c.self.inside.next ≡ c.unwrap-number.result = ap made_of c.unwrap-number.ensures in
    let put : c.insert.new.self.map ≡ map.insert c.reserve.new.self.map (made_of c.self.inside.next) c.insert_reserved-key.result =
    ap (λ (w : MapView ℕ). w.map) c.insert.ensures ∙ ap (λ k. map.insert c.reserve.new.self.map c.unwrap-number.result k) c.narrow.ensures ∙ ap (λ n. map.insert c.reserve.new.self.map n c.insert_reserved-key.result) (sym number) in
    ap (rights_of (get c.insert_reserved-key.new.self)) put
    ∙ rights-came (get c.reserve_record.new.records) (get c.insert_reserved-key.new.self) c.reserve-2.new.self c.reserve-2.new.self c.reserve.new.self.map (made_of c.self.inside.next) o.kept.sound.indexed c.insert_reserved-key.result (λ k d. refl) a c.insert_reserved-key.ensures.was_vacant
    (record { changed = c.insert_reserved-key.ensures.updates.changed; others = c.insert_reserved-key.ensures.updates.others }) (c.new-id.ensures ∙ sym number)
    ∙ ap (map.insert (rights_of (get c.reserve_record.new.records) c.reserve.new.self.map) (made_of c.self.inside.next)) c.first-2.ensures
    ∙ ap (λ n. map.insert (rights_of (get c.reserve_record.new.records) c.reserve.new.self.map) n (with_more Receive 1 no_rights)) (ap (λ (b : PortsView g.row.M.Denot). b.made) (bare_is c.self.view_is))
    ∙ ap (λ (m : map.FinMap nat_cmp Counts). map.insert m c.args.self.now.bare.made (with_more Receive 1 no_rights)) (rights-widened c.self.inside.records c.reserve_record.ensures.rest_kept (ap (λ (w : MapView ℕ). w.map) c.in_ok-reserve.ensures.ok) ∙ counts_is c.self.view_is)

pub returns-in_err-reserve_record-clause-err : goal.returns-in_err-reserve_record-clause-err
returns-in_err-reserve_record-clause-err g c =
    on_err _ _ (all_are ((widened (opened c.self.invariant (bare_is c.self.view_is)) c.reserve_record.ensures.rest_kept refl c.self.inside.sets.all.items c.self.inside.sets.ready.items c.self.inside.sets.room refl (omega arith) c.self.inside.waiting.items refl (omega arith) c.self.inside.noted.items refl (omega arith)).view_is) (rights-widened c.self.inside.records c.reserve_record.ensures.rest_kept refl ∙ counts_is c.self.view_is) (places_are c.self.view_is))

pub returns-in_err-reserve-clause-err : goal.returns-in_err-reserve-clause-err
returns-in_err-reserve-clause-err g c =
    on_err _ _ (all_are ((widened (opened c.self.invariant (bare_is c.self.view_is)) c.reserve_record.ensures.rest_kept (ap (λ (w : MapView ℕ). w.map) c.in_err-reserve.ensures.err) c.self.inside.sets.all.items c.self.inside.sets.ready.items c.self.inside.sets.room refl (omega arith) c.self.inside.waiting.items refl (omega arith) c.self.inside.noted.items refl (omega arith)).view_is) (rights-widened c.self.inside.records c.reserve_record.ensures.rest_kept (ap (λ (w : MapView ℕ). w.map) c.in_err-reserve.ensures.err) ∙ counts_is c.self.view_is) (ap (λ (w : MapView ℕ). w.map) c.in_err-reserve.ensures.err ∙ places_are c.self.view_is))

pub returns-in_err-reserve-2-clause-err : goal.returns-in_err-reserve-2-clause-err
returns-in_err-reserve-2-clause-err g c =
    on_err _ _ (all_are ((widened (opened c.self.invariant (bare_is c.self.view_is)) c.reserve_record.ensures.rest_kept (ap (λ (w : MapView ℕ). w.map) c.in_ok-reserve.ensures.ok) c.self.inside.sets.all.items c.self.inside.sets.ready.items c.self.inside.sets.room c.in_err-reserve-2.ensures.err (omega arith) c.self.inside.waiting.items refl (omega arith) c.self.inside.noted.items refl (omega arith)).view_is) (rights-widened c.self.inside.records c.reserve_record.ensures.rest_kept (ap (λ (w : MapView ℕ). w.map) c.in_ok-reserve.ensures.ok) ∙ counts_is c.self.view_is) (ap (λ (w : MapView ℕ). w.map) c.in_ok-reserve.ensures.ok ∙ places_are c.self.view_is))
