use Rattle.std.proofs.Common.{refl, ◌≡◌, ℕ, Some, None, false, is_some, ap, sym, subst, ◌∙◌, length}
use Rattle.std.specs.Ordering.{nat_cmp}
use Rattle.std.specs.FinMap as map
use Rattle.number_map.specs.Maps.{MapView}
use Rattle.member_lists.specs.Lists.{without}
use Rattle.shared_lists.specs.Shared.{more_of}
use Rattle.port_base.specs.declared.Membership.{Membership}
use Rattle.port_base.specs.Memberships.{IsHome, IsOut}
use Rattle.port_base.specs.Ready.{StandsIn, out_of}
use Rattle.port.specs.Ports.{PortView, PortsView}
use Rattle.rights.specs.declared.Counts.{Counts}
use Rattle.slab.specs.Slab.{get}
use Rattle.std.specs.Option.{option_map}
use Rattle.port.specs.Records.{IsKept, made_of, rights_in, rights_of}
use Rattle.port.proofs.Grown.{kept-went, view-went, unready_queue, remove-absent}
use Rattle.port.proofs.Records.{Keyed, port_of, get-rights, rights_at, rights-went}
use Rattle.port.proofs.Sound.{bare_is, counts_is, opened, record_at, live_port, gone_port, view_of, relisted}
use Rattle.port.proofs.Waiting.{gone-same, waits_in_two, noted_in_two}
use Rattle.port.proofs.Ports.remove.Goals as goal

pub remove-queue-requires : goal.remove-queue-requires
remove-queue-requires g c =
    let o = opened c.self.invariant (bare_is c.self.view_is) in
    let found : map.get c.self.inside.by_id.map c.args.port ≡ Some c.in-Some.key = sym (c.in-Some.ensures.value ∙ ap (map.get c.self.inside.by_id.map) c.number.ensures) in
    ap is_some (record_at o c.args.port c.in-Some.key found).1

pub destroy_empty-requires : goal.destroy_empty-requires
destroy_empty-requires g c =
    let o = opened c.self.invariant (bare_is c.self.view_is) in
    let found : map.get c.self.inside.by_id.map c.args.port ≡ Some c.in-Some.key = sym (c.in-Some.ensures.value ∙ ap (map.get c.self.inside.by_id.map) c.number.ensures) in
    let quiet : length c.remove-queue.result.queue ≡ 0 = c.requires (port_of c.remove-queue.result (more_of c.self.inside.sets c.in-Some.key)) (live_port o c.args.port c.in-Some.key c.remove-queue.result found c.remove-queue.ensures.value) in
    quiet

pub leave-requires-clause-home : goal.leave-requires-clause-home
leave-requires-clause-home g c =
    subst (IsHome c.self.inside.sets c.in-Some.key) (sym c.membership.ensures) (c.self.invariant.membered.home c.in-Some.key c.remove-queue.result c.remove-queue.ensures.value)

pub leave-requires-clause-ready : goal.leave-requires-clause-ready
leave-requires-clause-ready g c =
    let o = opened c.self.invariant (bare_is c.self.view_is) in
    let found : map.get c.self.inside.by_id.map c.args.port ≡ Some c.in-Some.key = sym (c.in-Some.ensures.value ∙ ap (map.get c.self.inside.by_id.map) c.number.ensures) in
    let quiet : length c.remove-queue.result.queue ≡ 0 = c.requires (port_of c.remove-queue.result (more_of c.self.inside.sets c.in-Some.key)) (live_port o c.args.port c.in-Some.key c.remove-queue.result found c.remove-queue.ensures.value) in
    unready_queue c.self.inside.sets c.in-Some.key c.remove-queue.result.queue quiet (c.self.invariant.membered.ready c.in-Some.key c.remove-queue.result c.remove-queue.ensures.value)

pub leave_two-requires-clause-was : goal.leave_two-requires-clause-was
leave_two-requires-clause-was g c =
    subst (λ o. StandsIn c.self.inside.waiting c.in-Some.key o) (sym c.waiting_list-list.ensures) (c.self.invariant.awaited.stands c.in-Some.key c.remove-queue.result c.remove-queue.ensures.value)

pub leave_two-requires-in-Some-clause-was : goal.leave_two-requires-in-Some-clause-was
leave_two-requires-in-Some-clause-was g c =
    subst (λ o. StandsIn c.self.inside.noted c.in-Some.key o) (sym c.noting_list-list.ensures) (c.self.invariant.are_noted.stands c.in-Some.key c.remove-queue.result c.remove-queue.ensures.value)

pub leave_two-requires-clause-list : goal.leave_two-requires-clause-list
leave_two-requires-clause-list g c l is =
    waits_in_two c.remove-queue.result.kept.attributes.holder l (sym c.waiting_list-list.ensures ∙ is)

pub leave_two-requires-in-Some-clause-list : goal.leave_two-requires-in-Some-clause-list
leave_two-requires-in-Some-clause-list g c l is =
    noted_in_two c.remove-queue.result.kept.is_noted l (sym c.noting_list-list.ensures ∙ is)

pub invariant_of-self : goal.invariant_of-self
invariant_of-self g c =
    let o = opened c.self.invariant (bare_is c.self.view_is) in
    let found : map.get c.self.inside.by_id.map c.args.port ≡ Some c.in-Some.key = sym (c.in-Some.ensures.value ∙ ap (map.get c.self.inside.by_id.map) c.number.ensures) in
    let quiet : length c.remove-queue.result.queue ≡ 0 = c.requires (port_of c.remove-queue.result (more_of c.self.inside.sets c.in-Some.key)) (live_port o c.args.port c.in-Some.key c.remove-queue.result found c.remove-queue.ensures.value) in
    let out : c.remove.new.self.map ≡ map.remove c.self.inside.by_id.map c.args.port = ap (λ (w : MapView ℕ). w.map) c.remove.ensures.after ∙ ap (map.remove c.self.inside.by_id.map) c.number.ensures in
    let left : IsOut c.self.inside.sets c.in-Some.key c.remove-queue.result.kept.membership false c.leave.new.sets = subst (λ (m : Membership). IsOut c.self.inside.sets c.in-Some.key m false c.leave.new.sets) c.membership.ensures c.leave.ensures in
    kept-went o c.remove-queue.new.self c.remove.new.self.map c.args.port c.in-Some.key c.remove-queue.result found c.remove-queue.ensures.value quiet c.remove-queue.ensures.updates.changed c.remove-queue.ensures.updates.others out c.leave.new.sets left c.leave_two.new.lists c.leave_two-in-Some.new.lists
    c.leave_two.ensures.moved (c.leave_two.ensures.left ∙ ap (out_of c.self.inside.waiting c.in-Some.key) c.waiting_list-list.ensures) c.leave_two-in-Some.ensures.moved (c.leave_two-in-Some.ensures.left ∙ ap (out_of c.self.inside.noted c.in-Some.key) c.noting_list-list.ensures)

pub returns-in-Some-clause-after : goal.returns-in-Some-clause-after
returns-in-Some-clause-after g c =
    let o = opened c.self.invariant (bare_is c.self.view_is) in
    let found : map.get c.self.inside.by_id.map c.args.port ≡ Some c.in-Some.key = sym (c.in-Some.ensures.value ∙ ap (map.get c.self.inside.by_id.map) c.number.ensures) in
    let quiet : length c.remove-queue.result.queue ≡ 0 = c.requires (port_of c.remove-queue.result (more_of c.self.inside.sets c.in-Some.key)) (live_port o c.args.port c.in-Some.key c.remove-queue.result found c.remove-queue.ensures.value) in
    let out : c.remove.new.self.map ≡ map.remove c.self.inside.by_id.map c.args.port = ap (λ (w : MapView ℕ). w.map) c.remove.ensures.after ∙ ap (map.remove c.self.inside.by_id.map) c.number.ensures in
    let left : IsOut c.self.inside.sets c.in-Some.key c.remove-queue.result.kept.membership false c.leave.new.sets = subst (λ (m : Membership). IsOut c.self.inside.sets c.in-Some.key m false c.leave.new.sets) c.membership.ensures c.leave.ensures in
    view-went o c.remove-queue.new.self c.remove.new.self.map c.args.port c.in-Some.key c.remove-queue.result found c.remove-queue.ensures.value quiet c.remove-queue.ensures.updates.changed c.remove-queue.ensures.updates.others out c.leave.new.sets left c.leave_two.new.lists c.leave_two-in-Some.new.lists
    c.leave_two.ensures.moved (c.leave_two.ensures.left ∙ ap (out_of c.self.inside.waiting c.in-Some.key) c.waiting_list-list.ensures) c.leave_two-in-Some.ensures.moved (c.leave_two-in-Some.ensures.left ∙ ap (out_of c.self.inside.noted c.in-Some.key) c.noting_list-list.ensures)

pub returns-in-None-clause-after : goal.returns-in-None-clause-after
returns-in-None-clause-after g c =
    let o = opened c.self.invariant (bare_is c.self.view_is) in
    let none : map.get c.self.inside.by_id.map c.args.port ≡ None = sym (c.in-None.ensures.value ∙ ap (map.get c.self.inside.by_id.map) c.number.ensures) in
    let same : c.remove.new.self.map ≡ c.self.inside.by_id.map = ap (λ (w : MapView ℕ). w.map) c.remove.ensures.after ∙ ap (map.remove c.self.inside.by_id.map) c.number.ensures ∙ remove-absent c.self.inside.by_id.map c.args.port none in
    let after : map.FinMap nat_cmp (PortView g.row.M.Denot) → PortsView g.row.M.Denot = λ ports. record c.args.self.now.bare { ports = ports } in
    ap (λ (keys : Keyed). view_of c.self.inside.records keys c.self.inside.next c.self.inside.spare c.self.inside.destroyed c.self.inside.sets c.self.inside.waiting c.self.inside.noted) same ∙ (bare_is c.self.view_is)
    ∙ ap after (sym (remove-absent c.args.self.now.bare.ports c.args.port (gone_port o c.args.port none)))
    ∙ relisted (after (map.remove c.args.self.now.bare.ports c.args.port)) c.args.self.now.bare.lost c.args.self.now.bare.doomed c.args.self.now.bare.noted (without c.args.port c.args.self.now.bare.lost) (without c.args.port c.args.self.now.bare.doomed) (without c.args.port c.args.self.now.bare.noted)
    (gone-same o c.args.port none)

pub invariant_of-self-in-None : goal.invariant_of-self-in-None
invariant_of-self-in-None g c =
    let o = opened c.self.invariant (bare_is c.self.view_is) in
    let none : map.get c.self.inside.by_id.map c.args.port ≡ None = sym (c.in-None.ensures.value ∙ ap (map.get c.self.inside.by_id.map) c.number.ensures) in
    let same : c.remove.new.self.map ≡ c.self.inside.by_id.map = ap (λ (w : MapView ℕ). w.map) c.remove.ensures.after ∙ ap (map.remove c.self.inside.by_id.map) c.number.ensures ∙ remove-absent c.self.inside.by_id.map c.args.port none in
    subst (λ (keys : Keyed). IsKept c.self.inside.records keys c.self.inside.next c.self.inside.spare c.self.inside.destroyed c.self.inside.slots c.self.inside.sets c.self.inside.waiting c.self.inside.noted) (sym same) c.self.invariant

pub returns-in-Some-clause-rights : goal.returns-in-Some-clause-rights
returns-in-Some-clause-rights g c =
    let o = opened c.self.invariant (bare_is c.self.view_is) in
    let found : map.get c.self.inside.by_id.map c.args.port ≡ Some c.in-Some.key = sym (c.in-Some.ensures.value ∙ ap (map.get c.self.inside.by_id.map) c.number.ensures) in
    sym (rights_at (get c.self.inside.records) c.self.inside.by_id.map c.args.port c.in-Some.key c.remove-queue.result found c.remove-queue.ensures.value)
    ∙ ap (λ (m : map.FinMap nat_cmp Counts). map.get m c.args.port) (counts_is c.self.view_is)

pub returns-in-Some-clause-counts : goal.returns-in-Some-clause-counts
returns-in-Some-clause-counts g c =
    let o = opened c.self.invariant (bare_is c.self.view_is) in
    let found : map.get c.self.inside.by_id.map c.args.port ≡ Some c.in-Some.key = sym (c.in-Some.ensures.value ∙ ap (map.get c.self.inside.by_id.map) c.number.ensures) in
    let out : c.remove.new.self.map ≡ map.remove c.self.inside.by_id.map c.args.port = ap (λ (w : MapView ℕ). w.map) c.remove.ensures.after ∙ ap (map.remove c.self.inside.by_id.map) c.number.ensures in
    ap (rights_of (get c.remove-queue.new.self)) out
    ∙ rights-went (get c.self.inside.records) (get c.remove-queue.new.self) c.self.inside.sets c.self.inside.sets c.self.inside.by_id.map (made_of c.self.inside.next) o.kept.sound.indexed c.args.port c.in-Some.key (λ k d. refl) found
    (record { changed = c.remove-queue.ensures.updates.changed; others = c.remove-queue.ensures.updates.others })
    ∙ ap (λ (m : map.FinMap nat_cmp Counts). map.remove m c.args.port) (counts_is c.self.view_is)

pub returns-in-None-clause-rights : goal.returns-in-None-clause-rights
returns-in-None-clause-rights g c =
    let none : map.get c.self.inside.by_id.map c.args.port ≡ None = sym (c.in-None.ensures.value ∙ ap (map.get c.self.inside.by_id.map) c.number.ensures) in
    let gone : map.get c.args.self.now.counts c.args.port ≡ None =
    (ap (λ (m : map.FinMap nat_cmp Counts). map.get m c.args.port) (sym (counts_is c.self.view_is)) ∙ get-rights (get c.self.inside.records) c.self.inside.by_id.map c.args.port ∙ ap (option_map (λ k. rights_in (get c.self.inside.records k))) none) in
    sym gone

pub returns-in-None-clause-counts : goal.returns-in-None-clause-counts
returns-in-None-clause-counts g c =
    let none : map.get c.self.inside.by_id.map c.args.port ≡ None = sym (c.in-None.ensures.value ∙ ap (map.get c.self.inside.by_id.map) c.number.ensures) in
    let gone : map.get c.args.self.now.counts c.args.port ≡ None =
    (ap (λ (m : map.FinMap nat_cmp Counts). map.get m c.args.port) (sym (counts_is c.self.view_is)) ∙ get-rights (get c.self.inside.records) c.self.inside.by_id.map c.args.port ∙ ap (option_map (λ k. rights_in (get c.self.inside.records k))) none) in
    let same : c.remove.new.self.map ≡ c.self.inside.by_id.map = ap (λ (w : MapView ℕ). w.map) c.remove.ensures.after ∙ ap (map.remove c.self.inside.by_id.map) c.number.ensures ∙ remove-absent c.self.inside.by_id.map c.args.port none in
    ap (rights_of (get c.self.inside.records)) same ∙ counts_is c.self.view_is ∙ sym (remove-absent c.args.self.now.counts c.args.port gone)
