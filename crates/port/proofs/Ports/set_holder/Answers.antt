use Rattle.std.proofs.Common.{◌≡◌, Some, is_some, ap, sym, subst, ◌∙◌, refl}
use Rattle.std.specs.FinMap as map
use Rattle.port_base.specs.declared.Record.{Record}
use Rattle.port_base.specs.Attributes.{held_by}
use Rattle.port_base.specs.Ready.{StandsIn, IsMoved, out_of, at_end}
use Rattle.port_base.specs.declared.Holder.TheVariants as Holder
use Rattle.port_base.specs.Records.{waits_in, waiting_list, doomed_list}
use Rattle.port.specs.Ports.{PortView}
use Rattle.port.specs.Holding.{held}
use Rattle.port.proofs.Changed.{change, still, kept-held, view-held}
use Rattle.port.proofs.Held.{lost-apart, doomed-apart}
use Rattle.port.proofs.Sound.{bare_is, opened, record_at, live_at, is_port, counts_is, rights-set}
use Rattle.port.proofs.Waiting.{waits_in_two, waits_doomed, doomed_now, held_told}
use Rattle.port.proofs.Ports.set_holder.Goals as goal

pub key_at-key-requires : goal.key_at-key-requires
key_at-key-requires g c = ap is_some (live_at (opened c.self.invariant (bare_is c.self.view_is)) c.args.port c.requires).1

pub rejoin_two-requires-clause-was : goal.rejoin_two-requires-clause-was
rejoin_two-requires-clause-was g c =
    let o = opened c.self.invariant (bare_is c.self.view_is) in
    let found : map.get c.self.inside.by_id.map c.args.port ≡ Some c.key_at-key.result = c.key_at-key.ensures in
    let there = record_at o c.args.port c.key_at-key.result found in
    let r : Record g.row.M.Denot = there.0 in
    subst (λ o. StandsIn c.self.inside.waiting c.key_at-key.result o) (sym (c.hold_at-was.ensures.was r there.1)) (c.self.invariant.awaited.stands c.key_at-key.result r there.1)

pub rejoin_two-requires-clause-left : goal.rejoin_two-requires-clause-left
rejoin_two-requires-clause-left g c l is =
    let o = opened c.self.invariant (bare_is c.self.view_is) in
    let found : map.get c.self.inside.by_id.map c.args.port ≡ Some c.key_at-key.result = c.key_at-key.ensures in
    let there = record_at o c.args.port c.key_at-key.result found in
    let r : Record g.row.M.Denot = there.0 in
    waits_in_two r.kept.attributes.holder l (sym (c.hold_at-was.ensures.was r there.1) ∙ is)

pub rejoin_two-requires-clause-joined : goal.rejoin_two-requires-clause-joined
rejoin_two-requires-clause-joined g c l is =
    waits_in_two c.args.holder l (sym c.hold_at-was.ensures.now ∙ is)

pub invariant_of-self : goal.invariant_of-self
invariant_of-self g c =
    let o = opened c.self.invariant (bare_is c.self.view_is) in
    let found : map.get c.self.inside.by_id.map c.args.port ≡ Some c.key_at-key.result = c.key_at-key.ensures in
    let there = record_at o c.args.port c.key_at-key.result found in
    let r : Record g.row.M.Denot = there.0 in
    let ch = change o c.args.port c.key_at-key.result r (record r { kept = record r.kept { attributes = held_by r.kept.attributes c.args.holder } }) found there.1 refl (c.hold_at-was.ensures.after r there.1) in
    let moved : IsMoved c.self.inside.waiting c.rejoin_two.new.lists c.key_at-key.result (waits_in c.args.holder) = subst (λ o. IsMoved c.self.inside.waiting c.rejoin_two.new.lists c.key_at-key.result o) c.hold_at-was.ensures.now c.rejoin_two.ensures.moved in
    kept-held ch (c.self.invariant.membered.first c.key_at-key.result r there.1) (still ch refl refl refl) refl refl c.args.holder refl c.rejoin_two.new.lists moved

pub returns-clause-held : goal.returns-clause-held
returns-clause-held g c p h =
    let o = opened c.self.invariant (bare_is c.self.view_is) in
    let found : map.get c.self.inside.by_id.map c.args.port ≡ Some c.key_at-key.result = c.key_at-key.ensures in
    let there = record_at o c.args.port c.key_at-key.result found in
    let r : Record g.row.M.Denot = there.0 in
    let ch = change o c.args.port c.key_at-key.result r (record r { kept = record r.kept { attributes = held_by r.kept.attributes c.args.holder } }) found there.1 refl (c.hold_at-was.ensures.after r there.1) in
    let moved : IsMoved c.self.inside.waiting c.rejoin_two.new.lists c.key_at-key.result (waits_in c.args.holder) = subst (λ o. IsMoved c.self.inside.waiting c.rejoin_two.new.lists c.key_at-key.result o) c.hold_at-was.ensures.now c.rejoin_two.ensures.moved in
    let joined : c.rejoin_two.new.lists ≡ at_end (out_of c.self.inside.waiting c.key_at-key.result (waiting_list r)) c.key_at-key.result (waits_in c.args.holder) =
    c.rejoin_two.ensures.turned ∙ ap (λ o. at_end (out_of c.self.inside.waiting c.key_at-key.result o) c.key_at-key.result c.hold_at-was.result.1) (c.hold_at-was.ensures.was r there.1) ∙ ap (at_end (out_of c.self.inside.waiting c.key_at-key.result (waiting_list r)) c.key_at-key.result) c.hold_at-was.ensures.now in
    view-held ch (c.self.invariant.membered.first c.key_at-key.result r there.1) (still ch refl refl refl) refl refl c.args.holder refl c.rejoin_two.new.lists moved p (ap (λ (q : PortView g.row.M.Denot). let b : PortView g.row.M.Denot = held q c.args.holder in b) (sym (is_port o c.args.port c.key_at-key.result r found there.1 p h))) joined

pub returns-clause-lost : goal.returns-clause-lost
returns-clause-lost g c p h not =
    let o = opened c.self.invariant (bare_is c.self.view_is) in
    let found : map.get c.self.inside.by_id.map c.args.port ≡ Some c.key_at-key.result = c.key_at-key.ensures in
    let there = record_at o c.args.port c.key_at-key.result found in
    let r : Record g.row.M.Denot = there.0 in
    lost-apart o c.args.port c.key_at-key.result r found there.1 (λ e. not (ap (λ (q : PortView g.row.M.Denot). q.attributes.holder) (is_port o c.args.port c.key_at-key.result r found there.1 p h) ∙ e))

pub returns-clause-doomed : goal.returns-clause-doomed
returns-clause-doomed g c p h not =
    let o = opened c.self.invariant (bare_is c.self.view_is) in
    let found : map.get c.self.inside.by_id.map c.args.port ≡ Some c.key_at-key.result = c.key_at-key.ensures in
    let there = record_at o c.args.port c.key_at-key.result found in
    let r : Record g.row.M.Denot = there.0 in
    doomed-apart o c.args.port c.key_at-key.result r found there.1 (λ e.
    let is : p.attributes.holder ≡ Holder.Doomed = ap (λ (q : PortView g.row.M.Denot). q.attributes.holder) (is_port o c.args.port c.key_at-key.result r found there.1 p h) ∙ e in
    not is ((held_told o Holder.Doomed doomed_list refl waits_doomed c.args.self.now.bare.doomed (doomed_now o) c.args.port).1 (record { view = p; there = h; holder_is = is })))

pub returns-clause-counts : goal.returns-clause-counts
returns-clause-counts g c =
    let o = opened c.self.invariant (bare_is c.self.view_is) in
    let found : map.get c.self.inside.by_id.map c.args.port ≡ Some c.key_at-key.result = c.key_at-key.ensures in
    let there = record_at o c.args.port c.key_at-key.result found in
    let r : Record g.row.M.Denot = there.0 in
    rights-set c.self.inside.records c.key_at-key.result r _ there.1 (c.hold_at-was.ensures.after r there.1) refl c.self.inside.by_id.map ∙ counts_is c.self.view_is
