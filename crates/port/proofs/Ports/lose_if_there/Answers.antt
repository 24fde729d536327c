use Rattle.std.proofs.Common.{◌≡◌, ℕ, Some, is_some, ap, sym, subst, ◌∙◌, refl, List, [], ◌∷◌, ◌++◌}
use Rattle.std.specs.FinMap as map
use Rattle.port_base.specs.declared.Record.{Record}
use Rattle.member_lists.specs.Lists.{without}
use Rattle.shared_lists.specs.Shared.{more_of}
use Rattle.port_base.specs.declared.Holder.TheVariants as Holder
use Rattle.port_base.specs.Attributes.{held_by}
use Rattle.port_base.specs.Ready.{StandsIn, IsMoved, out_of, at_end}
use Rattle.port_base.specs.Records.{waits_in, waiting_list}
use Rattle.port.specs.Ports.{PortView, with_port}
use Rattle.port.specs.Holding.{held}
use Rattle.port.proofs.Changed.{change, still, kept-held, view-held}
use Rattle.port.proofs.Held.{lost-apart, doomed-apart}
use Rattle.port.proofs.Keys.{some_or_none}
use Rattle.port.proofs.Records.{port_of}
use Rattle.port.proofs.Sound.{bare_is, opened, record_at, live_port, gone_port, is_port, relisted, counts_is, rights-set}
use Rattle.port.proofs.Waiting.{can_hold, waits_in_two}
use Rattle.port.proofs.Ports.lose_if_there.Goals as goal

pub hold_at-was-requires : goal.hold_at-was-requires
hold_at-was-requires g c =
    let o = opened c.self.invariant (bare_is c.self.view_is) in
    let found : map.get c.self.inside.by_id.map c.args.port ≡ Some c.in-Some.key = sym c.in-Some.ensures in
    let there = record_at o c.args.port c.in-Some.key found in
    let r : Record g.row.M.Denot = there.0 in
    ap is_some there.1

pub rejoin_two-requires-clause-room : goal.rejoin_two-requires-clause-room
rejoin_two-requires-clause-room g c =
    let o = opened c.self.invariant (bare_is c.self.view_is) in
    let found : map.get c.self.inside.by_id.map c.args.port ≡ Some c.in-Some.key = sym c.in-Some.ensures in
    let there = record_at o c.args.port c.in-Some.key found in
    let r : Record g.row.M.Denot = there.0 in
    c.self.invariant.awaited.room c.in-Some.key r there.1

pub rejoin_two-requires-clause-was : goal.rejoin_two-requires-clause-was
rejoin_two-requires-clause-was g c =
    let o = opened c.self.invariant (bare_is c.self.view_is) in
    let found : map.get c.self.inside.by_id.map c.args.port ≡ Some c.in-Some.key = sym c.in-Some.ensures in
    let there = record_at o c.args.port c.in-Some.key found in
    let r : Record g.row.M.Denot = there.0 in
    subst (λ o. StandsIn c.self.inside.waiting c.in-Some.key o) (sym (c.hold_at-was.ensures.was r there.1)) (c.self.invariant.awaited.stands c.in-Some.key r there.1)

pub rejoin_two-requires-clause-left : goal.rejoin_two-requires-clause-left
rejoin_two-requires-clause-left g c l is =
    let o = opened c.self.invariant (bare_is c.self.view_is) in
    let found : map.get c.self.inside.by_id.map c.args.port ≡ Some c.in-Some.key = sym c.in-Some.ensures in
    let there = record_at o c.args.port c.in-Some.key found in
    let r : Record g.row.M.Denot = there.0 in
    waits_in_two r.kept.attributes.holder l (sym (c.hold_at-was.ensures.was r there.1) ∙ is)

pub rejoin_two-requires-clause-joined : goal.rejoin_two-requires-clause-joined
rejoin_two-requires-clause-joined g c l is =
    waits_in_two Holder.Nobody l (sym c.hold_at-was.ensures.now ∙ is)

pub invariant_of-self : goal.invariant_of-self
invariant_of-self g c =
    let o = opened c.self.invariant (bare_is c.self.view_is) in
    let found : map.get c.self.inside.by_id.map c.args.port ≡ Some c.in-Some.key = sym c.in-Some.ensures in
    let there = record_at o c.args.port c.in-Some.key found in
    let r : Record g.row.M.Denot = there.0 in
    let ch = change o c.args.port c.in-Some.key r (record r { kept = record r.kept { attributes = held_by r.kept.attributes Holder.Nobody } }) found there.1 refl (c.hold_at-was.ensures.after r there.1) in
    let moved : IsMoved c.self.inside.waiting c.rejoin_two.new.lists c.in-Some.key (waits_in Holder.Nobody) = subst (λ o. IsMoved c.self.inside.waiting c.rejoin_two.new.lists c.in-Some.key o) c.hold_at-was.ensures.now c.rejoin_two.ensures.moved in
    kept-held ch (c.self.invariant.membered.first c.in-Some.key r there.1) (still ch refl refl refl) refl refl Holder.Nobody refl c.rejoin_two.new.lists moved

pub returns-clause-there : goal.returns-clause-there
returns-clause-there g c p h =
    let o = opened c.self.invariant (bare_is c.self.view_is) in
    let found : map.get c.self.inside.by_id.map c.args.port ≡ Some c.in-Some.key = sym c.in-Some.ensures in
    let there = record_at o c.args.port c.in-Some.key found in
    let r : Record g.row.M.Denot = there.0 in
    let ch = change o c.args.port c.in-Some.key r (record r { kept = record r.kept { attributes = held_by r.kept.attributes Holder.Nobody } }) found there.1 refl (c.hold_at-was.ensures.after r there.1) in
    let moved : IsMoved c.self.inside.waiting c.rejoin_two.new.lists c.in-Some.key (waits_in Holder.Nobody) = subst (λ o. IsMoved c.self.inside.waiting c.rejoin_two.new.lists c.in-Some.key o) c.hold_at-was.ensures.now c.rejoin_two.ensures.moved in
    let joined : c.rejoin_two.new.lists ≡ at_end (out_of c.self.inside.waiting c.in-Some.key (waiting_list r)) c.in-Some.key (waits_in Holder.Nobody) =
    c.rejoin_two.ensures.turned ∙ ap (λ o. at_end (out_of c.self.inside.waiting c.in-Some.key o) c.in-Some.key c.hold_at-was.result.1) (c.hold_at-was.ensures.was r there.1) ∙ ap (at_end (out_of c.self.inside.waiting c.in-Some.key (waiting_list r)) c.in-Some.key) c.hold_at-was.ensures.now in
    let is = is_port o c.args.port c.in-Some.key r found there.1 p h in
    let can = c.requires p h in
    view-held ch (c.self.invariant.membered.first c.in-Some.key r there.1) (still ch refl refl refl) refl refl Holder.Nobody refl c.rejoin_two.new.lists moved p (ap (λ (q : PortView g.row.M.Denot). let b : PortView g.row.M.Denot = held q Holder.Nobody in b) (sym is)) joined
    ∙ relisted (with_port c.args.self.now.bare c.args.port (held p Holder.Nobody)) (without c.args.port c.args.self.now.bare.lost ++ c.args.port ∷ []) (without c.args.port c.args.self.now.bare.doomed) c.args.self.now.bare.noted
    (c.args.self.now.bare.lost ++ c.args.port ∷ []) c.args.self.now.bare.doomed c.args.self.now.bare.noted (record {
      lost_is = ap (λ (l : List ℕ). l ++ c.args.port ∷ []) (lost-apart o c.args.port c.in-Some.key r found there.1 (λ e. can_hold p.attributes.holder Holder.Nobody (λ n. n) can (ap (λ (q : PortView g.row.M.Denot). q.attributes.holder) is ∙ e)));
      doomed_is = doomed-apart o c.args.port c.in-Some.key r found there.1 (λ e. can_hold p.attributes.holder Holder.Doomed (λ n. n) can (ap (λ (q : PortView g.row.M.Denot). q.attributes.holder) is ∙ e));
      noted_is = refl;
    })

pub returns-clause-gone : goal.returns-clause-gone
returns-clause-gone g c h =
    let o = opened c.self.invariant (bare_is c.self.view_is) in
    let found : map.get c.self.inside.by_id.map c.args.port ≡ Some c.in-Some.key = sym c.in-Some.ensures in
    let there = record_at o c.args.port c.in-Some.key found in
    let r : Record g.row.M.Denot = there.0 in
    absurd (some_or_none (port_of r (more_of c.self.inside.sets c.in-Some.key)) _ (live_port o c.args.port c.in-Some.key r found there.1) h)

pub returns-clause-told : goal.returns-clause-told
returns-clause-told g c =
    let o = opened c.self.invariant (bare_is c.self.view_is) in
    let found : map.get c.self.inside.by_id.map c.args.port ≡ Some c.in-Some.key = sym c.in-Some.ensures in
    let there = record_at o c.args.port c.in-Some.key found in
    let r : Record g.row.M.Denot = there.0 in
    sym (ap is_some (live_port o c.args.port c.in-Some.key r found there.1))

pub returns-in_default-clause-there : goal.returns-in_default-clause-there
returns-in_default-clause-there g c p h =
    absurd (some_or_none p _ h (gone_port (opened c.self.invariant (bare_is c.self.view_is)) c.args.port (sym c.in_default.ensures)))

pub returns-in_default-clause-told : goal.returns-in_default-clause-told
returns-in_default-clause-told g c =
    sym (ap is_some (gone_port (opened c.self.invariant (bare_is c.self.view_is)) c.args.port (sym c.in_default.ensures)))

pub returns-clause-counts : goal.returns-clause-counts
returns-clause-counts g c =
    let o = opened c.self.invariant (bare_is c.self.view_is) in
    let found : map.get c.self.inside.by_id.map c.args.port ≡ Some c.in-Some.key = sym c.in-Some.ensures in
    let there = record_at o c.args.port c.in-Some.key found in
    let r : Record g.row.M.Denot = there.0 in
    rights-set c.self.inside.records c.in-Some.key r _ there.1 (c.hold_at-was.ensures.after r there.1) refl c.self.inside.by_id.map ∙ counts_is c.self.view_is
