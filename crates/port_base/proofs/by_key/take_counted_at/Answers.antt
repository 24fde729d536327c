use Rattle.std.proofs.Common.{◌≡◌, ap, sym, ◌∙◌}
use Rattle.member_lists.proofs.Times.{same_some}
use Rattle.port_base.specs.declared.Record.{Record}
use Rattle.port_base.specs.Memberships.{unreadied, emptied}
use Rattle.port_base.proofs.Settled.{left_home, left_emptied}
use Rattle.port_base.proofs.by_key.take_counted_at.Goals as goal

pub unready-requires-clause-home : goal.unready-requires-clause-home
unready-requires-clause-home g c = left_home c.args.sets.now c.args.key c.index_mut-record.result.now.kept.membership c.index_mut-record.result.now.queue c.left_sets.result c.left_sets.ensures (c.requires.home c.index_mut-record.result.now c.index_mut-record.ensures.value)

pub unready-requires-clause-ready : goal.unready-requires-clause-ready
unready-requires-clause-ready g c some = c.requires.ready

pub returns-clause-emptied : goal.returns-clause-emptied
returns-clause-emptied g c r rest h q =
    let same : c.index_mut-record.result.now ≡ r = same_some c.index_mut-record.result.now r (sym c.index_mut-record.ensures.value ∙ h) in
    c.unready.ensures
    ∙ ap (unreadied c.args.sets.now c.args.key) c.left_sets.ensures
    ∙ left_emptied c.args.sets.now c.args.key c.index_mut-record.result.now.kept.membership c.index_mut-record.result.now.queue rest c.pop.result (ap (λ (a : Record g.row.M.Denot). a.queue) same ∙ q)
    ∙ ap (λ (a : Record g.row.M.Denot). emptied c.args.sets.now c.args.key a.kept.membership rest) same
