use Rattle.std.proofs.Common.{◌≡◌, Some, ap, slice_get, ◌∙◌}
use Rattle.std.proofs.lemmas.Option.{slice_get_within}
use Rattle.copyin_base.specs.Worlds.{WorldView}
use Rattle.copyin_base.proofs.Queueing.{with_doomed, doomed_keeps}
use Rattle.copyin_base.proofs.Written.{changed_given, changed_written}
use Rattle.copyin_base.proofs.Recounted.{ledger_of, still_counted}
use Rattle.copyin_base.proofs.world.World.doom_first.Goals as goal

pub doom_first-requires : goal.doom_first-requires
doom_first-requires c =
    let i = c.self.inside in
    let r = c.requires in
    slice_get_within i.ports.bare.lost 0 r.0 (ap (λ (w : WorldView). slice_get w.ports.lost 0) c.self.view_is ∙ r.1)

pub invariant_of-self : goal.invariant_of-self
invariant_of-self c =
    let i = c.self.inside in
    let r = c.requires in
    let first : slice_get i.ports.bare.lost 0 ≡ Some r.0 = ap (λ (w : WorldView). slice_get w.ports.lost 0) c.self.view_is ∙ r.1 in (
      changed_given c.args.self.now i.spaces.items i.ports.bare (ledger_of i.ports.counts i.ledger) i.sets i.requests c.self.view_is r.0 r.2.view (λ x. with_doomed x r.0 r.2.view) (doomed_keeps r.0 r.2.view) c.doom_first.new.self.bare r.2.there
          (c.doom_first.ensures.doomed r.0 r.2.view first) c.self.invariant.0,
      still_counted c.doom_first.ensures.counts c.self.invariant.1,
    )

pub returns-clause-doomed : goal.returns-clause-doomed
returns-clause-doomed c = λ port v is there.
    let i = c.self.inside in
    let first : slice_get i.ports.bare.lost 0 ≡ Some port = ap (λ (w : WorldView). slice_get w.ports.lost 0) c.self.view_is ∙ is in
    rw c.doom_first.ensures.counts (changed_written c.args.self.now i.spaces.items i.ports.bare (ledger_of i.ports.counts i.ledger) i.sets i.requests c.self.view_is port v (λ x. with_doomed x port v) (doomed_keeps port v) c.doom_first.new.self.bare there
    (c.doom_first.ensures.doomed port v first))
