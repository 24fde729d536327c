use Rattle.std.proofs.Common.{ℕ, [], ◌∷◌, ◌++◌, sym, ap, subst, ◌∙◌}
use Rattle.std.specs.FinMap as map
use Rattle.port.specs.Ports.{IsIn, PortView, sets_in, with_sets}
use Rattle.tables_base.specs.Kept.{Kept}
use Rattle.copyin_base.specs.Worlds.{WorldView, port_at}
use Rattle.copyin_base.proofs.Queueing.{put_if_ok, given_if_ok, stays_if_err}
use Rattle.copyin_base.proofs.Told.{port_got}
use Rattle.copyin_base.proofs.Recounted.{ledger_of, still_counted, bare_if_err}
use Rattle.copyin_base.proofs.world.World.enter_set.Goals as goal

abbrev entered : PortView Kept → (set : ℕ) → PortView Kept
entered v set = with_sets v (sets_in v ++ set ∷ [])

pub enter-requires-clause-apart : goal.enter-requires-clause-apart
enter-requires-clause-apart c = subst (λ (w : WorldView). ¬ (IsIn w.ports c.args.set c.args.port)) (sym c.self.view_is) c.requires.apart

pub invariant_of-self : goal.invariant_of-self
invariant_of-self c =
    let i = c.self.inside in
    let x = port_got (port_at c.args.self.now c.args.port) c.requires.live in
    (given_if_ok c.args.self.now i.spaces.items i.ports.bare (ledger_of i.ports.counts i.ledger) i.sets i.requests c.self.view_is c.args.port c.enter.new.self.bare c.enter.result x.0 (entered x.0 c.args.set) x.1 (c.enter.ensures.ok x.0) (bare_if_err _ _ c.enter.result c.enter.ensures.err) c.self.invariant.0, still_counted c.enter.ensures.counts c.self.invariant.1)

pub returns-clause-ok : goal.returns-clause-ok
returns-clause-ok c = λ v there.
    let i = c.self.inside in
    rw c.enter.ensures.counts (put_if_ok c.args.self.now i.spaces.items i.ports.bare (ledger_of i.ports.counts i.ledger) i.sets i.requests c.self.view_is c.args.port c.enter.new.self.bare c.enter.result v (entered v c.args.set) there (c.enter.ensures.ok v))

pub returns-clause-err : goal.returns-clause-err
returns-clause-err c =
    let i = c.self.inside in
    rw c.enter.ensures.counts (stays_if_err c.args.self.now i.spaces.items i.ports.bare (ledger_of i.ports.counts i.ledger) i.sets i.requests c.self.view_is c.args.port c.enter.new.self.bare c.enter.result (bare_if_err _ _ c.enter.result c.enter.ensures.err))

pub returns-clause-further : goal.returns-clause-further
returns-clause-further c = λ v there. c.enter.ensures.further v (ap (λ (w : WorldView). map.get w.ports.ports c.args.port) c.self.view_is ∙ there)
