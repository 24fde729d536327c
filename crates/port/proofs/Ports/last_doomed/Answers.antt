use Rattle.std.proofs.Common.{is_some, ap, refl}
use Rattle.member_lists.specs.Lists.{list_of}
use Rattle.slab.specs.Slab.{get}
use Rattle.port_base.specs.declared.Holder.TheVariants as Holder
use Rattle.port_base.specs.Records.{doomed_list, ids_at}
use Rattle.port.proofs.Waiting.{doomed_now, held_told, last_told, empty_told, holds_last, waits_doomed}
use Rattle.port.proofs.Sound.{bare_is, opened}
use Rattle.port.proofs.Ports.last_doomed.Goals as goal

pub index-requires : goal.index-requires
index-requires g c =
    let e = c.in_ok-key.ensures.some in
    ap is_some (c.self.invariant.awaited.held c.in_ok-key.key doomed_list (holds_last (list_of c.self.inside.waiting doomed_list) e.0 c.in_ok-key.key e.1)).1

pub returns-clause-last : goal.returns-clause-last
returns-clause-last g c =
    let e = c.in_ok-key.ensures.some in
    (ids_at (get c.self.inside.records) e.0, last_told (opened c.self.invariant (bare_is c.self.view_is)) Holder.Doomed doomed_list refl waits_doomed c.args.self.now.bare.doomed (doomed_now (opened c.self.invariant (bare_is c.self.view_is))) e.0 c.in_ok-key.key c.index.result.now e.1 c.index.ensures)

pub returns-clause-some : goal.returns-clause-some
returns-clause-some g c =
    let e = c.in_ok-key.ensures.some in
    let last = last_told (opened c.self.invariant (bare_is c.self.view_is)) Holder.Doomed doomed_list refl waits_doomed c.args.self.now.bare.doomed (doomed_now (opened c.self.invariant (bare_is c.self.view_is))) e.0 c.in_ok-key.key c.index.result.now e.1 c.index.ensures in
    (held_told (opened c.self.invariant (bare_is c.self.view_is)) Holder.Doomed doomed_list refl waits_doomed c.args.self.now.bare.doomed (doomed_now (opened c.self.invariant (bare_is c.self.view_is))) c.index.result.now.id).0 (holds_last c.args.self.now.bare.doomed (ids_at (get c.self.inside.records) e.0) c.index.result.now.id last)

pub returns-clause-all : goal.returns-clause-all
returns-clause-all g c = held_told (opened c.self.invariant (bare_is c.self.view_is)) Holder.Doomed doomed_list refl waits_doomed c.args.self.now.bare.doomed (doomed_now (opened c.self.invariant (bare_is c.self.view_is)))

pub returns-in_err-key-clause-all : goal.returns-in_err-key-clause-all
returns-in_err-key-clause-all g c = held_told (opened c.self.invariant (bare_is c.self.view_is)) Holder.Doomed doomed_list refl waits_doomed c.args.self.now.bare.doomed (doomed_now (opened c.self.invariant (bare_is c.self.view_is)))

pub returns-in_err-key-clause-none : goal.returns-in_err-key-clause-none
returns-in_err-key-clause-none g c = rw c.from_residual.ensures (empty_told (opened c.self.invariant (bare_is c.self.view_is)) Holder.Doomed doomed_list refl waits_doomed c.args.self.now.bare.doomed (doomed_now (opened c.self.invariant (bare_is c.self.view_is))) c.in_err-key.ensures.none)
