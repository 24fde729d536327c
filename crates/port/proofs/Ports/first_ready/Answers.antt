use Rattle.std.proofs.Common.{◌≡◌, Some, None, is_some, ap, sym, ◌∙◌, slice_get}
use Rattle.std.specs.Option.{option_map}
use Rattle.member_lists.specs.Lists.{list_of}
use Rattle.slab.specs.Slab.{get}
use Rattle.port_base.specs.Records.{id_in}
use Rattle.port.proofs.Readied.{first_ready, ready_first, none_ready}
use Rattle.port.proofs.Sound.{bare_is, opened}
use Rattle.port.proofs.Turned.{first_turn}
use Rattle.port.proofs.Ports.first_ready.Goals as goal

pub returns-in_err-key-clause-none : goal.returns-in_err-key-clause-none
returns-in_err-key-clause-none g c =
    let o = opened c.self.invariant (bare_is c.self.view_is) in
    let e : slice_get (list_of c.self.inside.sets.ready c.args.set) 0 ≡ None = sym (c.in_err-key.ensures ∙ ap (λ n. slice_get (list_of c.self.inside.sets.ready n) 0) c.number.ensures) in
    rw c.from_residual.ensures (none_ready o c.args.set e)

pub index-requires : goal.index-requires
index-requires g c =
    let o = opened c.self.invariant (bare_is c.self.view_is) in
    let e : slice_get (list_of c.self.inside.sets.ready c.args.set) 0 ≡ Some c.in_ok-key.key = sym (c.in_ok-key.ensures ∙ ap (λ n. slice_get (list_of c.self.inside.sets.ready n) 0) c.number.ensures) in
    ap is_some (first_ready o c.args.set c.in_ok-key.key e).1

pub returns-clause-some : goal.returns-clause-some
returns-clause-some g c =
    let o = opened c.self.invariant (bare_is c.self.view_is) in
    let e : slice_get (list_of c.self.inside.sets.ready c.args.set) 0 ≡ Some c.in_ok-key.key = sym (c.in_ok-key.ensures ∙ ap (λ n. slice_get (list_of c.self.inside.sets.ready n) 0) c.number.ensures) in
    ready_first o c.args.set c.in_ok-key.key c.index.result.now e c.index.ensures

pub returns-in_err-key-clause-first : goal.returns-in_err-key-clause-first
returns-in_err-key-clause-first g c =
    let o = opened c.self.invariant (bare_is c.self.view_is) in
    let e : slice_get (list_of c.self.inside.sets.ready c.args.set) 0 ≡ None = sym (c.in_err-key.ensures ∙ ap (λ n. slice_get (list_of c.self.inside.sets.ready n) 0) c.number.ensures) in
    c.from_residual.ensures ∙ sym (first_turn o c.args.set ∙ ap (option_map (λ k. id_in (get c.self.inside.records k))) e)

pub returns-clause-first : goal.returns-clause-first
returns-clause-first g c =
    let o = opened c.self.invariant (bare_is c.self.view_is) in
    let e : slice_get (list_of c.self.inside.sets.ready c.args.set) 0 ≡ Some c.in_ok-key.key = sym (c.in_ok-key.ensures ∙ ap (λ n. slice_get (list_of c.self.inside.sets.ready n) 0) c.number.ensures) in
    sym (first_turn o c.args.set ∙ ap (option_map (λ k. id_in (get c.self.inside.records k))) e ∙ ap (λ r. Some (id_in r)) c.index.ensures)
