use Rattle.std.proofs.Common.{◌≡◌, Some, None, is_some, ap, sym, ◌∙◌, refl, slice_get}
use Rattle.std.proofs.lemmas.Option.{slice_get_within, get_or_from_slice_get}
use Rattle.std.specs.Option.{option_map}
use Rattle.member_lists.specs.Lists.{list_of}
use Rattle.slab.specs.Slab.{get}
use Rattle.port_base.specs.declared.Holder.TheVariants as Holder
use Rattle.port_base.specs.Records.{id_in, lost_list}
use Rattle.port.proofs.Waiting.{lost_now, held_told, first_told, none_told, waits_lost}
use Rattle.port.proofs.Sound.{bare_is, opened}
use Rattle.port.proofs.Ports.first_lost.Goals as goal

pub index-requires : goal.index-requires
index-requires g c =
    let e : slice_get (list_of c.self.inside.waiting lost_list) 0 ≡ Some c.in_ok-key.key = sym c.in_ok-key.ensures in
    ap is_some (c.self.invariant.awaited.held c.in_ok-key.key lost_list (0, slice_get_within (list_of c.self.inside.waiting lost_list) 0 c.in_ok-key.key e, get_or_from_slice_get (list_of c.self.inside.waiting lost_list) 0 c.in_ok-key.key c.in_ok-key.key e)).1

pub returns-clause-first : goal.returns-clause-first
returns-clause-first g c =
    let e : slice_get (list_of c.self.inside.waiting lost_list) 0 ≡ Some c.in_ok-key.key = sym c.in_ok-key.ensures in
    sym (first_told (opened c.self.invariant (bare_is c.self.view_is)) Holder.Nobody lost_list refl waits_lost c.args.self.now.bare.lost (lost_now (opened c.self.invariant (bare_is c.self.view_is)))
    ∙ ap (option_map (λ k. id_in (get c.self.inside.records k))) e ∙ ap (λ r. Some (id_in r)) c.index.ensures)

pub returns-clause-some : goal.returns-clause-some
returns-clause-some g c =
    let e : slice_get (list_of c.self.inside.waiting lost_list) 0 ≡ Some c.in_ok-key.key = sym c.in_ok-key.ensures in
    let first : slice_get c.args.self.now.bare.lost 0 ≡ Some c.index.result.now.id = first_told (opened c.self.invariant (bare_is c.self.view_is)) Holder.Nobody lost_list refl waits_lost c.args.self.now.bare.lost (lost_now (opened c.self.invariant (bare_is c.self.view_is)))
    ∙ ap (option_map (λ k. id_in (get c.self.inside.records k))) e ∙ ap (λ r. Some (id_in r)) c.index.ensures in
    (held_told (opened c.self.invariant (bare_is c.self.view_is)) Holder.Nobody lost_list refl waits_lost c.args.self.now.bare.lost (lost_now (opened c.self.invariant (bare_is c.self.view_is))) c.index.result.now.id).0 (0, slice_get_within c.args.self.now.bare.lost 0 c.index.result.now.id first, get_or_from_slice_get c.args.self.now.bare.lost 0 c.index.result.now.id c.index.result.now.id first)

pub returns-clause-all : goal.returns-clause-all
returns-clause-all g c = held_told (opened c.self.invariant (bare_is c.self.view_is)) Holder.Nobody lost_list refl waits_lost c.args.self.now.bare.lost (lost_now (opened c.self.invariant (bare_is c.self.view_is)))

pub returns-in_err-key-clause-all : goal.returns-in_err-key-clause-all
returns-in_err-key-clause-all g c = held_told (opened c.self.invariant (bare_is c.self.view_is)) Holder.Nobody lost_list refl waits_lost c.args.self.now.bare.lost (lost_now (opened c.self.invariant (bare_is c.self.view_is)))

pub returns-in_err-key-clause-none : goal.returns-in_err-key-clause-none
returns-in_err-key-clause-none g c =
    let e : slice_get (list_of c.self.inside.waiting lost_list) 0 ≡ None = sym c.in_err-key.ensures in
    rw c.from_residual.ensures (none_told (opened c.self.invariant (bare_is c.self.view_is)) Holder.Nobody lost_list refl waits_lost c.args.self.now.bare.lost (lost_now (opened c.self.invariant (bare_is c.self.view_is))) (first_told (opened c.self.invariant (bare_is c.self.view_is)) Holder.Nobody lost_list refl waits_lost c.args.self.now.bare.lost (lost_now (opened c.self.invariant (bare_is c.self.view_is))) ∙ ap (option_map (λ k. id_in (get c.self.inside.records k))) e))
