use Rattle.std.proofs.Common.{◌≡◌, is_some, ap, sym, subst, ◌∙◌, Contains}
use Rattle.member_lists.specs.Lists.{list_of}
use Rattle.slab.specs.Slab.{get}
use Rattle.port_base.specs.Records.{ids_at}
use Rattle.port.proofs.Readied.{if_ok, members_only, members_all}
use Rattle.port.proofs.Sound.{bare_is, opened}
use Rattle.port.proofs.Ports.members.Goals as goal

pub ids_of-requires : goal.ids_of-requires
ids_of-requires g c =
    let o = opened c.self.invariant (bare_is c.self.view_is) in
    let listed : c.deref.result.now ≡ list_of c.self.inside.sets.all c.args.set = c.deref.ensures.value ∙ c.in_ok-keys.ensures ∙ ap (list_of c.self.inside.sets.all) c.number.ensures in
    λ key inside. ap is_some (c.self.invariant.membered.held key c.args.set (subst (λ keys. Contains keys key) listed inside)).1

pub returns-clause-only : goal.returns-clause-only
returns-clause-only g c =
    let o = opened c.self.invariant (bare_is c.self.view_is) in
    let listed : c.deref.result.now ≡ list_of c.self.inside.sets.all c.args.set = c.deref.ensures.value ∙ c.in_ok-keys.ensures ∙ ap (list_of c.self.inside.sets.all) c.number.ensures in
    if_ok _ _ c.ids_of.result (λ ids is port inside. members_only o c.args.set port (subst (λ ports. Contains ports port) (is ∙ ap (ids_at (get c.self.inside.records)) listed) inside)) c.ids_of.ensures

pub returns-clause-all : goal.returns-clause-all
returns-clause-all g c =
    let o = opened c.self.invariant (bare_is c.self.view_is) in
    let listed : c.deref.result.now ≡ list_of c.self.inside.sets.all c.args.set = c.deref.ensures.value ∙ c.in_ok-keys.ensures ∙ ap (list_of c.self.inside.sets.all) c.number.ensures in
    if_ok _ _ c.ids_of.result (λ ids is port p there member. subst (λ ports. Contains ports port) (sym (is ∙ ap (ids_at (get c.self.inside.records)) listed)) (members_all o c.args.set port p there member)) c.ids_of.ensures
