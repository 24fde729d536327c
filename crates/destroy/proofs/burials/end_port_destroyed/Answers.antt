use Rattle.std.proofs.Common.{◌≡◌, sym, ap, subst, ◌∙◌, None}
use Rattle.std.specs.FinMap as map
use Rattle.copyin_base.specs.Requests.{notify_of}
use Rattle.copyin_base.specs.declared.Notice.TheVariants.{SendOnce}
use Rattle.copyin_base.specs.Losing.{CanPost}
use Rattle.copyin_base.specs.Worlds.{WorldView}
use Rattle.destroy.specs.Paying.{LivesIn, Pays, PaysMany}
use Rattle.destroy.proofs.BurySteps.{saving_ended, saving_post, none_ended}
use Rattle.destroy.proofs.BuryNames.{is_none, saving_absent}
use Rattle.destroy.proofs.burials.end_port_destroyed.Goals as goal

pub returns-in_default : goal.returns-in_default
returns-in_default c =
    let t = c.take_port_destroyed in
    let none : map.get c.args.world.now.requests.port_destroyed.map c.args.port ≡ None = sym t.ensures.notify ∙ is_none t.result c.in_default.not-Some in
    none_ended c.args.port _ c.args.world.now _ c.requires (t.ensures.ended ∙ saving_absent c.args.world.now c.args.port none) (λ r is. ap (notify_of c.args.world.now.requests) is ∙ none)

pub pay-requires : goal.pay-requires
pay-requires c =
    let t = c.take_port_destroyed in
    subst (λ (w : WorldView). LivesIn w c.in-Some.notify → CanPost w c.in-Some.notify) (sym t.ensures.ended) (saving_post c.args.port c.args.world.now c.requires c.in-Some.notify (sym t.ensures.notify ∙ c.in-Some.is))

pub returns : goal.returns
returns c =
    let t = c.take_port_destroyed in
    saving_ended c.args.port c.args.world.now c.requires c.in-Some.notify c.pay.new.world c.pay.result (sym t.ensures.notify ∙ c.in-Some.is)
    (subst (λ (w : WorldView). Pays w c.in-Some.notify SendOnce c.pay.new.world) t.ensures.ended c.pay.ensures.pays)
    (subst (λ (w : WorldView). PaysMany w c.in-Some.notify c.pay.result) t.ensures.ended c.pay.ensures.many)
