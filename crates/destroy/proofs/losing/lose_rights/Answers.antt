use Rattle.std.proofs.Common.{◌≡◌, [], List, Option, sym, ap, subst, ◌∙◌}
use Rattle.std.specs.Option.{option_to_list}
use Rattle.copyin_base.specs.declared.Carried.{Carried}
use Rattle.copyin_base.specs.Kept.{Kept}
use Rattle.copyin_base.specs.Queued.{kept_in, notice_kept}
use Rattle.destroy.specs.Losing.{LosesTo, IsLosing, carried_in}
use Rattle.destroy.proofs.LoseRights.{losing_front, losing_back, loses_both, loses_told}
use Rattle.destroy.proofs.losing.lose_rights.Goals as goal

pub returns-in_default-clause-loses : goal.returns-in_default-clause-loses
returns-in_default-clause-loses c =
    let is : c.args.queued.now ≡ notice_kept c.in_default.field-0 = sym c.queued.view_is ∙ ap kept_in c.in_default.is in
    subst (λ (k : Kept). LosesTo (carried_in k) [] c.args.world.now 0 c.args.world.now) (sym is) (loses_told c.in_default.field-0 c.args.world.now)

pub lose_reply-replied-requires : goal.lose_reply-replied-requires
lose_reply-replied-requires c =
    let is : c.args.queued.now ≡ c.in-Sent.message = sym c.queued.view_is ∙ ap kept_in c.in-Sent.is in
    subst (λ (o : Option Carried). IsLosing (option_to_list o) c.args.world.now) (sym c.reply.ensures)
    (losing_front (option_to_list c.in-Sent.message.reply) c.in-Sent.message.rights c.args.world.now (subst (λ (k : Kept). IsLosing (carried_in k) c.args.world.now) is c.requires))

pub lose_body-requires : goal.lose_body-requires
lose_body-requires c =
    let is : c.args.queued.now ≡ c.in-Sent.message = sym c.queued.view_is ∙ ap kept_in c.in-Sent.is in
    subst (λ (cs : List Carried). IsLosing cs c.lose_reply-replied.new.world) (sym (c.as_slice.ensures ∙ c.rights.ensures))
    (losing_back (option_to_list c.in-Sent.message.reply) c.in-Sent.message.rights c.args.world.now c.lose_reply-replied.result c.lose_reply-replied.new.world
    (subst (λ (k : Kept). IsLosing (carried_in k) c.args.world.now) is c.requires)
    (subst (λ (o : Option Carried). LosesTo (option_to_list o) [] c.args.world.now c.lose_reply-replied.result c.lose_reply-replied.new.world) c.reply.ensures c.lose_reply-replied.ensures.loses))

pub returns-clause-loses : goal.returns-clause-loses
returns-clause-loses c =
    let is : c.args.queued.now ≡ c.in-Sent.message = sym c.queued.view_is ∙ ap kept_in c.in-Sent.is in
    subst (λ (k : Kept). LosesTo (carried_in k) [] c.args.world.now c.saturating_add.result c.lose_body.new.world) (sym is)
    (loses_both (option_to_list c.in-Sent.message.reply) c.in-Sent.message.rights c.args.world.now c.lose_reply-replied.result c.lose_reply-replied.new.world c.lose_body.result c.lose_body.new.world
    (subst (λ (o : Option Carried). LosesTo (option_to_list o) [] c.args.world.now c.lose_reply-replied.result c.lose_reply-replied.new.world) c.reply.ensures c.lose_reply-replied.ensures.loses)
    (subst (λ (cs : List Carried). LosesTo cs [] c.lose_reply-replied.new.world c.lose_body.result c.lose_body.new.world) (c.as_slice.ensures ∙ c.rights.ensures) c.lose_body.ensures.loses) _ c.saturating_add.ensures)

pub returns-clause-spaces : goal.returns-clause-spaces
returns-clause-spaces c = c.lose_body.ensures.spaces ∙ c.lose_reply-replied.ensures.spaces
