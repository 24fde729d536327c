-- The replies so far and the kernel are those of a run over the events so far.
use Rattle.std.proofs.Common.{arith, ◌≡◌, List, [], sym, subst, ◌∙◌, length, take}
use Rattle.std.proofs.lemmas.List.{take_more, take_all}
use Rattle.mach_types.specs.declared.calls.Event.{Event}
use Rattle.mach_types.specs.declared.calls.Reply.{Reply}
use Rattle.mach_model.specs.State.{opening_in}
use Rattle.mach_laws.specs.Queued.{unused_onces}
use Rattle.mach_laws.proofs.Dying.{Followed, followed_start, followed_push, followed_run, followed_headline}
use Rattle.kernel_core.proofs.runs.run_with.Goals as goal

pub loop-event-init : goal.loop-event-init
loop-event-init c = (opening_in c.args.profile, subst (λ (xs : List Reply). Followed c.args.profile [] xs (opening_in c.args.profile) c.with_profile-kernel.result.tables.ports.spare) (sym c.new-replies.ensures.items) (rw c.with_profile-kernel.ensures.none (followed_start c.args.profile)), c.with_profile-kernel.ensures.shows, omega arith)

pub loop-event-preserved : goal.loop-event-preserved
loop-event-preserved c =
    let inv = c.loop-event.invariant in
    let events = c.deref-event-items.result.now in
    let before = take c.loop-event.event-index events in
    let step = c.step-reply.ensures.answers (length before) inv.0 inv.2 in
    let same : c.step-reply.new.self.tables.ledger.unused ≡ unused_onces step.0 = c.step-reply.ensures.unused step.0 step.2 in
    let more = take_more events c.loop-event.event-index c.event-item.result c.loop-event-test.true in
    let pushed = followed_push c.args.profile before c.loop-event.replies.items inv.0 c.loop-event.kernel.tables.ports.spare c.event-item.result c.step-reply.result step.0 c.step-reply.new.self.tables.ports.spare inv.1
    step.1 (c.step-reply.ensures.spares.slots inv.0 step.0 inv.2 step.2) in
    let enough = step.2.slots in
    (step.0, rw (more, c.in_ok-push.ensures.items, ← c.event-item.is) pushed, step.2, omega (arith, enough, same))

pub returns : goal.returns
returns c =
    let inv = c.loop-event.invariant in
    let spare = c.loop-event.kernel.tables.ports.spare in
    let events : c.deref-event-items.result.now ≡ c.args.events.items = c.deref-event-items.ensures.value in
    let whole = take_all c.loop-event.event-index c.deref-event-items.result.now c.loop-event-test.false ∙ events in
    let so_far = subst (λ (xs : List Event). Followed c.args.profile xs c.loop-event.replies.items inv.0 spare) whole inv.1 in
    let replies = c.loop-event.replies.items in
    let headline = followed_headline c.args.profile c.args.events.items replies inv.0 spare so_far in
    (inv.0, followed_run c.args.profile c.args.events.items replies inv.0 spare so_far, inv.2, headline.0, headline.1, headline.2, inv.3)
