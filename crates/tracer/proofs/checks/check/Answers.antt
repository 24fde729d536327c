use Rattle.std.proofs.Common.{rules, refl, ◌≡◌, ◌+◌, ◌<◌, Ok, List, ap, ◌∙◌, subst, length, get_or}
use Rattle.std.proofs.lemmas.List.{take_all}
use Rattle.mach_types.specs.declared.profiles.Profile.{Profile}
use Rattle.mach_model.specs.State.{opening_in}
use Rattle.copyin_base.specs.Shows.{Shows}
use Rattle.kernel_core.specs.Answers.{Answers}
use Rattle.kernel_lock.specs.declared.entry.Entry.{Entry}
use Rattle.kernel_lock.specs.History.{Legal}
use Rattle.kernel_lock.proofs.Replaying.{legal_of}
use Rattle.tracer.specs.Checks.{IsUnconfirmed, MayLackMemory}
use Rattle.tracer.proofs.CheckLemmas.{replays-none, replays-at, unconfirmed-at, lacking-at}
use Rattle.tracer.proofs.checks.check.Goals as goal

pub loop-entry-init : goal.loop-entry-init
loop-entry-init c =
    let profile = c.args.history.now.profile in
    let kernel = c.with_profile-kernel.result in
    let shown = subst (λ (p : Profile). Shows kernel.tables (opening_in p)) c.profile.ensures.profile c.with_profile-kernel.ensures.shows in
    (replays-none profile kernel shown, refl)

pub returns-then-not-branch-clause-not : goal.returns-then-not-branch-clause-not
returns-then-not-branch-clause-not c =
    λ n told.
    let history = c.args.history.now in
    let inv = c.loop-entry.invariant in
    let entries = c.entries-entry-items.result.now in
    let i = c.loop-entry.entry-index in
    let same : entries ≡ history.entries = c.entries-entry-items.ensures in
    let low : i < length entries = c.loop-entry-test.true in
    let here : get_or entries i c.entry-item.result ≡ c.entry-item.result = search rules in
    let number : i + 1 ≡ n = search (rules, told, inv.1) in
    subst (λ (l : List Entry). IsUnconfirmed history.profile l n) same
    (unconfirmed-at history.profile entries i n c.entry-item.result c.loop-entry.kernel low here number inv.0 (c.in_ok-confirm.ensures.not (ap Ok c.if-not-branch.true)))

pub loop-entry-preserved : goal.loop-entry-preserved
loop-entry-preserved c =
    let history = c.args.history.now in
    let inv = c.loop-entry.invariant in
    let entries = c.entries-entry-items.result.now in
    let i = c.loop-entry.entry-index in
    let e = c.entry-item.result in
    let low : i < length entries = c.loop-entry-test.true in
    let here : get_or entries i e ≡ e = search rules in
    let step : Answers c.loop-entry.kernel.tables e.event e.reply c.confirm.new.kernel.tables = c.in_ok-confirm.ensures.confirmed (ap Ok c.if-not-branch.false) in
    (replays-at history.profile entries i e c.loop-entry.kernel c.confirm.new.kernel low here inv.0 step, ap (λ n. n + 1) inv.1)

pub invariant_of-result : goal.invariant_of-result
invariant_of-result c =
    let profile = c.args.history.now.profile in
    let whole = take_all c.loop-entry.entry-index c.entries-entry-items.result.now c.loop-entry-test.false ∙ c.entries-entry-items.ensures in
    subst (Legal profile) whole (legal_of profile _ c.loop-entry.kernel c.loop-entry.invariant.0)

pub returns-clause-legal : goal.returns-clause-legal
returns-clause-legal c =
    let profile = c.args.history.now.profile in
    let whole = take_all c.loop-entry.entry-index c.entries-entry-items.result.now c.loop-entry-test.false ∙ c.entries-entry-items.ensures in
    subst (Legal profile) whole (legal_of profile _ c.loop-entry.kernel c.loop-entry.invariant.0)

pub returns-in_err-confirm-clause-memory : goal.returns-in_err-confirm-clause-memory
returns-in_err-confirm-clause-memory c =
    λ told.
    let history = c.args.history.now in
    let entries = c.entries-entry-items.result.now in
    let i = c.loop-entry.entry-index in
    let same : entries ≡ history.entries = c.entries-entry-items.ensures in
    let low : i < length entries = c.loop-entry-test.true in
    let here : get_or entries i c.entry-item.result ≡ c.entry-item.result = search rules in
    subst (MayLackMemory history.profile) same
    (lacking-at history.profile entries i c.entry-item.result c.loop-entry.kernel low here c.loop-entry.invariant.0 c.in_err-confirm.ensures.memory)
