use Rattle.std.proofs.Common.{rules, ◌≡◌, ◌≢◌, ◌∙◌, [], Err, flat_map, length, ap, sym, append_assoc}
use Rattle.std.proofs.lemmas.List.Elements.{All-push}
use Rattle.tracer.specs.Histories.{heading, entry_line, FitsLine, HasNoHeading}
use Rattle.tracer.proofs.EntryLemmas.{next_line, behind, memory, reads_more, read_all, same_history}
use Rattle.tracer.proofs.histories.read_history.Goals as goal

pub returns-in_default-clause-each : goal.returns-in_default-clause-each
returns-in_default-clause-each c =
    λ profile entries fit same.
    let none : HasNoHeading c.args.text.now = search rules in
    absurd (none profile (flat_map entry_line entries) same)

pub returns-in_err-entry-clause-each : goal.returns-in_err-entry-clause-each
returns-in_err-entry-clause-each c =
    λ profile all fit same.
    let inv = c.loop-rest.invariant in
    let some : c.loop-rest.rest.now ≢ [] = search rules in
    let read = c.loop-rest.entries.items in
    let left = behind c.in-Some.profile profile _ _ (sym (append_assoc (heading c.in-Some.profile) (flat_map entry_line read) c.loop-rest.rest.now) ∙ inv.1 ∙ sym same) in
    let good = next_line read all c.loop-rest.rest.now inv.0 fit left.1 some in
    let fault = memory c.in_err-entry.field-0.0 (λ n told. good (c.numbered_line.ensures.bad n (c.in_err-entry.was ∙ ap Err told)).1) in
    search (rules, fault)

pub loop-rest-preserved : goal.loop-rest-preserved
loop-rest-preserved c =
    let inv = c.loop-rest.invariant in
    let read = c.in_ok-entry.ensures in
    let done = c.loop-rest.entries.items in
    rw c.in_ok-push.ensures.items (
      All-push FitsLine done c.in_ok-entry.entry inv.0 read.fits,
      reads_more c.in-Some.profile done c.in_ok-entry.entry c.loop-rest.rest.now c.in_ok-entry.others.now c.args.text.now inv.1 read.ok,
    )

pub returns-clause-same : goal.returns-clause-same
returns-clause-same c =
    λ profile all fit same.
    let inv = c.loop-rest.invariant in
    let none : length c.loop-rest.rest.now ≡ 0 = search rules in
    let read = read_all c.in-Some.profile c.loop-rest.entries.items c.loop-rest.rest.now c.args.text.now inv.1 none in
    same_history c.in-Some.profile profile c.loop-rest.entries.items all inv.0 fit (read ∙ sym same)
