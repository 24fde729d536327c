use Rattle.std.proofs.Common.{rules, ◌≡◌, ℕ, ◌++◌, [], Err, flat_map, refl, ap, sym, ◌∙◌, append_assoc}
use Rattle.std.proofs.lemmas.List.Elements.{All-push}
use Rattle.text_reader.specs.declared.script.ScriptFault.{ScriptFault}
use Rattle.text_reader.specs.declared.script.ScriptFault.TheVariants.{BadCall, OutOfMemory}
use Rattle.tracer_base.specs.Calls.{Fits, line_text}
use Rattle.tracer_base.proofs.CallLemmas.{next_line}
use Rattle.tracer_base.proofs.WordLemmas.{texts_push}
use Rattle.text_reader.proofs.script.read_script.Goals as goal

-- a fault that names no line is want of memory
memory : (fault : ScriptFault) → ((n : ℕ) → fault ≡ BadCall n → ⊥) → fault ≡ OutOfMemory
memory (BadCall n) bad = absurd (bad n refl)
memory OutOfMemory bad = refl

pub returns-in_err-event-clause-each : goal.returns-in_err-event-clause-each
returns-in_err-event-clause-each c =
    λ all fit same.
    let inv = c.loop-rest.invariant in
    let some : c.loop-rest.rest.now ≡ [] → ⊥ = search rules in
    let good = next_line c.loop-rest.events.items all c.loop-rest.rest.now inv.0 fit (inv.1 ∙ sym same) some in
    let fault = memory c.in_err-event.field-0.0 (λ n told. good (c.read_line.ensures.bad n (c.in_err-event.was ∙ ap Err told)).1) in
    search (rules, fault)

pub loop-rest-preserved : goal.loop-rest-preserved
loop-rest-preserved c =
    let inv = c.loop-rest.invariant in
    let read = c.in_ok-event.ensures.ok in
    let done = c.loop-rest.events.items in
    let event = c.in_ok-event.event in
    rw c.in_ok-push.ensures.items (
      All-push Fits done event inv.0 read.0,
      ap (λ t. t ++ c.in_ok-event.others.now) (texts_push line_text done event)
          ∙ append_assoc (flat_map line_text done) (line_text event) c.in_ok-event.others.now
          ∙ ap (λ t. flat_map line_text done ++ t) read.1
          ∙ inv.1,
    )
