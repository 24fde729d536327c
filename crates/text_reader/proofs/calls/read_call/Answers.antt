use Rattle.std.proofs.Common.{rules, ◌≡◌, [], ◌∙◌, sym, ap, append-nil}
use Rattle.tracer_base.proofs.CallLemmas.{plain-call}
use Rattle.tracer_base.proofs.WordLemmas.{words-line, line_of_words}
use Rattle.tracer_base.specs.Calls.{call_arguments, call_word, call_words}
use Rattle.tracer_base.specs.Words.{words}
use Rattle.text_reader.proofs.calls.read_call.Goals as goal

pub returns-in_err-event-clause-each : goal.returns-in_err-event-clause-each
returns-in_err-event-clause-each c =
    λ event fits same.
    let whole = words-line (call_word event) (call_arguments event) (plain-call event fits) in
    let read = c.next_call.ensures.read event [] fits (append-nil (call_words event) ∙ sym whole ∙ ap words same ∙ sym c.of-words.ensures) in
    search (rules, read)

pub returns-in_err-end-clause-each : goal.returns-in_err-end-clause-each
returns-in_err-end-clause-each c =
    λ event fits same.
    let whole = words-line (call_word event) (call_arguments event) (plain-call event fits) in
    let read = c.next_call.ensures.read event [] fits (append-nil (call_words event) ∙ sym whole ∙ ap words same ∙ sym c.of-words.ensures) in
    absurd (search (rules, read))

pub returns-clause-ok : goal.returns-clause-ok
returns-clause-ok c =
    let left : c.next_call.new.words ≡ [] = search rules in
    line_of_words (call_words c.in_ok-event.event) c.next_call.new.words c.args.text.now (c.in_ok-event.ensures.ok ∙ c.of-words.ensures) left
