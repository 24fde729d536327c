use Rattle.std.proofs.Common.{rules, ◌≡◌, [], ◌∙◌, sym, ap}
use Rattle.tracer_base.proofs.WordLemmas.{line_of_words}
use Rattle.tracer_base.specs.Words.{words}
use Rattle.tracer.specs.Histories.{entry_words}
use Rattle.tracer.proofs.EntryLemmas.{words-entry}
use Rattle.tracer.proofs.lines.read_entry.Goals as goal

pub returns-in_err-entry-clause-each : goal.returns-in_err-entry-clause-each
returns-in_err-entry-clause-each c =
    λ entry fits same.
    let read = c.next_entry.ensures.read entry fits (sym (words-entry entry fits) ∙ ap words same ∙ sym c.of-words.ensures) in
    search (rules, read)

pub returns-in_err-end-clause-each : goal.returns-in_err-end-clause-each
returns-in_err-end-clause-each c =
    λ entry fits same.
    let read = c.next_entry.ensures.read entry fits (sym (words-entry entry fits) ∙ ap words same ∙ sym c.of-words.ensures) in
    absurd (search (rules, read))

pub returns-clause-ok : goal.returns-clause-ok
returns-clause-ok c =
    let left : c.next_entry.new.words ≡ [] = search rules in
    line_of_words (entry_words c.in_ok-entry.entry) c.next_entry.new.words c.args.text.now (c.in_ok-entry.ensures.ok ∙ c.of-words.ensures) left
