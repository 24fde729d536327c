use Rattle.std.proofs.Common.{rules, [], ◌∙◌, append-nil}
use Rattle.tracer_base.specs.Text.{waited_words}
use Rattle.text_reader.proofs.replies.read_empty.Goals as goal

pub returns-in_err-waited-clause-read : goal.returns-in_err-waited-clause-read
returns-in_err-waited-clause-read c =
    λ waited fits same.
    let read = c.waited.ensures.read waited [] fits (append-nil (waited_words waited) ∙ same) in
    search (rules, read)

pub returns-clause-read : goal.returns-clause-read
returns-clause-read c =
    λ waited fits same. c.in_ok-waited.ensures.read waited [] fits (append-nil (waited_words waited) ∙ same)
