use Rattle.std.proofs.Common.{rules, ◌≡◌, [], sym, ◌∙◌}
use Rattle.tracer_base.specs.Replies.{typed_name_text, FitsTypedName}
use Rattle.tracer_base.proofs.WordLemmas.{next_of}
use Rattle.text_reader.proofs.replies.read_names.Goals as goal

pub returns-in_err-entry-clause-read : goal.returns-in_err-entry-clause-read
returns-in_err-entry-clause-read c =
    λ names small same.
    let some : c.loop-words.words ≡ [] → ⊥ = search rules in
    let next = next_of typed_name_text FitsTypedName c.loop-words.names.items names c.loop-words.words small (c.loop-words.invariant.1 ∙ sym same) some in
    let read = c.typed_name.ensures.read next.0 next.1 next.2 next.3 in
    search (rules, read)
