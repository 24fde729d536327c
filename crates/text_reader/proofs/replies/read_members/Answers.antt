use Rattle.std.proofs.Common.{rules, ◌≡◌, [], sym, ◌∙◌, ◌<◌, ◌^◌, decimal}
use Rattle.tracer_base.proofs.WordLemmas.{next_of}
use Rattle.text_reader.proofs.replies.read_members.Goals as goal

pub returns-in_err-name-clause-read : goal.returns-in_err-name-clause-read
returns-in_err-name-clause-read c =
    λ names small same.
    let some : c.loop-words.words ≡ [] → ⊥ = search rules in
    let next = next_of decimal (λ name. name < 2 ^ 32) c.loop-words.names.items names c.loop-words.words small (c.loop-words.invariant.1 ∙ sym same) some in
    let read = c.name.ensures.read next.0 next.1 next.2 next.3 in
    search (rules, read)
