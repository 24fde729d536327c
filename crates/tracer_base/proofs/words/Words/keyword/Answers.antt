use Rattle.std.proofs.Common.{rules, ◌≡◌, subst}
use Rattle.std.specs.Str.{IsUtf8}
use Rattle.std.proofs.lemmas.Str.{IsUtf8-from_ascii}
use Rattle.tracer_base.proofs.words.Words.keyword.Goals as goal

pub returns-in-Err-clause-read : goal.returns-in-Err-clause-read
returns-in-Err-clause-read c =
    λ word behind ascii same.
    let read = c.in_ok-word.ensures.ok in
    let first : word ≡ c.in_ok-word.field-0.now = cc in
    let text : IsUtf8 c.in_ok-word.field-0.now = subst IsUtf8 first (IsUtf8-from_ascii word ascii) in
    absurd (search (rules, text))
