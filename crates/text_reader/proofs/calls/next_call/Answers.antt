use Rattle.std.proofs.Common.{rules, ◌++◌, ◌∙◌, sym}
use Rattle.tracer_base.proofs.CallLemmas.{is_plain-call_word}
use Rattle.tracer_base.proofs.WordLemmas.{IsAscii-plain, first_word}
use Rattle.tracer_base.specs.Calls.{call_arguments, call_word}
use Rattle.text_reader.proofs.calls.next_call.Goals as goal

pub returns-in_err-keyword-clause-read : goal.returns-in_err-keyword-clause-read
returns-in_err-keyword-clause-read c =
    λ event behind fits same.
    let read = c.keyword.ensures.read (call_word event) (call_arguments event ++ behind) (IsAscii-plain (call_word event) (is_plain-call_word event)) same in
    search (rules, read)

pub returns-clause-read : goal.returns-clause-read
returns-clause-read c =
    λ event behind fits same.
    let parts = first_word (call_word event) _ (call_arguments event ++ behind) _ (same ∙ sym c.in_ok-keyword.ensures.ok) in
    c.read_arguments.ensures.read event behind fits parts.0 parts.1
