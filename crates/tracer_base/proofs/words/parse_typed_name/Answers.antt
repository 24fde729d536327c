use Rattle.std.proofs.Common.{rules, decimal}
use Rattle.tracer_base.specs.Text.{code_text}
use Rattle.tracer_base.specs.Words.{Lacks}
use Rattle.tracer_base.proofs.WordLemmas.{typed_parts, parted-lacks}
use Rattle.tracer_base.proofs.words.parse_typed_name.Goals as goal

pub returns-in_err-name-clause-each : goal.returns-in_err-name-clause-each
returns-in_err-name-clause-each c =
    λ entry fits same.
    let lacks : Lacks 58 c.args.text.now = search rules in
    absurd (parted-lacks 58 (decimal entry.0) (code_text entry.1) c.args.text.now same lacks)

pub returns-in_err-parse_u32-clause-each : goal.returns-in_err-parse_u32-clause-each
returns-in_err-parse_u32-clause-each c =
    λ entry fits same.
    let found = c.in_ok-name.ensures in
    let parts = typed_parts entry c.args.text.now _ _ fits.0 same found.some found.first in
    let read = c.parse_u32.ensures.each entry.0 fits.0 parts.0 in
    absurd (search (rules, read))

pub returns-in_err-parse_code-clause-each : goal.returns-in_err-parse_code-clause-each
returns-in_err-parse_code-clause-each c =
    λ entry fits same.
    let found = c.in_ok-name.ensures in
    let parts = typed_parts entry c.args.text.now _ _ fits.0 same found.some found.first in
    let read = c.parse_code.ensures.each entry.1 fits.1 parts.1 in
    absurd (search (rules, read))
