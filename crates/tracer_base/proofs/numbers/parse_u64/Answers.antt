use Rattle.std.proofs.Common.{ap, rules, sym, subst, ◌∙◌, ◌≤◌, ◌<◌, length, Some}
use Rattle.std.specs.Result.{result_ok}
use Rattle.std.specs.Str.Parse.{ParsesUnsigned}
use Rattle.std.proofs.lemmas.Fmt.{parse-decimal}
use Rattle.tracer_base.specs.Numbers.{HasPlainStart}
use Rattle.tracer_base.proofs.NumberLemmas.{HasPlainStart-decimal, decimal-parsed, decimal-one, only-one}
use Rattle.tracer_base.proofs.numbers.parse_u64.Goals as goal

pub returns-then-not-has_plain_start-clause-each :
    goal.returns-then-not-has_plain_start-clause-each
returns-then-not-has_plain_start-clause-each c =
    λ n small same.
    let plain : HasPlainStart c.args.text.now = subst HasPlainStart same (HasPlainStart-decimal n small) in
    let yes = c.has_plain_start.ensures.1 plain in
    absurd (search (rules, yes))

pub returns-in-len1-clause-spelled : goal.returns-in-len1-clause-spelled
returns-in-len1-clause-spelled c =
    let plain : HasPlainStart c.args.text.now = search rules in
    let some : 1 ≤ length c.args.text.now = search rules in
    let short : length c.args.text.now < 2 = search rules in
    rw c.from.ensures (decimal-one c.args.text.now plain some short)

pub returns-in-len1-clause-each : goal.returns-in-len1-clause-each
returns-in-len1-clause-each c =
    λ n small same.
    let plain : HasPlainStart c.args.text.now = search rules in
    let some : 1 ≤ length c.args.text.now = search rules in
    let short : length c.args.text.now < 2 = search rules in
    ap Some (c.from.ensures ∙ only-one c.args.text.now n plain some short small same)

pub returns-in_default-clause-spelled : goal.returns-in_default-clause-spelled
returns-in_default-clause-spelled c =
    let plain : HasPlainStart c.args.text.now = search rules in
    let parsed : ParsesUnsigned 64 10 c.args.text.now c.parse_u64.result = search rules in
    rw c.ok.ensures.value (decimal-parsed c.args.text.now c.parse_u64.result plain parsed)

pub returns-in_default-clause-each : goal.returns-in_default-clause-each
returns-in_default-clause-each c =
    λ n small same.
    let parsed : ParsesUnsigned 64 10 c.args.text.now c.parse_u64.result = search rules in
    let read = parse-decimal 64 n c.args.text.now c.parse_u64.result small small (sym same) parsed in
    rw c.ok.ensures.value (ap (λ r. result_ok r) read)
