use Rattle.std.proofs.Common.{◌≡◌, [], ◌∷◌, rules}
use Rattle.tracer_base.proofs.HexLemmas.{digits_unless_dash}
use Rattle.tracer_base.proofs.hexadecimal.parse_bytes.Goals as goal
use Rattle.tracer_base.proofs.hexadecimal.parse_bytes.Goals.{in_default-via-then-text-lt2+in_default-1, in_default-via-else-text-lt2}

pub returns-in_err-parse_pairs-in_default-clause-each :
    goal.returns-in_err-parse_pairs-in_default-clause-each
returns-in_err-parse_pairs-in_default-clause-each c =
    λ bytes small same.
    let no_dash : c.args.text.now ≡ 45 ∷ [] → ⊥ = λ e. elim c.in_default.branch [
      | in_default-via-then-text-lt2+in_default-1 w ↦ search (rules, e)
      | in_default-via-else-text-lt2 w ↦ search (rules, e)
    ] in
    let kept = c.parse_pairs.ensures.each bytes small (digits_unless_dash bytes c.args.text.now same no_dash) in
    search (rules, kept)
