use Rattle.std.proofs.Common.{◌≡◌, ◌<◌, ◌≤◌, ◌-◌, ◌∷◌, ℕ, length, take, drop, rules, arith, ap, sym, ◌∙◌}
use Rattle.std.specs.List.{slice_index_or}
use Rattle.tracer_base.proofs.WordLemmas.{digit_then, two_digits_then, first_two, first_three}
use Rattle.tracer_base.proofs.words.split_small.Goals as goal
use Rattle.tracer_base.proofs.words.split_small.Goals.{then-text-lt3+else-text-lt48+then-text-lt58+in-32-1, else-text-lt3+in-48+in-32-1, else-text-lt3+in_default+else-text-lt48-2+then-text-lt58-2+in-32-1}

pub returns-in-49-to-57 : goal.returns-in-49-to-57
returns-in-49-to-57 c =
    let tens : 48 ≤ slice_index_or c.args.text.now 0 0 = search rules in
    let no_zero : slice_index_or c.args.text.now 0 0 ≡ 48 → ⊥ = search rules in
    let tens_most : slice_index_or c.args.text.now 0 0 < 58 = search rules in
    let ones : 48 ≤ slice_index_or c.args.text.now 1 0 = search rules in
    let ones_most : slice_index_or c.args.text.now 1 0 < 58 = search rules in
    let space : slice_index_or c.args.text.now 2 0 ≡ 32 = search rules in
    let some : 3 ≤ length c.args.text.now = search rules in
    let parts = first_three c.args.text.now some in
    let split =
    ap (λ (n : ℕ). slice_index_or c.args.text.now 0 0 ∷ slice_index_or c.args.text.now 1 0 ∷ n ∷ take (length c.args.text.now - 3) (drop 3 c.args.text.now)) (sym space) ∙ parts in (
      omega (arith, c.from.ensures, c.from-in-49-to-57.ensures, tens_most, ones_most),
      rw c.from.ensures (
          rw c.from-in-49-to-57.ensures (
          two_digits_then
          (slice_index_or c.args.text.now 0 0)
          (slice_index_or c.args.text.now 1 0)
          _
          c.args.text.now
          (omega (arith, tens, no_zero))
          (omega (arith, tens_most))
          ones
          (omega (arith, ones_most))
          split
          )
          ),
    )

pub returns-in-48-to-57 : goal.returns-in-48-to-57
returns-in-48-to-57 c =
    let facts : (48 ≤ slice_index_or c.args.text.now 0 0) × (slice_index_or c.args.text.now 0 0 < 58) × (slice_index_or c.args.text.now 1 0 ≡ 32) × (2 ≤ length c.args.text.now) =
    elim c.in-48-to-57-1.branch [
      | then-text-lt3+else-text-lt48+then-text-lt58+in-32-1 w ↦ (search rules, search rules, search rules, search rules)
      | else-text-lt3+in-48+in-32-1 w ↦ (search rules, search rules, search rules, search rules)
      | else-text-lt3+in_default+else-text-lt48-2+then-text-lt58-2+in-32-1 w ↦ (search rules, search rules, search rules, search rules)
    ] in
    let parts = first_two c.args.text.now facts.3 in
    let split = ap (λ (n : ℕ). slice_index_or c.args.text.now 0 0 ∷ n ∷ take (length c.args.text.now - 2) (drop 2 c.args.text.now)) (sym facts.2) ∙ parts in (
      omega (arith, c.from-in-48-to-57.ensures, facts.1),
      rw c.from-in-48-to-57.ensures (digit_then (slice_index_or c.args.text.now 0 0) _ c.args.text.now facts.0 (omega (arith, facts.1)) split),
    )
