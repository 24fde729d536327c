use Rattle.std.proofs.Common.{◌≡◌, ◌≢◌, ◌<◌, ◌^◌, ap, sym, ◌∙◌, subst, arith}
use Rattle.std.specs.Int.{bit_at, w64}
use Rattle.std.proofs.lemmas.Nat.Bits.{bit_at_ones, bit_at-trailing_ones}
use Rattle.name_space_base.proofs.bits.first_clear.Goals as goal

pub returns-then-word-eq18446744073709551615-clause-below : goal.returns-then-word-eq18446744073709551615-clause-below
returns-then-word-eq18446744073709551615-clause-below c = λ i h. subst (λ w. bit_at w i ≡ 1) (sym c.if-word-eq18446744073709551615.true) (bit_at_ones 64 i h)

pub returns-clause-below : goal.returns-clause-below
returns-clause-below c =
    let fits : c.args.word < 2 ^ 64 = c.ranges.word.fits in
    let not_all : c.args.word ≢ 18446744073709551615 = c.if-word-eq18446744073709551615.false in
    λ i h. (bit_at-trailing_ones w64 c.args.word (omega arith)).2 i (subst (λ n. i < n) c.trailing_ones.ensures h)

pub returns-clause-clear : goal.returns-clause-clear
returns-clause-clear c =
    let fits : c.args.word < 2 ^ 64 = c.ranges.word.fits in
    let not_all : c.args.word ≢ 18446744073709551615 = c.if-word-eq18446744073709551615.false in
    λ _. ap (bit_at c.args.word) c.trailing_ones.ensures ∙ (bit_at-trailing_ones w64 c.args.word (omega arith)).1
