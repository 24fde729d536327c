-- A number in two halves of 32 bits.
use Rattle.std.specs.Prelude.{◌≡◌, ℕ, ◌+◌, ◌*◌, ◌/◌, ◌%◌, ◌^◌, ◌<◌}
use Rattle.std.proofs.Common.{ap, ◌∙◌}
use Rattle.std.proofs.lemmas.Nat.{div-mul-add, mod-mul-add}

-- what is made of the halves of the number that two halves make is what is made of the two
pub same_halves : {A : Type 0} (f : ℕ → ℕ → A) (low high : ℕ) → low < 2 ^ 32 → f ((high * 2 ^ 32 + low) % 2 ^ 32) ((high * 2 ^ 32 + low) / 2 ^ 32) ≡ f low high
same_halves f low high h =
    ap (λ l. f l ((high * 2 ^ 32 + low) / 2 ^ 32)) (mod-mul-add high (2 ^ 32) low h) ∙ ap (f low) (div-mul-add high (2 ^ 32) low h)
