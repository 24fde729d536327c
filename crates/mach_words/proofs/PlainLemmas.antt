-- Plain text behind plain text.
use Rattle.std.proofs.Common.{◌≡◌, ℕ, List, ◌++◌, ap, ◌∙◌}
use Rattle.std.proofs.lemmas.List.{append_assoc}
use Rattle.std.proofs.lemmas.List.Elements.{All-append}
use Rattle.mach_words.specs.Plain.{IsPlain, IsPlainText}

-- What is added is plain.
abbrev pub AddsPlain : List ℕ → List ℕ → Type 0
AddsPlain a b = (shown : List ℕ) × IsPlainText shown × (b ≡ a ++ shown)

pub plain-more : (a b c : List ℕ) → AddsPlain a b → AddsPlain b c → AddsPlain a c
plain-more a b c (xs, p, first) (ys, q, next) = (xs ++ ys, All-append IsPlain xs ys p q, next ∙ ap (λ (l : List ℕ). l ++ ys) first ∙ append_assoc a xs ys)
