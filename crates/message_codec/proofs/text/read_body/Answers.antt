use Rattle.std.proofs.Common.{List, ℕ, refl, sym, subst, arith}
use Rattle.mach_types.specs.TextGuards.{word_at, is_bit}
use Rattle.type_descriptor.proofs.ByteWords.{AreBytes, not_true}
use Rattle.message_codec.proofs.Messages.{raw-body, body-read, body-refused}
use Rattle.message_codec.proofs.text.read_body.Goals as goal

pub returns-then-is_complex-clause-ok : goal.returns-then-is_complex-clause-ok
returns-then-is_complex-clause-ok c =
    let bytes : List ℕ = c.args.bytes.now in
    let are : AreBytes bytes = record { below = λ k. omega (arith, c.type_inv.bytes k) } in
    let complex : is_bit (word_at bytes 0) 31 = subst (λ (n : ℕ). is_bit n 31) c.read_word.ensures (c.if-is_complex.ensures.0 refl) in
    body-read c.read_spans.result c.read_spans.new.spans.items bytes are c.requires.judged complex c.read_spans.ensures.ok

pub returns-then-is_complex-clause-err : goal.returns-then-is_complex-clause-err
returns-then-is_complex-clause-err c =
    let bytes : List ℕ = c.args.bytes.now in
    let are : AreBytes bytes = record { below = λ k. omega (arith, c.type_inv.bytes k) } in
    let complex : is_bit (word_at bytes 0) 31 = subst (λ (n : ℕ). is_bit n 31) c.read_word.ensures (c.if-is_complex.ensures.0 refl) in
    body-refused c.read_spans.result bytes are c.requires.judged complex c.read_spans.ensures.err

pub returns-else-is_complex-clause-ok : goal.returns-else-is_complex-clause-ok
returns-else-is_complex-clause-ok c =
    let bytes : List ℕ = c.args.bytes.now in
    let are : AreBytes bytes = record { below = λ k. omega (arith, c.type_inv.bytes k) } in
    let plain : ¬ (is_bit (word_at bytes 0) 31) =
    λ h. not_true (c.if-is_complex.ensures.1 (subst (λ (n : ℕ). is_bit n 31) (sym c.read_word.ensures) h)) in
    raw-body bytes c.args.spans.now.items are c.requires.judged plain c.requires.none
