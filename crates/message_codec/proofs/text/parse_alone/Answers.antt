use Rattle.std.proofs.Common.{◌≡◌, ℕ, ◌/◌, ◌%◌, ◌^◌, List, refl, sym, ap, subst, ◌∙◌, inl, arith, drop}
use Rattle.mach_types.specs.Grammar.{raw}
use Rattle.mach_types.specs.TextGuards.{word_at, is_bit}
use Rattle.type_descriptor.proofs.ByteWords.{AreBytes, not_true}
use Rattle.message_codec.specs.Parses.{header_at}
use Rattle.message_codec.specs.declared.words.PortWord.{PortWord}
use Rattle.message_codec.proofs.Messages.{raw-message, raw-words, local_of}
use Rattle.message_codec.proofs.text.parse_alone.Goals as goal

pub returns-in_default-clause-none : goal.returns-in_default-clause-none
returns-in_default-clause-none c = λ parsed p alone. p.message.unrefused _ (inl c.in_default.ensures.err)

pub returns-clause-some : goal.returns-clause-some
returns-clause-some c =
    let bytes : List ℕ = c.args.bytes.now in
    let are : AreBytes bytes = record { below = λ k. omega (arith, c.type_inv.bytes k) } in
    let plain : ¬ (is_bit (word_at bytes 0) 31) =
    λ h. not_true (sym c.if-is_complex.false ∙ c.is_complex.ensures.1 (subst (λ (n : ℕ). is_bit n 31) (sym c.read_word-bits.ensures) h)) in
    let alone : 0 ≡ word_at bytes 0 / 2 ^ 8 % 2 ^ 8 =
    sym c.if-local_kind-ne0.false ∙ c.local_kind.ensures ∙ ap (λ (n : ℕ). n / 2 ^ 8 % 2 ^ 8) c.read_word-bits.ensures in
    record {
      parses = record {
        header = header_at bytes;
        written = raw (drop 24 bytes);
        message = raw-message bytes are c.in-Ok.ensures.ok plain;
        remote_kind = ap (λ (w : PortWord). w.disposition) c.destination_word.ensures ∙ ap (λ (n : ℕ). n % 2 ^ 8) c.read_word-bits.ensures;
        local_kind = alone;
        remote = ap (λ (w : PortWord). w.name) c.destination_word.ensures;
        local = local_of bytes c.in-Ok.ensures.ok alone;
        id = c.read_word.ensures;
        is_complex = refl;
        spans = refl;
      };
      words = λ p. raw-words p.written (sym p.is_complex);
      answered = λ word is. absurd (cc);
    }
