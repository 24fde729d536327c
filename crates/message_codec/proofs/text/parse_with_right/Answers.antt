use Rattle.std.proofs.Common.{◌≡◌, ℕ, ◌/◌, ◌%◌, ◌^◌, List, [], ◌∷◌, refl, sym, ap, subst, ◌∙◌, inl, arith, length}
use Rattle.mach_types.specs.Grammar.{items}
use Rattle.mach_types.specs.TextGuards.{word_at, is_bit}
use Rattle.type_descriptor.proofs.ByteWords.{AreBytes}
use Rattle.message_codec.specs.declared.spans.Span.{Span}
use Rattle.message_codec.specs.declared.words.PortWord.{PortWord}
use Rattle.message_codec.specs.Parses.{header_at}
use Rattle.message_codec.specs.Short.{one_word_span}
use Rattle.message_codec.specs.Received.{IsLaidOut}
use Rattle.message_codec.proofs.Messages.{local_of}
use Rattle.message_codec.proofs.OneWord.{one_first, one_wire, one-message, one-words, one-descriptor}
use Rattle.message_codec.proofs.Spelling.{laid_out-parsed}
use Rattle.message_codec.proofs.text.parse_with_right.Goals as goal

pub returns-in_default-clause-none : goal.returns-in_default-clause-none
returns-in_default-clause-none c = λ parsed p lone. p.message.unrefused _ (inl c.in_default.ensures.err)

pub returns-in_default-one_disposition-clause-none : goal.returns-in_default-one_disposition-clause-none
returns-in_default-one_disposition-clause-none c = λ parsed p lone.
    let bytes : List ℕ = c.args.bytes.now in
    let d : ℕ = lone.one.0 in
    let laid : IsLaidOut bytes (one_word_span d ∷ []) p.written = subst (λ (spans : List Span). IsLaidOut bytes spans p.written) lone.one.1 (laid_out-parsed bytes parsed p) in
    let t = one-descriptor bytes d p.written laid in
    c.in_default-one_disposition.ensures.none d t.0 (c.read_word.ensures ∙ t.1)

pub returns-clause-some : goal.returns-clause-some
returns-clause-some c =
    let bytes : List ℕ = c.args.bytes.now in
    let are : AreBytes bytes = record { below = λ k. omega (arith, c.type_inv.bytes k) } in
    let complex : is_bit (word_at bytes 0) 31 = subst (λ (n : ℕ). is_bit n 31) c.read_word-bits.ensures (c.is_complex.ensures.0 c.if-not-is_complex.false) in
    let alone : 0 ≡ word_at bytes 0 / 2 ^ 8 % 2 ^ 8 =
    sym c.if-local_kind-ne0.false ∙ c.local_kind.ensures ∙ ap (λ (n : ℕ). n / 2 ^ 8 % 2 ^ 8) c.read_word-bits.ensures in
    let descriptor : word_at bytes 24 ≡ one_first c.in-Some.disposition = sym c.read_word.ensures ∙ c.in-Some.ensures.some.1 in
    let len : length bytes ≡ 32 = omega (arith, c.if-bytes-ne-ONE_RIGHT_BYTES.false) in
    record {
      parses = record {
        header = header_at bytes;
        written = items (one_wire c.in-Some.disposition (word_at bytes 28) ∷ []);
        message = one-message bytes c.in-Some.disposition are c.in-Ok.ensures.ok complex len c.in-Some.ensures.some.0 descriptor;
        remote_kind = ap (λ (w : PortWord). w.disposition) c.destination_word.ensures ∙ ap (λ (n : ℕ). n % 2 ^ 8) c.read_word-bits.ensures;
        local_kind = alone;
        remote = ap (λ (w : PortWord). w.name) c.destination_word.ensures;
        local = local_of bytes c.in-Ok.ensures.ok alone;
        id = c.read_word-3.ensures;
        is_complex = refl;
        spans = refl;
      };
      words = λ p. one-words bytes c.in-Some.disposition c.new-name.result p.written (laid_out-parsed bytes _ p) (c.new-name.ensures ∙ c.read_word-2.ensures);
      answered = λ word is. absurd (cc);
    }
