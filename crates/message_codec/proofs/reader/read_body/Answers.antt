use Rattle.std.proofs.Common.{List, ℕ, drop, refl, sym, subst, ◌∙◌, arith}
use Rattle.std.proofs.lemmas.List.{length-drop}
use Rattle.mach_types.specs.Grammar.{raw, items}
use Rattle.mach_types.specs.TextGuards.{word_at, is_bit}
use Rattle.type_descriptor.proofs.ByteWords.{AreBytes, not_true, word_at-lt}
use Rattle.message_codec.proofs.Messages.{no_flag, flag_is}
use Rattle.message_codec.proofs.reader.read_body.Goals as goal

pub returns-then-not-is_complex-clause-some : goal.returns-then-not-is_complex-clause-some
returns-then-not-is_complex-clause-some c =
    let bytes : List ℕ = c.args.bytes.now in
    let are : AreBytes bytes = record { below = λ k. omega (arith, c.type_inv.bytes k) } in
    let plain : ¬ (is_bit (word_at bytes 0) 31) =
    λ h. not_true (c.if-not-is_complex.ensures.1 (subst (λ (n : ℕ). is_bit n 31) (sym c.read_word.ensures) h)) in
    record {
      written = raw (drop 24 bytes);
      text = refl;
      fits = omega (arith, length-drop 24 bytes, c.requires.room, c.requires.whole);
      flag = no_flag (word_at bytes 0) (word_at-lt bytes 0 are) plain;
      shows = c.split_at.ensures.back;
    }

pub returns-in-Ok-clause-some : goal.returns-in-Ok-clause-some
returns-in-Ok-clause-some c =
    let bytes : List ℕ = c.args.bytes.now in
    let are : AreBytes bytes = record { below = λ k. omega (arith, c.type_inv.bytes k) } in
    let complex : is_bit (word_at bytes 0) 31 = subst (λ (n : ℕ). is_bit n 31) c.read_word.ensures (c.if-not-is_complex.ensures.0 refl) in
    let read = c.in-Ok.ensures.ok.1 in
    record {
      written = items read.xs;
      text = read.text;
      fits = read.fits;
      flag = flag_is (word_at bytes 0) (word_at-lt bytes 0 are) complex;
      shows = c.split_at.ensures.back ∙ read.text;
    }
