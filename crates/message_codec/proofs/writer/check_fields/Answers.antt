use Rattle.std.proofs.Common.{ℕ, ◌<◌, ◌^◌, refl, subst, arith}
use Rattle.mach_types.specs.TextGuards.{BadHeader}
use Rattle.message_codec.specs.Writing.{written_length}
use Rattle.message_codec.proofs.FieldTexts.{header-refused, short_length}
use Rattle.message_codec.proofs.writer.check_fields.Goals as goal

pub returns-then-is_bad_header-clause-err : goal.returns-then-is_bad_header-clause-err
returns-then-is_bad_header-clause-err c = λ h has.
    let w = c.args.header.now in
    let small : w.local < 2 ^ 32 = rw (← c.number.ensures) (omega (arith, c.number.type_inv)) in
    header-refused w h c.args.body.now has small (c.if-not-is_whole.ensures.0 refl) (short_length c.args.len (written_length c.args.body.now) c.requires (omega (arith, c.if-len-gt-MOST_BYTES.false))) (subst (λ (n : ℕ). BadHeader w.bits n) c.number.ensures (c.if-is_bad_header.ensures.0 refl))
