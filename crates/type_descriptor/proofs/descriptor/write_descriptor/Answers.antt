use Rattle.std.proofs.Common.{◌≡◌, ◌+◌, ◌*◌, ◌^◌, ◌++◌, ℕ, Bool, true, List, length, take, drop, ap, subst, ◌∙◌, arith, ◌≤◌}
use Rattle.mach_types.specs.Grammar.{FitsForm}
use Rattle.mach_types.specs.Messages.{long}
use Rattle.type_descriptor.specs.Describes.{form_of, form_length}
use Rattle.type_descriptor.proofs.ByteWords.{three_words}
use Rattle.type_descriptor.proofs.Texts.{long_words}
use Rattle.type_descriptor.proofs.descriptor.write_descriptor.Goals as goal

pub returns-then-descriptor : goal.returns-then-descriptor
returns-then-descriptor c =
    let d = c.args.descriptor.now in
    let at = c.args.at in
    let bytes : List ℕ = c.args.bytes.now in
    let is_long : d.long ≡ true = c.if-descriptor.true in
    let room : at + 12 ≤ length bytes = subst (λ (l : Bool). at + form_length (form_of l) ≤ length bytes) is_long c.requires.room in
    let fits : FitsForm long d.name d.size d.number = subst (λ (l : Bool). FitsForm (form_of l) d.name d.size d.number) is_long c.requires.lawful.fits in
    three_words at (2 ^ 28 + 2 ^ 29) (c.from-name.result + c.from-size.result * 2 ^ 16) d.number bytes c.write_word.new.bytes c.write_word-then-descriptor.new.bytes c.write_word-then-descriptor-2.new.bytes
    room c.write_word.ensures c.write_word-then-descriptor.ensures c.write_word-then-descriptor-2.ensures
    ∙ rw (c.from-name.ensures, c.from-size.ensures, is_long)
    (ap (λ (r : List ℕ). take at bytes ++ r ++ drop (at + 12) bytes) (long_words d.name d.size d.number (omega (arith, fits.0))))
