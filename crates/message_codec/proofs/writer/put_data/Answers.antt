use Rattle.std.proofs.Common.{◌≡◌, ◌+◌, ◌-◌, ◌*◌, ◌/◌, List, ℕ, ◌++◌, length, replicate, refl, sym, ap, ◌∙◌, arith, length-append}
use Rattle.mach_types.specs.Grammar.{descriptor_text}
use Rattle.type_descriptor.specs.Describes.{text_of, form_length}
use Rattle.message_codec.specs.Writing.{element_number, form_for, padding_length, with_text}
use Rattle.message_codec.proofs.Fronts.{length-descriptor_text}
use Rattle.message_codec.proofs.FieldTexts.{chosen_text, descriptor-written, three_pieces}
use Rattle.message_codec.proofs.writer.put_data.Goals as goal

pub returns-clause-bytes : goal.returns-clause-bytes
returns-clause-bytes c =
    let at = c.args.at in
    let name = c.args.name in
    let size = c.args.size in
    let elements : List ℕ = c.args.elements.now in
    let bytes : List ℕ = c.args.bytes.now in
    let number = element_number size (length elements) in
    let form = form_for size number in
    let head = descriptor_text form name size number in
    let pad : List ℕ = replicate (padding_length (length elements)) 0 in
    let d = c.data_descriptor-descriptor.result in
    let told = c.data_descriptor-descriptor.ensures in
    let is : text_of d ≡ head = chosen_text d form name size number told.form told.name told.size told.number in
    let len : length head ≡ form_length form = length-descriptor_text form name size number in
    let start : c.descriptor_len.result ≡ length head = c.descriptor_len.ensures ∙ ap form_length told.form ∙ sym len in
    let place = at + c.descriptor_len.result + length elements in
    let count : (at + c.descriptor_len.result + (length elements + 3) / 4 * 4) - place ≡ padding_length (length elements) = omega arith in
    three_pieces at (at + c.descriptor_len.result) (at + c.descriptor_len.result + length elements) head elements pad bytes
    c.write_descriptor.new.bytes c.put_bytes.new.bytes c.put_zeros.new.bytes (ap (λ (n : ℕ). at + n) start) refl
    (descriptor-written d at head bytes c.write_descriptor.new.bytes is c.write_descriptor.ensures) c.put_bytes.ensures
    (c.put_zeros.ensures ∙ ap (λ (n : ℕ). with_text place (replicate n 0) c.put_bytes.new.bytes) count)
    (omega (arith, c.requires.room, length-append (head ++ elements) pad, length-append head elements))
