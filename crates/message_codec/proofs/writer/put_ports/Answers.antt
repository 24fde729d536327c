use Rattle.std.proofs.Common.{◌≡◌, ◌+◌, List, ℕ, length, sym, ap, ◌∙◌, arith, length-append}
use Rattle.mach_types.specs.Grammar.{descriptor_text, words_text}
use Rattle.mach_types.specs.Rights.{disposition_number}
use Rattle.type_descriptor.specs.Describes.{text_of, form_length}
use Rattle.message_codec.specs.Writing.{form_for}
use Rattle.message_codec.proofs.Fronts.{length-descriptor_text}
use Rattle.message_codec.proofs.FieldTexts.{chosen_text, descriptor-written, names-written, two_pieces, length-port_wire}
use Rattle.message_codec.proofs.writer.put_ports.Goals as goal

pub port_descriptor-descriptor-requires : goal.port_descriptor-descriptor-requires
port_descriptor-descriptor-requires c =
    omega (arith, c.requires.room, c.requires.small, length-port_wire (disposition_number c.args.disposition) c.args.names.now)

pub put_names-requires : goal.put_names-requires
put_names-requires c =
    let head = c.descriptor_len.ensures ∙ ap form_length c.port_descriptor-descriptor.ensures.form in
    omega (arith, head, c.requires.room, c.write_descriptor.auto.bytes, length-port_wire (disposition_number c.args.disposition) c.args.names.now)

pub returns-clause-end : goal.returns-clause-end
returns-clause-end c =
    let head = c.descriptor_len.ensures ∙ ap form_length c.port_descriptor-descriptor.ensures.form in
    omega (arith, head, length-port_wire (disposition_number c.args.disposition) c.args.names.now)

pub returns-clause-bytes : goal.returns-clause-bytes
returns-clause-bytes c =
    let at = c.args.at in
    let name = disposition_number c.args.disposition in
    let names : List ℕ = c.args.names.now in
    let bytes : List ℕ = c.args.bytes.now in
    let number = length names in
    let form = form_for 32 number in
    let head = descriptor_text form name 32 number in
    let d = c.port_descriptor-descriptor.result in
    let told = c.port_descriptor-descriptor.ensures in
    let is : text_of d ≡ head = chosen_text d form name 32 number told.form told.name told.size told.number in
    let len : length head ≡ form_length form = length-descriptor_text form name 32 number in
    let start : c.descriptor_len.result ≡ length head = c.descriptor_len.ensures ∙ ap form_length told.form ∙ sym len in
    two_pieces at (at + c.descriptor_len.result) head (words_text names) bytes
    c.write_descriptor.new.bytes c.put_names.new.bytes (ap (λ (n : ℕ). at + n) start)
    (descriptor-written d at head bytes c.write_descriptor.new.bytes is c.write_descriptor.ensures)
    (names-written (at + c.descriptor_len.result) names c.write_descriptor.new.bytes c.put_names.new.bytes c.put_names.ensures.bytes)
    (omega (arith, c.requires.room, length-append head (words_text names)))
