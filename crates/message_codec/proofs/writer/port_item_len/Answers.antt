use Rattle.std.proofs.Common.{ap, ◌∙◌, arith}
use Rattle.mach_types.specs.Rights.{disposition_number}
use Rattle.type_descriptor.specs.Describes.{form_length}
use Rattle.message_codec.proofs.FieldTexts.{length-port_wire}
use Rattle.message_codec.proofs.writer.port_item_len.Goals as goal

pub returns-then-names-gt-MOST_BYTES-clause-told : goal.returns-then-names-gt-MOST_BYTES-clause-told
returns-then-names-gt-MOST_BYTES-clause-told c =
    let len = length-port_wire (disposition_number c.args.disposition) c.args.names.now in
    let many = c.if-names-gt-MOST_BYTES.true in
    ((λ h. absurd (omega arith)), (λ h. omega arith))

pub returns-clause-told : goal.returns-clause-told
returns-clause-told c =
    let len = length-port_wire (disposition_number c.args.disposition) c.args.names.now in
    let head = c.descriptor_len.ensures ∙ ap form_length c.port_descriptor.ensures.form in
    ((λ h. omega arith), (λ h. omega arith))
