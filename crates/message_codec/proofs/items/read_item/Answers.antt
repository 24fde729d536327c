use Rattle.std.proofs.Common.{List, ℕ, ◌≡◌, ◌≤◌, ◌+◌, length, drop, arith, ap, refl}
use Rattle.std.proofs.lemmas.List.{length-drop}
use Rattle.std.proofs.lemmas.Result.{err_from_is_err_and}
use Rattle.mach_types.specs.Codes.{msg_number}
use Rattle.mach_types.specs.TextGuards.{data_length}
use Rattle.message_codec.proofs.ItemTexts.{descriptor_within, item-reads, item-past_end, item-refused}
use Rattle.message_codec.proofs.items.read_item.Goals as goal

pub overflow_sub-bytes : goal.overflow_sub-bytes
overflow_sub-bytes c =
    let d = c.in_ok-descriptor.descriptor in
    let within = descriptor_within c.args.bytes.now c.args.at d (omega (arith, c.requires.more)) c.in_ok-descriptor.ensures.ok in
    omega (arith, within, c.descriptor_len.ensures)

pub returns-in_err-descriptor-clause-err : goal.returns-in_err-descriptor-clause-err
returns-in_err-descriptor-clause-err c =
    let p = err_from_is_err_and c.from_residual.result c.from_residual.ensures.1 in
    let bytes : List ℕ = c.args.bytes.now in
    let room : 4 ≤ length (drop c.args.at bytes) = omega (arith, length-drop c.args.at bytes, c.requires.more, c.requires.whole) in
    rw (p.1, p.2) (item-refused (drop c.args.at bytes) (msg_number c.in_err-descriptor.field-0.0) room c.in_err-descriptor.ensures.err)

pub returns-then-bytes-start-clause-err : goal.returns-then-bytes-start-clause-err
returns-then-bytes-start-clause-err c =
    let d = c.in_ok-descriptor.descriptor in
    let e : c.data_len-data.result ≡ data_length d.size d.number = c.data_len-data.ensures in
    item-past_end c.args.bytes.now c.args.at d (c.args.at + c.descriptor_len.result) c.requires.more c.in_ok-descriptor.ensures.ok
    (ap (λ (n : ℕ). c.args.at + n) c.descriptor_len.ensures) (rw (← e) c.if-bytes-start.true)

pub returns-clause-ok : goal.returns-clause-ok
returns-clause-ok c =
    item-reads c.args.bytes.now c.args.at c.in_ok-descriptor.descriptor c.span_of.result (c.args.at + c.descriptor_len.result) c.data_len-data.result _
    (record { below = λ k. omega (arith, c.type_inv.bytes k) }) c.requires.more c.requires.whole c.in_ok-descriptor.ensures.ok
    (ap (λ (n : ℕ). c.args.at + n) c.descriptor_len.ensures) c.data_len-data.ensures c.if-bytes-start.false refl c.span_of.ensures
