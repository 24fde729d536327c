use Rattle.std.proofs.Common.{List, ℕ, ◌≡◌, ◌≤◌, length, arith}
use Rattle.mach_types.specs.Guards.{NoneHolds}
use Rattle.mach_types.specs.Numbers.{most_bytes}
use Rattle.message_codec.specs.Writing.{IsWritten, field_guards, written_length}
use Rattle.message_codec.proofs.FieldTexts.{fields-short, in_vec, written-is}
use Rattle.message_codec.proofs.writer.write_message.Goals as goal

pub returns-clause-ok : goal.returns-clause-ok
returns-clause-ok c =
    let h = c.args.header.now in
    let b = c.args.body.now in
    let w = c.header_words-words.result in
    let has = c.header_words-words.ensures.words in
    let new : List ℕ = c.put_message.new.bytes in
    let none : NoneHolds (field_guards h b) = c.in_ok-check_fields.ensures.ok h has in
    let short : written_length b ≤ most_bytes = fields-short h b none in
    let told : c.message_len-len.result ≡ written_length b = c.message_len-len.ensures.told.0 short in
    let len : length new ≡ c.in_ok-bytes.bytes.len = omega (arith, c.put_message.auto.bytes, c.deref_mut.ensures.len) in
    let is : IsWritten new h b = written-is h b w new has c.put_message.ensures.words (omega (arith, c.header_words-words.ensures.size)) short none c.put_message.ensures.fits c.put_message.ensures.bytes in
    rw (in_vec c.in_ok-bytes.bytes.len new c.in_ok-bytes.bytes.items len) is
