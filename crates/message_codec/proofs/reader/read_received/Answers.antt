use Rattle.std.proofs.Common.{List, ℕ, arith, length}
use Rattle.type_descriptor.proofs.ByteWords.{AreBytes}
use Rattle.message_codec.specs.Parses.{header_at}
use Rattle.message_codec.proofs.Messages.{header-spells}
use Rattle.message_codec.proofs.ReceivedTexts.{body-exact, header-exact, not_body, spelled-length}
use Rattle.message_codec.specs.Writing.{written_body, written_header}
use Rattle.message_codec.proofs.reader.read_received.Goals as goal
use Rattle.message_codec.proofs.reader.read_received.Goals.{then-bytes-lt-HEADER_BYTES-via-then-bytes-lt-HEADER_BYTES, then-bytes-lt-HEADER_BYTES-via-else-bytes-lt-HEADER_BYTES+then-bytes-ne0, then-bytes-lt-HEADER_BYTES-via-else-bytes-lt-HEADER_BYTES+else-bytes-ne0+then-bytes-gt-MOST_BYTES}

pub returns-then-bytes-lt-HEADER_BYTES-clause-none : goal.returns-then-bytes-lt-HEADER_BYTES-clause-none
returns-then-bytes-lt-HEADER_BYTES-clause-none c = λ header written spells.
    let len = spelled-length c.args.bytes.now header written spells in
    elim c.then-bytes-lt-HEADER_BYTES.branch [
      | then-bytes-lt-HEADER_BYTES-via-then-bytes-lt-HEADER_BYTES w ↦ absurd (omega (arith, w.if-bytes-lt-HEADER_BYTES.true, len.0))
      | then-bytes-lt-HEADER_BYTES-via-else-bytes-lt-HEADER_BYTES+then-bytes-ne0 w ↦ absurd (omega (arith, w.if-bytes-ne0.true, len.1))
      | then-bytes-lt-HEADER_BYTES-via-else-bytes-lt-HEADER_BYTES+else-bytes-ne0+then-bytes-gt-MOST_BYTES w ↦ omega (arith, w.if-bytes-gt-MOST_BYTES.true)
    ]

pub returns-in_default-clause-none : goal.returns-in_default-clause-none
returns-in_default-clause-none c = λ header written spells. absurd (not_body c.args.bytes.now header written spells c.in_default.ensures.none)

pub returns-clause-some : goal.returns-clause-some
returns-clause-some c =
    let bytes : List ℕ = c.args.bytes.now in
    let are : AreBytes bytes = record { below = λ k. omega (arith, c.type_inv.bytes k) } in
    let body = c.in-Some.ensures.some in
    record {
      header = header_at bytes;
      written = body.written;
      spells = header-spells bytes body.written are (omega (arith, c.if-bytes-lt-HEADER_BYTES.false)) (omega (arith, c.read_word.ensures, c.if-read_word-ne0.false)) body.text body.fits body.flag;
      header_shows = c.read_header.ensures;
      body_shows = body.shows;
    }

pub returns-clause-all : goal.returns-clause-all
returns-clause-all c = λ header written spells. (
  header-exact c.args.bytes.now header written c.read_header.result spells c.read_header.ensures,
  body-exact c.args.bytes.now header written c.in-Some.body spells c.in-Some.ensures.some,
)

pub returns-clause-back : goal.returns-clause-back
returns-clause-back c = λ h b w. (
  header-exact c.args.bytes.now (written_header h (length c.args.bytes.now)) (written_body b) c.read_header.result w.spells c.read_header.ensures,
  body-exact c.args.bytes.now (written_header h (length c.args.bytes.now)) (written_body b) c.in-Some.body w.spells c.in-Some.ensures.some,
)
