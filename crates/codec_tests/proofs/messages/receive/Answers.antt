use Rattle.std.proofs.Common.{List, sym, subst}
use Rattle.mach_types.specs.Grammar.{WireBody}
use Rattle.message_codec.specs.Parses.{Parses}
use Rattle.message_codec.specs.Received.{IsLaidOut}
use Rattle.message_codec.specs.declared.spans.Span.{Span}
use Rattle.message_codec.proofs.Spelling.{laid_out-parsed}
use Rattle.codec_tests.proofs.messages.receive.Goals as goal

pub put_received-requires-clause-laid_out : goal.put_received-requires-clause-laid_out
put_received-requires-clause-laid_out c =
    let p : Parses c.args.bytes.now c.in-Ok.parsed = c.in-Ok.ensures.ok in
    subst (λ (spans : List Span). (written : WireBody) × IsLaidOut c.args.bytes.now spans written) (sym c.as_slice-spans.ensures)
    (p.written, laid_out-parsed c.args.bytes.now c.in-Ok.parsed p)
