use Rattle.std.proofs.Common.{rules}
use Rattle.mach_words.proofs.PlainLemmas.{AddsPlain, plain-more}
use Rattle.mach_words.proofs.text.Text.plain.Goals as goal

pub loop-byte-preserved : goal.loop-byte-preserved
loop-byte-preserved c =
    let next : AddsPlain c.loop-byte.self.bytes.items c.plain_byte.new.self.bytes.items = search rules in
    plain-more c.args.self.now.bytes.items c.loop-byte.self.bytes.items c.plain_byte.new.self.bytes.items c.loop-byte.invariant next
