use Rattle.std.proofs.Common.{length, ap, sym, ◌∙◌, arith}
use Rattle.std.proofs.lemmas.Option.{slice_get_past}
use Rattle.message_codec.proofs.ReceivedTexts.{name-read}
use Rattle.message_codec.proofs.Shapes.{length-words_text}
use Rattle.message_codec.proofs.reader.ReceivedPorts.get.Goals as goal

pub returns-then-index-self : goal.returns-then-index-self
returns-then-index-self c = λ names fit is.
    let len = ap length is ∙ length-words_text names in
    sym (slice_get_past names c.args.index (omega (arith, len, c.if-index-self.true)))

pub returns : goal.returns
returns c = λ names fit is.
    let len = ap length is ∙ length-words_text names in
    name-read c.args.self.now.words.now names c.args.index c.new.result fit is (omega (arith, len, c.if-index-self.false)) (c.new.ensures ∙ c.read_word.ensures)
