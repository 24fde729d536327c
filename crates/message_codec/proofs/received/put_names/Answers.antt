use Rattle.std.proofs.Common.{ℕ, ◌≡◌, ◌++◌, ◌+◌, take, drop, arith, ap, ◌∙◌}
use Rattle.mach_types.specs.Grammar.{word}
use Rattle.message_codec.proofs.PutWords.{names-step, words-step}
use Rattle.message_codec.proofs.received.put_names.Goals as goal

pub loop-name-preserved : goal.loop-name-preserved
loop-name-preserved c =
    let next = c.loop-name.next in
    let wrote : c.write_word.new.bytes ≡ take next c.loop-name.bytes ++ word c.name-item.result ++ drop (next + 4) c.loop-name.bytes =
    c.write_word.ensures ∙ ap (λ (n : ℕ). take next c.loop-name.bytes ++ word n ++ drop (next + 4) c.loop-name.bytes) c.number.ensures in
    record {
      next = omega (arith, c.loop-name.invariant.next);
      bytes = names-step c.args.at c.loop-name.name-index c.name-item.result next c.args.names.now c.args.bytes.now c.loop-name.bytes c.write_word.new.bytes
          c.requires c.loop-name-test.true c.name-item.is c.loop-name.invariant.next c.loop-name.invariant.bytes wrote;
      words = words-step c.args.names.now c.loop-name.name-index c.name-item.result c.loop-name-test.true c.name-item.is (rw (← c.number.ensures) (omega (arith, c.number.type_inv))) c.loop-name.invariant.words;
    }
