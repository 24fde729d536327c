use Rattle.std.proofs.Common.{[], ◌∷◌, ◌-◌, ◌∙◌, subst, arith}
use Rattle.kernel_change.specs.Received.{first_words}
use Rattle.kernel_change.proofs.ReceivedNames.{Reads, all_read, no_words, one_word, some_read}
use Rattle.kernel_change.proofs.received.Received.with_words.Goals as goal

pub loop-left-preserved : goal.loop-left-preserved
loop-left-preserved c = λ names is.
    some_read names (first_words c.args.number c.args.words.now) c.loop-left.received (c.new.result ∷ []) (first_words (c.loop-left.left - 1) c.split_at.result.1.now) c.with-received.result
    (subst (Reads names (first_words c.args.number c.args.words.now) c.loop-left.received) (one_word c.loop-left.left (c.loop-left.left - 1) c.loop-left.rest.now c.new.result c.split_at.result.1.now (omega (arith, c.loop-left-test.true)) c.if-rest-ge4.true (c.new.ensures ∙ c.read_word.ensures) c.split_at.ensures.back) (c.loop-left.invariant names is))
    c.with-received.ensures

pub returns-else-rest-ge4 : goal.returns-else-rest-ge4
returns-else-rest-ge4 c = λ names is.
    all_read names (first_words c.args.number c.args.words.now) c.loop-left.received
    (subst (Reads names (first_words c.args.number c.args.words.now) c.loop-left.received) (no_words c.loop-left.left c.loop-left.rest.now c.if-rest-ge4.false) (c.loop-left.invariant names is))
