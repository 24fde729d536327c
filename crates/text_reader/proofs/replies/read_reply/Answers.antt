use Rattle.std.proofs.Common.{rules, ◌≡◌, [], ◌∙◌, sym, ap}
use Rattle.tracer_base.proofs.ReplyLemmas.{plain-reply}
use Rattle.tracer_base.proofs.WordLemmas.{words-line, line_of_words}
use Rattle.tracer_base.specs.Replies.{reply_arguments, reply_word, reply_words}
use Rattle.tracer_base.specs.Words.{words}
use Rattle.text_reader.proofs.replies.read_reply.Goals as goal

pub returns-in_err-reply-clause-each : goal.returns-in_err-reply-clause-each
returns-in_err-reply-clause-each c =
    λ reply fits same.
    let whole = words-line (reply_word reply) (reply_arguments reply) (plain-reply reply fits) in
    let read = c.next_reply.ensures.read reply fits (sym whole ∙ ap words same ∙ sym c.of-words.ensures) in
    search (rules, read)

pub returns-in_err-end-clause-each : goal.returns-in_err-end-clause-each
returns-in_err-end-clause-each c =
    λ reply fits same.
    let whole = words-line (reply_word reply) (reply_arguments reply) (plain-reply reply fits) in
    let read = c.next_reply.ensures.read reply fits (sym whole ∙ ap words same ∙ sym c.of-words.ensures) in
    absurd (search (rules, read))

pub returns-clause-ok : goal.returns-clause-ok
returns-clause-ok c =
    let left : c.next_reply.new.words ≡ [] = search rules in
    line_of_words (reply_words c.in_ok-reply.reply) c.next_reply.new.words c.args.text.now (c.in_ok-reply.ensures.ok ∙ c.of-words.ensures) left
