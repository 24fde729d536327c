use Rattle.std.proofs.Common.{rules, ◌∙◌, sym}
use Rattle.tracer_base.proofs.ReplyLemmas.{is_plain-reply_word}
use Rattle.tracer_base.proofs.WordLemmas.{IsAscii-plain, first_word}
use Rattle.tracer_base.specs.Replies.{reply_arguments, reply_word}
use Rattle.text_reader.proofs.replies.next_reply.Goals as goal

pub returns-in_err-keyword-clause-read : goal.returns-in_err-keyword-clause-read
returns-in_err-keyword-clause-read c =
    λ reply fits same.
    let read = c.keyword.ensures.read (reply_word reply) (reply_arguments reply) (IsAscii-plain (reply_word reply) (is_plain-reply_word reply)) same in
    search (rules, read)

pub returns-clause-read : goal.returns-clause-read
returns-clause-read c =
    λ reply fits same.
    let parts = first_word (reply_word reply) _ (reply_arguments reply) _ (same ∙ sym c.in_ok-keyword.ensures.ok) in
    c.read_answer.ensures.read reply fits parts.0 parts.1
