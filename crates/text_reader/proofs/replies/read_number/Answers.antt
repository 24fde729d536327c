use Rattle.std.proofs.Common.{rules, [], subst, sym, ◌∙◌, append-nil}
use Rattle.tracer_base.specs.Replies.{reply_arguments}
use Rattle.text_reader.specs.Keywords.{IsNoOtherWord}
use Rattle.text_reader.proofs.NumberReplyLemmas.{number_of}
use Rattle.text_reader.proofs.replies.read_number.Goals as goal

pub returns-in_err-number-clause-each : goal.returns-in_err-number-clause-each
returns-in_err-number-clause-each c =
    λ reply fits word same.
    let one = number_of reply [] _ (subst IsNoOtherWord (sym word) c.requires) fits (append-nil (reply_arguments reply) ∙ same) in
    let read = c.number.ensures.read one.number [] one.small one.stands in
    search (rules, read)
