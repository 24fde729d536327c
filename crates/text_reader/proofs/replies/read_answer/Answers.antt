use Rattle.std.proofs.Common.{sym, ◌≡◌, [], ◌∙◌}
use Rattle.mach_types.specs.declared.calls.Reply.{Reply}
use Rattle.tracer_base.specs.Replies.{FitsReply, reply_arguments}
use Rattle.tracer_base.specs.Words.{IsRead}
use Rattle.text_reader.specs.Keywords.{IsNoOtherWord}
use Rattle.text_reader.proofs.KeywordLemmas.{of_names, of_status, of_members, of_right, of_empty}
use Rattle.text_reader.proofs.NumberReplyLemmas.{is_read}
use Rattle.text_reader.proofs.replies.read_answer.Goals as goal

pub returns-in_default-clause-read : goal.returns-in_default-clause-read
returns-in_default-clause-read c =
    λ reply fits word same.
    let apart : IsNoOtherWord c.args.keyword.now =
    record { code = λ is. c.in_default.not-code (sym is); type_of = λ is. c.in_default.not-type (sym is); names = λ is. c.in_default.not-names (sym is); status = λ is. c.in_default.not-status (sym is); members = λ is. c.in_default.not-members (sym is); right = λ is. c.in_default.not-right (sym is); message = λ is. c.in_default.not-message (sym is); empty = λ is. c.in_default.not-empty (sym is); norecord = λ is. c.in_default.not-norecord (sym is) } in
    let read = c.read_number.ensures in
    is_read c.read_number.result reply _ _ _ apart read.word read.arguments read.fits (read.each reply fits word same) fits word same

pub returns-in-names-clause-read : goal.returns-in-names-clause-read
returns-in-names-clause-read c =
    λ reply fits word same.
    let P = λ (r : Reply). FitsReply r → reply_arguments r ≡ c.args.words.now → IsRead c.read_names.result c.read_names.new.words [] in
    of_names P reply (word ∙ c.in-names.is) (λ names fits same. c.read_names.ensures.read names fits same) fits same

pub returns-in-status-clause-read : goal.returns-in-status-clause-read
returns-in-status-clause-read c =
    λ reply fits word same.
    let P = λ (r : Reply). FitsReply r → reply_arguments r ≡ c.args.words.now → IsRead c.read_status.result c.read_status.new.words [] in
    of_status P reply (word ∙ c.in-status.is) (λ status fits same. c.read_status.ensures.read status fits same) fits same

pub returns-in-members-clause-read : goal.returns-in-members-clause-read
returns-in-members-clause-read c =
    λ reply fits word same.
    let P = λ (r : Reply). FitsReply r → reply_arguments r ≡ c.args.words.now → IsRead c.read_members.result c.read_members.new.words [] in
    of_members P reply (word ∙ c.in-members.is) (λ members fits same. c.read_members.ensures.read members fits same) fits same

pub returns-in-right-clause-read : goal.returns-in-right-clause-read
returns-in-right-clause-read c =
    λ reply fits word same.
    let P = λ (r : Reply). FitsReply r → reply_arguments r ≡ c.args.words.now → IsRead c.read_right.result c.read_right.new.words [] in
    of_right P reply (word ∙ c.in-right.is) (λ name kind fits same. c.read_right.ensures.read name kind fits.0 fits.1 same) fits same

pub returns-in-empty-clause-read : goal.returns-in-empty-clause-read
returns-in-empty-clause-read c =
    λ reply fits word same.
    let P = λ (r : Reply). FitsReply r → reply_arguments r ≡ c.args.words.now → IsRead c.read_empty.result c.read_empty.new.words [] in
    of_empty P reply (word ∙ c.in-empty.is) (λ waited fits same. c.read_empty.ensures.read waited fits same) fits same
