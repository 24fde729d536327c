use Rattle.std.proofs.Common.{rules, codes, ◌≡◌, ◌∷◌, ◌∙◌, [], sym, ap, subst, append-nil}
use Rattle.tracer_base.specs.Blocks.{FitsSaid}
use Rattle.tracer_base.specs.Calls.{call_arguments}
use Rattle.tracer_base.specs.Words.{words}
use Rattle.text_reader.proofs.BlockLemmas.{said_word, said_arguments, said_split, said_read, is_plain-said_word, is_thread, is_message, call_of, call_said}
use Rattle.tracer_base.proofs.WordLemmas.{IsAscii-plain}
use Rattle.text_reader.proofs.blocks.read_words.Goals as goal

pub returns-in_err-keyword-clause-each : goal.returns-in_err-keyword-clause-each
returns-in_err-keyword-clause-each c =
    λ said fits same.
    let split = said_split said _ fits same ∙ sym c.of-words.ensures in
    let read = c.keyword.ensures.read (said_word said) (said_arguments said) (IsAscii-plain (said_word said) (is_plain-said_word said)) split in
    search (rules, read)

pub returns-in-thread-clause-ok : goal.returns-in-thread-clause-ok
returns-in-thread-clause-ok c =
    let is = c.in-thread.is in
    let first = c.in_ok-keyword.ensures.ok in
    let whole = c.of-words.ensures in
    let split : codes "thread" ∷ c.keyword.new.self ≡ words c.args.text.now = cc in
    said_read c.read_thread.result _ _ split c.read_thread.ensures.ok

pub returns-in-thread-clause-each : goal.returns-in-thread-clause-each
returns-in-thread-clause-each c =
    λ said fits same.
    let is = c.in-thread.is in
    let first = c.in_ok-keyword.ensures.ok in
    let whole = c.of-words.ensures in
    let split = said_split said _ fits same in
    let word : said_word said ≡ codes "thread" = cc in
    let named = is_thread said word in
    let spelled : said_arguments said ≡ c.keyword.new.self = cc in
    c.read_thread.ensures.each named.0 (subst FitsSaid named.1 fits) (ap said_arguments (sym named.1) ∙ spelled)

pub returns-in-msg-clause-ok : goal.returns-in-msg-clause-ok
returns-in-msg-clause-ok c =
    let is = c.in-msg.is in
    let first = c.in_ok-keyword.ensures.ok in
    let whole = c.of-words.ensures in
    let split : codes "msg" ∷ c.keyword.new.self ≡ words c.args.text.now = cc in
    said_read c.read_message.result _ _ split c.read_message.ensures.ok

pub returns-in-msg-clause-each : goal.returns-in-msg-clause-each
returns-in-msg-clause-each c =
    λ said fits same.
    let is = c.in-msg.is in
    let first = c.in_ok-keyword.ensures.ok in
    let whole = c.of-words.ensures in
    let split = said_split said _ fits same in
    let word : said_word said ≡ codes "msg" = cc in
    let named = is_message said word in
    let spelled : said_arguments said ≡ c.keyword.new.self = cc in
    c.read_message.ensures.each named.0 (subst FitsSaid named.1 fits) (ap said_arguments (sym named.1) ∙ spelled)

pub returns-in_ok-read_arguments-in_default-clause-ok : goal.returns-in_ok-read_arguments-in_default-clause-ok
returns-in_ok-read_arguments-in_default-clause-ok c =
    let first = c.in_ok-keyword.ensures.ok in
    let whole = c.of-words.ensures in
    let split : c.in_ok-keyword.keyword.now ∷ c.keyword.new.self ≡ words c.args.text.now = cc in
    let named = c.in_ok-read_arguments-in_default.ensures.word in
    let spelled = c.in_ok-read_arguments-in_default.ensures.arguments in
    call_said c.line_of.result c.in_ok-read_arguments-in_default.field-0 c.in_ok-keyword.keyword.now c.keyword.new.self c.read_arguments.new.words c.args.text.now split named spelled c.line_of.ensures.ok

pub returns-in_ok-read_arguments-in_default-clause-each : goal.returns-in_ok-read_arguments-in_default-clause-each
returns-in_ok-read_arguments-in_default-clause-each c =
    λ said fits same.
    let first = c.in_ok-keyword.ensures.ok in
    let whole = c.of-words.ensures in
    let split : c.in_ok-keyword.keyword.now ∷ c.keyword.new.self ≡ words c.args.text.now = cc in
    let call =
    call_of said c.in_ok-keyword.keyword.now c.keyword.new.self c.args.text.now fits same split (λ is. c.in_default.not-thread (sym is)) (λ is. c.in_default.not-msg (sym is)) in
    let left = c.in_ok-read_arguments-in_default.ensures.read call.0 [] call.1 call.2 (append-nil (call_arguments call.0) ∙ call.3) in
    let alone = c.line_of.ensures.each left in
    search (rules, alone)

pub returns-in_err-read_arguments-in_default-clause-each : goal.returns-in_err-read_arguments-in_default-clause-each
returns-in_err-read_arguments-in_default-clause-each c =
    λ said fits same.
    let first = c.in_ok-keyword.ensures.ok in
    let whole = c.of-words.ensures in
    let split : c.in_ok-keyword.keyword.now ∷ c.keyword.new.self ≡ words c.args.text.now = cc in
    let call =
    call_of said c.in_ok-keyword.keyword.now c.keyword.new.self c.args.text.now fits same split (λ is. c.in_default.not-thread (sym is)) (λ is. c.in_default.not-msg (sym is)) in
    let read = c.read_arguments.ensures.read call.0 [] call.1 call.2 (append-nil (call_arguments call.0) ∙ call.3) in
    search (rules, read)
