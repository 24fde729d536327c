use Rattle.std.proofs.Common.{rules, ℕ, sym, ap, ◌≡◌, [], ◌∷◌, ◌∙◌, ◌++◌, append_assoc, decimal}
use Rattle.mach_types.specs.declared.calls.Event.{Event}
use Rattle.mach_types.specs.declared.calls.Event.TheVariants.{Names, TaskTerminate}
use Rattle.tracer_base.specs.Calls.{Fits, call_arguments}
use Rattle.tracer_base.specs.Text.{flag_text, waited_words}
use Rattle.tracer_base.specs.Words.{IsRead}
use Rattle.text_reader.proofs.CallLemmas.{is_read}
use Rattle.text_reader.proofs.KeywordLemmas.{of_end, of_names_call, of_send, of_recv, of_insert, of_extract, of_again, of_modrefs, of_notify}
use Rattle.text_reader.proofs.calls.read_arguments.Goals as goal

pub returns-in-send-clause-read : goal.returns-in-send-clause-read
returns-in-send-clause-read c =
    λ event behind fits word same.
    let P = λ (e : Event). Fits e → call_arguments e ++ behind ≡ c.args.words.now → IsRead c.read_send.result c.read_send.new.words behind in
    of_send P event (word ∙ c.in-send.is) (λ task bytes fits same. c.read_send.ensures.read task bytes behind fits.0 fits.1 same) fits same

pub returns-in-recv-clause-read : goal.returns-in-recv-clause-read
returns-in-recv-clause-read c =
    λ event behind fits word same.
    let P = λ (e : Event). Fits e → call_arguments e ++ behind ≡ c.args.words.now → IsRead c.read_recv.result c.read_recv.new.words behind in
    of_recv P event (word ∙ c.in-recv.is) (λ task name room large fits same. c.read_recv.ensures.read task name room large behind fits.0 fits.1 fits.2 same) fits same

pub returns-in-insert-clause-read : goal.returns-in-insert-clause-read
returns-in-insert-clause-read c =
    λ event behind fits word same.
    let P = λ (e : Event). Fits e → call_arguments e ++ behind ≡ c.args.words.now → IsRead c.read_insert.result c.read_insert.new.words behind in
    of_insert P event (word ∙ c.in-insert.is) (λ task name from poly disposition fits same. c.read_insert.ensures.read task name from poly disposition behind fits.0 fits.1 fits.2 fits.3 fits.4 same) fits same

pub returns-in-extract-clause-read : goal.returns-in-extract-clause-read
returns-in-extract-clause-read c =
    λ event behind fits word same.
    let P = λ (e : Event). Fits e → call_arguments e ++ behind ≡ c.args.words.now → IsRead c.read_extract.result c.read_extract.new.words behind in
    of_extract P event (word ∙ c.in-extract.is) (λ task name disposition to fits same. c.read_extract.ensures.read task name disposition to behind fits.0 fits.1 fits.2 fits.3 same) fits same

pub returns-in-again-clause-read : goal.returns-in-again-clause-read
returns-in-again-clause-read c =
    λ event behind fits word same.
    let P = λ (e : Event). Fits e → call_arguments e ++ behind ≡ c.args.words.now → IsRead c.read_again.result c.read_again.new.words behind in
    of_again P event (word ∙ c.in-again.is) (λ task waited room large fits same. c.read_again.ensures.read task waited room large behind fits.0 fits.1 fits.2 (ap (λ ws. decimal task ∷ ws) (sym (append_assoc (waited_words waited) (decimal room ∷ flag_text large ∷ []) behind)) ∙ same)) fits same

pub returns-in-modrefs-clause-read : goal.returns-in-modrefs-clause-read
returns-in-modrefs-clause-read c =
    λ event behind fits word same.
    let P = λ (e : Event). Fits e → call_arguments e ++ behind ≡ c.args.words.now → IsRead c.read_modrefs.result c.read_modrefs.new.words behind in
    of_modrefs P event (word ∙ c.in-modrefs.is) (λ task name right delta fits same. c.read_modrefs.ensures.read task name right delta behind fits.0 fits.1 fits.2 fits.3 same) fits same

pub returns-in-notify-clause-read : goal.returns-in-notify-clause-read
returns-in-notify-clause-read c =
    λ event behind fits word same.
    let P = λ (e : Event). Fits e → call_arguments e ++ behind ≡ c.args.words.now → IsRead c.read_notify.result c.read_notify.new.words behind in
    of_notify P event (word ∙ c.in-notify.is) (λ task name variant sync notify disposition fits same. c.read_notify.ensures.read task name variant sync notify disposition behind fits.0 fits.1 fits.2 fits.3 fits.4 fits.5 same) fits same

pub returns-in_default-clause-read : goal.returns-in_default-clause-read
returns-in_default-clause-read c =
    λ event behind fits word same.
    let read = c.read_short_call.ensures in
    is_read c.read_short_call.result event _ _ _ behind read.word read.arguments read.fits (read.each event behind fits word same) fits word same

pub returns-in_err-task-in-names-clause-read : goal.returns-in_err-task-in-names-clause-read
returns-in_err-task-in-names-clause-read c =
    λ event behind fits word same.
    let P = λ (e : Event). Fits e → call_arguments e ++ behind ≡ c.args.words.now → IsRead c.from_residual.result c.task.new.self behind in
    let refused : (task : ℕ) → P (Names task) = λ task fits same. let read = c.task.ensures.read task behind fits same in search (rules, read) in
    of_names_call P event (word ∙ c.in-names.is) refused fits same

pub returns-in_ok-task-in-names-clause-read : goal.returns-in_ok-task-in-names-clause-read
returns-in_ok-task-in-names-clause-read c =
    λ event behind fits word same.
    let P = λ (e : Event). Fits e → call_arguments e ++ behind ≡ c.args.words.now → c.task.new.self ≡ behind in
    of_names_call P event (word ∙ c.in-names.is) (λ task fits same. c.in_ok-task-in-names.ensures.read task behind fits same) fits same

pub returns-in_err-task-in-end-clause-read : goal.returns-in_err-task-in-end-clause-read
returns-in_err-task-in-end-clause-read c =
    λ event behind fits word same.
    let P = λ (e : Event). Fits e → call_arguments e ++ behind ≡ c.args.words.now → IsRead c.from_residual-in_err-task-in-end.result c.task-in-end.new.self behind in
    let refused : (task : ℕ) → P (TaskTerminate task) = λ task fits same. let read = c.task-in-end.ensures.read task behind fits same in search (rules, read) in
    of_end P event (word ∙ c.in-end.is) refused fits same

pub returns-in_ok-task-in-end-clause-read : goal.returns-in_ok-task-in-end-clause-read
returns-in_ok-task-in-end-clause-read c =
    λ event behind fits word same.
    let P = λ (e : Event). Fits e → call_arguments e ++ behind ≡ c.args.words.now → c.task-in-end.new.self ≡ behind in
    of_end P event (word ∙ c.in-end.is) (λ task fits same. c.in_ok-task-in-end.ensures.read task behind fits same) fits same
