use Rattle.std.proofs.Common.{rules, subst, sym, ◌∙◌}
use Rattle.text_reader.specs.Keywords.{IsNoOwnWord}
use Rattle.text_reader.proofs.CallLemmas.{first_two_of}
use Rattle.text_reader.proofs.calls.read_short_call.Goals as goal

pub returns-in_err-task-clause-each : goal.returns-in_err-task-clause-each
returns-in_err-task-clause-each c =
    λ event behind fits word same.
    let two = first_two_of event behind _ (subst IsNoOwnWord (sym word) c.requires) fits same in
    let read = c.task_and_name.ensures.read two.task two.number two.others two.small two.small_number two.stands in
    search (rules, read)

pub returns-in_default-clause-each : goal.returns-in_default-clause-each
returns-in_default-clause-each c =
    λ event behind fits word same.
    c.read_last_argument.ensures.each event behind fits word (same ∙ sym c.in_ok-task.ensures.ok)
