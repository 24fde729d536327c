use Rattle.std.proofs.Common.{rules, decimal, ◌∷◌, sym}
use Rattle.text_reader.proofs.calls.read_insert.Goals as goal

pub returns-in_err-from-clause-read : goal.returns-in_err-from-clause-read
returns-in_err-from-clause-read c =
    λ task name from poly disposition behind small small_name small_from small_poly small_disposition same.
    let left = c.in_ok-task.ensures.read task name (decimal from ∷ decimal poly ∷ decimal disposition ∷ behind) small small_name same in
    let read = c.task_and_name-2.ensures.read from poly (decimal disposition ∷ behind) small_from small_poly (sym left) in
    search (rules, read)
