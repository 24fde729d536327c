use Rattle.std.proofs.Common.{rules, decimal, ◌∷◌, sym}
use Rattle.text_reader.proofs.calls.read_notify.Goals as goal

pub returns-in_err-task-clause-read : goal.returns-in_err-task-clause-read
returns-in_err-task-clause-read c =
    λ task name variant sync notify disposition behind small small_name small_variant small_sync small_notify small_disposition same.
    let read = c.task_name_and_number.ensures.read task name variant (decimal sync ∷ decimal notify ∷ decimal disposition ∷ behind) small small_name small_variant same in
    search (rules, read)

pub returns-in_err-sync-clause-read : goal.returns-in_err-sync-clause-read
returns-in_err-sync-clause-read c =
    λ task name variant sync notify disposition behind small small_name small_variant small_sync small_notify small_disposition same.
    let left = c.in_ok-task.ensures.read task name variant (decimal sync ∷ decimal notify ∷ decimal disposition ∷ behind) small small_name small_variant same in
    let read = c.number.ensures.read sync (decimal notify ∷ decimal disposition ∷ behind) small_sync (sym left) in
    search (rules, read)

pub returns-in_err-notify-clause-read : goal.returns-in_err-notify-clause-read
returns-in_err-notify-clause-read c =
    λ task name variant sync notify disposition behind small small_name small_variant small_sync small_notify small_disposition same.
    let left = c.in_ok-task.ensures.read task name variant (decimal sync ∷ decimal notify ∷ decimal disposition ∷ behind) small small_name small_variant same in
    let left_again = c.in_ok-sync.ensures.read sync (decimal notify ∷ decimal disposition ∷ behind) small_sync (sym left) in
    let read = c.name.ensures.read notify (decimal disposition ∷ behind) small_notify (sym left_again) in
    search (rules, read)
