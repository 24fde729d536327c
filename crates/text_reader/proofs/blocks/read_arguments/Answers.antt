use Rattle.std.proofs.Common.{rules, decimal, ◌∷◌, sym, arith, ◌<◌, ◌^◌}
use Rattle.tracer_base.specs.Text.{bytes_text}
use Rattle.text_reader.proofs.blocks.read_arguments.Goals as goal

pub returns-in_err-name-clause-read : goal.returns-in_err-name-clause-read
returns-in_err-name-clause-read c =
    λ call behind fits same.
    let options_left = c.in_ok-task.ensures.read call.task (decimal call.options ∷ decimal call.name ∷ decimal call.room ∷ bytes_text call.bytes ∷ behind) fits.task same in
    let name_left = c.in_ok-number.ensures.read call.options (decimal call.name ∷ decimal call.room ∷ bytes_text call.bytes ∷ behind) fits.options (sym options_left) in
    let read = c.name.ensures.read call.name (decimal call.room ∷ bytes_text call.bytes ∷ behind) fits.name (sym name_left) in
    search (rules, read)

pub returns-in_err-number-2-clause-read : goal.returns-in_err-number-2-clause-read
returns-in_err-number-2-clause-read c =
    λ call behind fits same.
    let small : call.room < 2 ^ 32 = omega (arith, fits.room) in
    let options_left = c.in_ok-task.ensures.read call.task (decimal call.options ∷ decimal call.name ∷ decimal call.room ∷ bytes_text call.bytes ∷ behind) fits.task same in
    let name_left = c.in_ok-number.ensures.read call.options (decimal call.name ∷ decimal call.room ∷ bytes_text call.bytes ∷ behind) fits.options (sym options_left) in
    let room_left = c.in_ok-name.ensures.read call.name (decimal call.room ∷ bytes_text call.bytes ∷ behind) fits.name (sym name_left) in
    let read = c.number-2.ensures.read call.room (bytes_text call.bytes ∷ behind) small (sym room_left) in
    search (rules, read)
