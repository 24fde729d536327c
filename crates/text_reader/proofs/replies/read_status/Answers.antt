use Rattle.std.proofs.Common.{rules, ℕ, List, [], ◌∷◌, decimal, sym}
use Rattle.mach_types.specs.declared.calls.Status.{Status}
use Rattle.text_reader.proofs.replies.read_status.Goals as goal

-- the last three words, and the three before them
abbrev last : Status → List (List ℕ)
last status = decimal status.has_send ∷ decimal status.port_destroyed ∷ decimal status.no_senders ∷ []

abbrev behind : Status → List (List ℕ)
behind status = decimal status.limit ∷ decimal status.queued ∷ decimal status.send_once ∷ last status

pub returns-in_err-set-clause-read : goal.returns-in_err-set-clause-read
returns-in_err-set-clause-read c =
    λ status fits same.
    let read = c.three_numbers.ensures.read status.set status.sequence status.make_send (behind status) fits.set fits.sequence fits.make_send same in
    search (rules, read)

pub returns-in_err-limit-clause-read : goal.returns-in_err-limit-clause-read
returns-in_err-limit-clause-read c =
    λ status fits same.
    let first = c.in_ok-set.ensures.read status.set status.sequence status.make_send (behind status) fits.set fits.sequence fits.make_send same in
    let read = c.three_numbers-2.ensures.read status.limit status.queued status.send_once (last status) fits.limit fits.queued fits.send_once (sym first) in
    search (rules, read)

pub returns-in_err-has_send-clause-read : goal.returns-in_err-has_send-clause-read
returns-in_err-has_send-clause-read c =
    λ status fits same.
    let first = c.in_ok-set.ensures.read status.set status.sequence status.make_send (behind status) fits.set fits.sequence fits.make_send same in
    let second = c.in_ok-limit.ensures.read status.limit status.queued status.send_once (last status) fits.limit fits.queued fits.send_once (sym first) in
    let read = c.three_numbers-3.ensures.read status.has_send status.port_destroyed status.no_senders [] fits.has_send fits.port_destroyed fits.no_senders (sym second) in
    search (rules, read)

pub returns-clause-read : goal.returns-clause-read
returns-clause-read c =
    λ status fits same.
    let first = c.in_ok-set.ensures.read status.set status.sequence status.make_send (behind status) fits.set fits.sequence fits.make_send same in
    let second = c.in_ok-limit.ensures.read status.limit status.queued status.send_once (last status) fits.limit fits.queued fits.send_once (sym first) in
    c.in_ok-has_send.ensures.read status.has_send status.port_destroyed status.no_senders [] fits.has_send fits.port_destroyed fits.no_senders (sym second)
