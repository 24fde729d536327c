use Rattle.std.proofs.Common.{List, ℕ, subst}
use Rattle.std.proofs.lemmas.Result.{err_from_is_err_and}
use Rattle.copyin.specs.Wanted.{WantsToSend}
use Rattle.message_send.specs.Send.{SendsText}
use Rattle.message_send.specs.Telling.{TellsSend}
use Rattle.message_send.proofs.Sending.{send_done, uses_slot}
use Rattle.message_send.proofs.send.Goals as goal

pub returns-clause-serves : goal.returns-clause-serves
returns-clause-serves c = rw c.number.ensures (send_done c.args.world.now c.args.task c.requires.there c.args.bytes.now c.send_text.new.world
    (subst (λ (xs : List ℕ). SendsText c.args.world.now c.args.task xs c.send_text.new.world) c.as_slice.ensures c.in_ok-send_text.ensures.ok))

pub returns-clause-sent : goal.returns-clause-sent
returns-clause-sent c = uses_slot c.args.world.now c.args.task c.requires.there c.as_slice.result.now c.send_text.new.world c.requires.stands c.in_ok-send_text.ensures.ok

pub returns-in_err-send_text-clause-wanted : goal.returns-in_err-send_text-clause-wanted
returns-in_err-send_text-clause-wanted c =
    let p = err_from_is_err_and c.from_residual.result c.from_residual.ensures.1 in
    rw (p.1, p.2) (λ is. subst (λ (xs : List ℕ). WantsToSend c.args.world.now c.args.task xs) c.as_slice.ensures (c.in_err-send_text.ensures.wanted is))

pub returns-clause-tells : goal.returns-clause-tells
returns-clause-tells c = subst (λ (xs : List ℕ). TellsSend c.args.world.now c.args.task xs c.send_text.new.told) c.as_slice.ensures c.in_ok-send_text.ensures.tells
