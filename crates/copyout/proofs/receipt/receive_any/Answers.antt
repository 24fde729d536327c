use Rattle.copyout.proofs.Fronts.{note_returns}
use Rattle.std.proofs.Common.{◌≤◌, subst, length, inr}
use Rattle.std.specs.Prelude.{min}
use Rattle.mach_types.specs.Numbers.{most_bytes}
use Rattle.copyin_base.specs.Kept.{Kept, Makes}
use Rattle.copyout.specs.Ready.{MayReceive}
use Rattle.copyout.proofs.Rooms.{ready_after, front_after, judged_front, returns_slot, may_enough}
use Rattle.copyout.proofs.receipt.receive_any.Goals as goal

pub make_enough-requires-clause-enough : goal.make_enough-requires-clause-enough
make_enough-requires-clause-enough c = let m = c.in_ok-number.ensures.ok.0 in (m.front, m.waits, m.has)

pub take_message-requires-clause-ready : goal.take_message-requires-clause-ready
take_message-requires-clause-ready c =
    let j = c.in_ok-number.ensures.ok in
    let e = c.in-Ok.ensures.ok in
    let may : MayReceive c.args.world.now c.args.task c.args.found.port c.args.room e.0 = record { front = j.0.front; waits = j.0.waits; may = record { fits = j.0.fits; has = e.2 j.0.front j.0.waits } } in
    ready_after c.args.world.now c.make_enough.new.world c.args.task c.args.found.port c.args.room c.in_ok-number.prepared.names.capacity e.0 c.requires.waits may e.1 j.1.words_fit

pub take_message-requires-clause-made : goal.take_message-requires-clause-made
take_message-requires-clause-made c =
    let j = c.in_ok-number.ensures.ok in
    let e = c.in-Ok.ensures.ok in
    λ now f. subst (λ (m : Kept). Makes m c.in_ok-number.prepared.made) (front_after c.args.world.now c.make_enough.new.world c.args.task c.args.found.port e.0 j.0.front now j.0.waits e.1 f) j.1.made

pub returns-in-Ok-clause-ok : goal.returns-in-Ok-clause-ok
returns-in-Ok-clause-ok c =
    let m = c.in_ok-number.ensures.ok.0 in
    let e = c.in-Ok.ensures.ok in
    let x = c.take_message.ensures in
    let t = x.1 in
    let front = judged_front c.args.world.now c.make_enough.new.world c.args.task c.args.found.port e.0 m.front m.waits e.1 t.mid t.takes in
    (e.0, c.make_enough.new.world, x.0, e.1, t, subst (λ (k : Kept). length k.bytes ≤ min c.args.room most_bytes) front m.fits, x.2)

pub returns-in-Ok-clause-kept : goal.returns-in-Ok-clause-kept
returns-in-Ok-clause-kept c =
    let m = c.in_ok-number.ensures.ok.0 in
    let e = c.in-Ok.ensures.ok in
    let x = c.take_message.ensures in
    let may : MayReceive c.args.world.now c.args.task c.args.found.port c.args.room e.0 = record { front = m.front; waits = m.waits; may = record { fits = m.fits; has = e.2 m.front m.waits } } in
    note_returns c.args.world.now x.0 c.take_message.new.world c.args.task c.args.found.port x.1.takes.front
    (returns_slot c.args.world.now c.make_enough.new.world x.0 c.args.task c.args.found.port c.args.room e.0 c.args.local c.take_message.result may e.1 x.1)
    x.2

pub returns-in-Err-clause-err : goal.returns-in-Err-clause-err
returns-in-Err-clause-err c =
    let m = c.in_ok-number.ensures.ok.0 in
    (c.in-Err.ensures.err, m.front, m.waits, may_enough c.args.world.now c.args.task m.front c.args.room c.in_ok-number.number m.may)

pub returns-in-Err-clause-wanted : goal.returns-in-Err-clause-wanted
returns-in-Err-clause-wanted c =
    let m = c.in_ok-number.ensures.ok.0 in
    λ is. record { front = m.front; waits = m.waits; wanted = inr (c.in-Err.ensures.lacks m.front m.waits) }
