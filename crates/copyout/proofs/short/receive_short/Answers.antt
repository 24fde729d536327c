use Rattle.std.proofs.Common.{ℕ, ◌≤◌, ap, sym, subst, length, arith, inr}
use Rattle.std.specs.Prelude.{min}
use Rattle.mach_types.specs.Numbers.{most_bytes}
use Rattle.copyin_base.specs.Kept.{Kept}
use Rattle.copyout.specs.Short.{IsShort}
use Rattle.copyout.specs.Ready.{MayHaveJust, MayReceive}
use Rattle.copyout.proofs.Delivered.{roomier_own, roomier_number}
use Rattle.copyout.proofs.Fronts.{note_returns}
use Rattle.copyout.proofs.Rooms.{may_have, ready_after, front_after, judged_front, returns_slot, names_enough, room_lacks, same_front}
use Rattle.copyout.proofs.short.receive_short.Goals as goal

pub judge_short-requires-clause-few : goal.judge_short-requires-clause-few
judge_short-requires-clause-few c =
    let b = c.requires.short in
    let size = b.2.size in
    let same = ap (λ (k : Kept). length k.bytes) (same_front c.args.world.now c.args.found.port c.requires.waits b.0 b.1) in
    let few = c.requires.waits.few in
    omega (arith, size, same, few)

pub take_short-requires-clause-ready : goal.take_short-requires-clause-ready
take_short-requires-clause-ready c =
    let b = c.requires.short in
    let may : MayReceive c.args.world.now c.args.task c.args.found.port c.args.room c.count_own.result =
    record { front = b.0; waits = b.1; may = may_have c.args.world.now c.args.task c.args.room c.count_own.result b.0 (subst (λ (n : ℕ). MayHaveJust c.args.world.now c.args.task b.0 c.args.room n) (sym c.count_own.ensures) (c.in_ok-own.ensures.ok.1 b.0 b.2)) } in (
      length b.0.rights,
      ready_after c.args.world.now c.make_room.new.world c.args.task c.args.found.port c.args.room (length b.0.rights) c.count_own.result c.requires.waits may c.in-Ok.ensures.ok (omega arith),
    )

pub take_short-requires-clause-short : goal.take_short-requires-clause-short
take_short-requires-clause-short c =
    let b = c.requires.short in
    λ now f. subst (λ (k : Kept). IsShort k c.args.short.now)
    (front_after c.args.world.now c.make_room.new.world c.args.task c.args.found.port c.count_own.result b.0 now b.1 c.in-Ok.ensures.ok f) b.2

pub take_short-requires-clause-own : goal.take_short-requires-clause-own
take_short-requires-clause-own c =
    roomier_own c.args.world.now c.make_room.new.world c.args.task c.count_own.result c.args.short.now.right c.in_ok-own.own c.in-Ok.ensures.ok c.in_ok-own.ensures.ok.0

pub take_short-requires-clause-numbered : goal.take_short-requires-clause-numbered
take_short-requires-clause-numbered c =
    roomier_number c.args.world.now c.make_room.new.world c.args.task c.count_own.result c.args.found.port c.args.short.now.sequence c.in-Ok.ensures.ok c.requires.numbered

pub returns-in-Ok-clause-ok : goal.returns-in-Ok-clause-ok
returns-in-Ok-clause-ok c =
    let b = c.requires.short in
    let may = c.in_ok-own.ensures.ok.1 b.0 b.2 in
    let r = c.in-Ok.ensures.ok in
    let x = c.take_short.ensures in
    let t = x.1 in
    let front = judged_front c.args.world.now c.make_room.new.world c.args.task c.args.found.port c.count_own.result b.0 b.1 r t.mid t.takes in
    (c.count_own.result, c.make_room.new.world, x.0, r, t, subst (λ (k : Kept). length k.bytes ≤ min c.args.room most_bytes) front may.fits, x.2)

pub returns-in-Ok-clause-kept : goal.returns-in-Ok-clause-kept
returns-in-Ok-clause-kept c =
    let b = c.requires.short in
    let x = c.take_short.ensures in
    let may : MayReceive c.args.world.now c.args.task c.args.found.port c.args.room c.count_own.result =
    record { front = b.0; waits = b.1; may = may_have c.args.world.now c.args.task c.args.room c.count_own.result b.0 (subst (λ (n : ℕ). MayHaveJust c.args.world.now c.args.task b.0 c.args.room n) (sym c.count_own.ensures) (c.in_ok-own.ensures.ok.1 b.0 b.2)) } in
    note_returns c.args.world.now x.0 c.take_short.new.world c.args.task c.args.found.port x.1.takes.front
    (returns_slot c.args.world.now c.make_room.new.world x.0 c.args.task c.args.found.port c.args.room c.count_own.result c.args.local c.take_short.result may c.in-Ok.ensures.ok x.1)
    x.2

pub returns-in-Err-clause-err : goal.returns-in-Err-clause-err
returns-in-Err-clause-err c =
    let b = c.requires.short in
    let may = c.in_ok-own.ensures.ok.1 b.0 b.2 in
    (c.in-Err.ensures.err, b.0, b.1, (may.fits, names_enough c.args.world.now c.args.task b.0 may.space _ may.there may.needs may.names))

pub returns-in-Err-clause-wanted : goal.returns-in-Err-clause-wanted
returns-in-Err-clause-wanted c =
    let b = c.requires.short in
    let may : MayHaveJust c.args.world.now c.args.task b.0 c.args.room c.count_own.result = subst (λ (n : ℕ). MayHaveJust c.args.world.now c.args.task b.0 c.args.room n) (sym c.count_own.ensures) (c.in_ok-own.ensures.ok.1 b.0 b.2) in
    λ is. record { front = b.0; waits = b.1; wanted = inr (room_lacks c.args.world.now c.args.task b.0 may.space _ may.there may.needs may.names c.in-Err.ensures.lacks) }
