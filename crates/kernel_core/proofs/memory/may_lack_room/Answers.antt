use Rattle.std.proofs.Common.{refl}
use Rattle.mach_types.specs.declared.calls.Event.{Event}
use Rattle.kernel_core.proofs.Lacking.{told_guarded, told_insert, told_extract, told_request}
use Rattle.kernel_core.proofs.memory.may_lack_room.Goals as goal

pub returns-in-InsertRight : goal.returns-in-InsertRight
returns-in-InsertRight c =
    let x = rw (c.new-to.ensures, c.new-from.ensures) at c.judge_insert.ensures in
    let there = rw c.in-InsertRight.is at c.requires.there in
    rw c.in-InsertRight.is (told_insert c.args.world.now _ _ c.in-InsertRight.number c.judge_insert.result c.is_ok-in-InsertRight.result there x.ok x.err x.early c.is_ok-in-InsertRight.ensures.value)

pub returns-in-ExtractRight : goal.returns-in-ExtractRight
returns-in-ExtractRight c =
    let x = rw c.new.ensures at c.judge_extract.ensures in
    let there = rw c.in-ExtractRight.is at c.requires.there in
    rw c.in-ExtractRight.is (told_extract c.args.world.now _ c.in-ExtractRight.number c.in-ExtractRight.to c.judge_extract.result c.is_ok-in-ExtractRight.result there x.ok x.err x.early c.is_ok-in-ExtractRight.ensures.value)

pub returns-in-RequestNotification : goal.returns-in-RequestNotification
returns-in-RequestNotification c =
    let x = c.check_request.ensures in
    rw c.in-RequestNotification.is (told_request c.args.world.now _ _ _ _ _ _ c.check_request.result c.is_ok-in-RequestNotification.result x.ok x.err x.early c.is_ok-in-RequestNotification.ensures.value)

pub returns-in-InsertMember : goal.returns-in-InsertMember
returns-in-InsertMember c =
    let there = rw c.in-InsertMember.is at c.requires.there in
    rw c.in-InsertMember.is (told_guarded c.args.world.now (Event.InsertMember c.in-InsertMember.task c.in-InsertMember.member c.in-InsertMember.set) c.check_insert_member.result c.is_ok-in-InsertMember.result
    there (λ s. refl) c.check_insert_member.ensures.ok c.check_insert_member.ensures.err c.is_ok-in-InsertMember.ensures.value)
