use Rattle.std.proofs.Common.{refl, rules}
use Rattle.mach_types.specs.declared.calls.Event.{Event}
use Rattle.copyin_base.specs.Serving.{Serves}
use Rattle.copyin_base.proofs.Spares.{keeps_refl}
use Rattle.kernel_core_base.proofs.Refused.{takes_none}
use Rattle.kernel_core.proofs.Changed.{on_ok}
use Rattle.kernel_core.proofs.Keeping.{always_wants, sent_spares, carried, lost, handed_on, asked}
use Rattle.kernel_core.proofs.Taking.{other_takes}
use Rattle.kernel_core.proofs.kernel.serve.Goals as goal

pub returns-in-TaskCreate-clause-performs : goal.returns-in-TaskCreate-clause-performs
returns-in-TaskCreate-clause-performs c = rw c.in-TaskCreate.is (carried _ _ _ _ c.create_task.ensures.serves (always_wants _ _) c.create_task.ensures.spares tt (λ reply. refl) tt)

pub returns-in-TaskTerminate-clause-performs : goal.returns-in-TaskTerminate-clause-performs
returns-in-TaskTerminate-clause-performs c =
    rw c.in-TaskTerminate.is (lost _ _ _ _ c.terminate_task.ensures.serves (takes_none _ _ _ c.requires.stands tt _ c.terminate_task.ensures.serves) c.terminate_task.ensures.spares (λ x. x) tt)

pub returns-in-Allocate-clause-performs : goal.returns-in-Allocate-clause-performs
returns-in-Allocate-clause-performs c = rw c.in-Allocate.is (carried _ _ _ _ c.allocate.ensures.serves c.allocate.ensures.wanted c.allocate.ensures.spares tt (λ reply. refl) tt)

pub returns-in-AllocateName-clause-performs : goal.returns-in-AllocateName-clause-performs
returns-in-AllocateName-clause-performs c = rw c.in-AllocateName.is (carried _ _ _ _ c.allocate_name.ensures.serves c.allocate_name.ensures.wanted c.allocate_name.ensures.spares tt (λ reply. refl) tt)

pub returns-in-Deallocate-clause-performs : goal.returns-in-Deallocate-clause-performs
returns-in-Deallocate-clause-performs c = rw c.in-Deallocate.is (lost _ _ _ _ c.lose_one.ensures.serves (takes_none _ _ _ c.requires.stands tt _ c.lose_one.ensures.serves) c.lose_one.ensures.spares (λ x. x) tt)

pub returns-in-Destroy-clause-performs : goal.returns-in-Destroy-clause-performs
returns-in-Destroy-clause-performs c = rw c.in-Destroy.is (lost _ _ _ _ c.lose_all.ensures.serves (takes_none _ _ _ c.requires.stands tt _ c.lose_all.ensures.serves) c.lose_all.ensures.spares (λ x. x) tt)

pub returns-after-right-ne0-clause-performs : goal.returns-after-right-ne0-clause-performs
returns-after-right-ne0-clause-performs c =
    let serves : Serves c.args.world.now (Event.ModRefs c.in-ModRefs.task c.in-ModRefs.name c.in-ModRefs.right c.in-ModRefs.delta) c.mod_refs.result c.mod_refs.new.world = search rules in
    rw c.in-ModRefs.is (lost _ _ _ _ serves (takes_none _ _ _ c.requires.stands tt _ serves) c.mod_refs.ensures.spares (λ x. x) tt)

pub returns-in-GetRefs-clause-performs : goal.returns-in-GetRefs-clause-performs
returns-in-GetRefs-clause-performs c = rw c.in-GetRefs.is (carried _ _ _ _ c.get_refs.ensures (takes_none _ _ _ c.requires.stands tt _ c.get_refs.ensures) (keeps_refl _) tt (λ reply. refl) tt)

pub returns-in-NameType-clause-performs : goal.returns-in-NameType-clause-performs
returns-in-NameType-clause-performs c = rw c.in-NameType.is (carried _ _ _ _ c.name_type.ensures (takes_none _ _ _ c.requires.stands tt _ c.name_type.ensures) (keeps_refl _) tt (λ reply. refl) tt)

pub returns-in-Names-clause-performs : goal.returns-in-Names-clause-performs
returns-in-Names-clause-performs c = rw c.in-Names.is (carried _ _ _ _ c.list_names.ensures.serves c.list_names.ensures.wanted (keeps_refl _) tt (λ reply. refl) tt)

pub returns-in-Rename-clause-performs : goal.returns-in-Rename-clause-performs
returns-in-Rename-clause-performs c = rw c.in-Rename.is (carried _ _ _ _ c.rename.ensures.serves c.rename.ensures.wanted c.rename.ensures.spares tt (λ reply. refl) tt)

pub returns-in-ReceiveStatus-clause-performs : goal.returns-in-ReceiveStatus-clause-performs
returns-in-ReceiveStatus-clause-performs c = rw c.in-ReceiveStatus.is (carried _ _ _ _ c.receive_status.ensures (takes_none _ _ _ c.requires.stands tt _ c.receive_status.ensures) (keeps_refl _) tt (λ reply. refl) tt)

pub returns-in-SetStatus-clause-performs : goal.returns-in-SetStatus-clause-performs
returns-in-SetStatus-clause-performs c = rw c.in-SetStatus.is (carried _ _ _ _ c.set_status.ensures (always_wants _ _) (keeps_refl _) tt (λ reply. refl) tt)

pub returns-in-MoveMember-clause-performs : goal.returns-in-MoveMember-clause-performs
returns-in-MoveMember-clause-performs c = rw c.in-MoveMember.is (carried _ _ _ _ c.put_in_set.ensures.serves (takes_none _ _ _ c.requires.stands tt _ c.put_in_set.ensures.serves) c.put_in_set.ensures.spares tt (λ reply. refl) tt)

pub returns-in-InsertMember-clause-performs : goal.returns-in-InsertMember-clause-performs
returns-in-InsertMember-clause-performs c = rw c.in-InsertMember.is (carried _ _ _ _ c.enter_set.ensures.serves c.enter_set.ensures.wanted c.enter_set.ensures.spares tt (λ reply. refl) tt)

pub returns-in-ExtractMember-clause-performs : goal.returns-in-ExtractMember-clause-performs
returns-in-ExtractMember-clause-performs c = rw c.in-ExtractMember.is (carried _ _ _ _ c.leave_set.ensures.serves (takes_none _ _ _ c.requires.stands tt _ c.leave_set.ensures.serves) c.leave_set.ensures.spares tt (λ reply. refl) tt)

pub returns-in-SetQlimit-clause-performs : goal.returns-in-SetQlimit-clause-performs
returns-in-SetQlimit-clause-performs c = rw c.in-SetQlimit.is (carried _ _ _ _ c.set_qlimit.ensures.serves (takes_none _ _ _ c.requires.stands tt _ c.set_qlimit.ensures.serves) c.set_qlimit.ensures.spares tt (λ reply. refl) tt)

pub returns-in-SetMscount-clause-performs : goal.returns-in-SetMscount-clause-performs
returns-in-SetMscount-clause-performs c = rw c.in-SetMscount.is (carried _ _ _ _ c.set_mscount.ensures.serves (takes_none _ _ _ c.requires.stands tt _ c.set_mscount.ensures.serves) c.set_mscount.ensures.spares tt (λ reply. refl) tt)

pub returns-in-SetSeqno-clause-performs : goal.returns-in-SetSeqno-clause-performs
returns-in-SetSeqno-clause-performs c = rw c.in-SetSeqno.is (carried _ _ _ _ c.set_seqno.ensures.serves (takes_none _ _ _ c.requires.stands tt _ c.set_seqno.ensures.serves) c.set_seqno.ensures.spares tt (λ reply. refl) tt)

pub returns-in-InsertRight-clause-performs : goal.returns-in-InsertRight-clause-performs
returns-in-InsertRight-clause-performs c =
    let x = rw (c.new-to.ensures, c.new.ensures) at c.hand_in.ensures in
    rw c.in-InsertRight.is (handed_on _ _ _ _ x.serves x.wanted x.spares (λ reply. refl) (λ s reply. tt) tt tt)

pub returns-in-ExtractRight-clause-performs : goal.returns-in-ExtractRight-clause-performs
returns-in-ExtractRight-clause-performs c =
    let x = rw c.new-in-ExtractRight.ensures at c.hand_out.ensures in
    rw c.in-ExtractRight.is (handed_on _ _ _ _ x.serves x.wanted x.spares (λ reply. refl) (λ s reply. tt) tt tt)

pub returns-in-RequestNotification-clause-performs : goal.returns-in-RequestNotification-clause-performs
returns-in-RequestNotification-clause-performs c =
    let x = c.ask.ensures in
    rw c.in-RequestNotification.is (asked _ _ _ _ _ _ x.serves x.wanted x.spares)

pub returns-in-Send-clause-performs : goal.returns-in-Send-clause-performs
returns-in-Send-clause-performs c =
    let x = c.send.ensures in
    rw c.in-Send.is (record { serves = x.serves; wanted = x.wanted; spares = sent_spares _ _ _ _ _ x.sent x.refused; turns = tt; takes = other_takes _ _ _ _ tt x.serves })

pub returns-in-Receive-clause-performs : goal.returns-in-Receive-clause-performs
returns-in-Receive-clause-performs c =
    let x = rw c.new-in-Receive.ensures at c.receive.ensures in
    rw c.in-Receive.is (record { serves = x.serves; wanted = x.wanted; spares = x.spares; turns = x.turns; takes = x.takes })

pub returns-in-ReceiveAgain-clause-performs : goal.returns-in-ReceiveAgain-clause-performs
returns-in-ReceiveAgain-clause-performs c =
    let x = rw c.new-in-ReceiveAgain.ensures at c.receive_again.ensures in
    rw c.in-ReceiveAgain.is (record { serves = x.serves; wanted = x.wanted; spares = x.spares; turns = x.turns; takes = x.takes })

pub returns-in-TaskCreate-clause-tells : goal.returns-in-TaskCreate-clause-tells
returns-in-TaskCreate-clause-tells c = rw c.in-TaskCreate.is (on_ok _ (λ reply. c.requires.nothing))

pub returns-in-TaskTerminate-clause-tells : goal.returns-in-TaskTerminate-clause-tells
returns-in-TaskTerminate-clause-tells c = rw c.in-TaskTerminate.is (on_ok _ (λ reply. c.by_ending.ensures))

pub returns-in-Allocate-clause-tells : goal.returns-in-Allocate-clause-tells
returns-in-Allocate-clause-tells c = rw c.in-Allocate.is (on_ok _ (λ reply. c.by_making.ensures))

pub returns-in-AllocateName-clause-tells : goal.returns-in-AllocateName-clause-tells
returns-in-AllocateName-clause-tells c = rw c.in-AllocateName.is (on_ok _ (λ reply. c.by_making-in-AllocateName.ensures))

pub returns-in-Deallocate-clause-tells : goal.returns-in-Deallocate-clause-tells
returns-in-Deallocate-clause-tells c = rw c.in-Deallocate.is c.lose_one.ensures.tells

pub returns-in-Destroy-clause-tells : goal.returns-in-Destroy-clause-tells
returns-in-Destroy-clause-tells c = rw c.in-Destroy.is c.lose_all.ensures.tells

pub returns-in-GetRefs-clause-tells : goal.returns-in-GetRefs-clause-tells
returns-in-GetRefs-clause-tells c = rw c.in-GetRefs.is (on_ok _ (λ reply. c.requires.nothing))

pub returns-in-NameType-clause-tells : goal.returns-in-NameType-clause-tells
returns-in-NameType-clause-tells c = rw c.in-NameType.is (on_ok _ (λ reply. c.requires.nothing))

pub returns-in-Names-clause-tells : goal.returns-in-Names-clause-tells
returns-in-Names-clause-tells c = rw c.in-Names.is (on_ok _ (λ reply. c.requires.nothing))

pub returns-in-Rename-clause-tells : goal.returns-in-Rename-clause-tells
returns-in-Rename-clause-tells c = rw c.in-Rename.is (on_ok _ (λ reply. c.requires.nothing))

pub returns-in-ReceiveStatus-clause-tells : goal.returns-in-ReceiveStatus-clause-tells
returns-in-ReceiveStatus-clause-tells c = rw c.in-ReceiveStatus.is (on_ok _ (λ reply. c.requires.nothing))

pub returns-in-SetStatus-clause-tells : goal.returns-in-SetStatus-clause-tells
returns-in-SetStatus-clause-tells c = rw c.in-SetStatus.is (on_ok _ (λ reply. c.requires.nothing))

pub returns-in-MoveMember-clause-tells : goal.returns-in-MoveMember-clause-tells
returns-in-MoveMember-clause-tells c = rw c.in-MoveMember.is c.put_in_set.ensures.tells

pub returns-in-InsertMember-clause-tells : goal.returns-in-InsertMember-clause-tells
returns-in-InsertMember-clause-tells c = rw c.in-InsertMember.is c.enter_set.ensures.tells

pub returns-in-ExtractMember-clause-tells : goal.returns-in-ExtractMember-clause-tells
returns-in-ExtractMember-clause-tells c = rw c.in-ExtractMember.is c.leave_set.ensures.tells

pub returns-in-SetQlimit-clause-tells : goal.returns-in-SetQlimit-clause-tells
returns-in-SetQlimit-clause-tells c = rw c.in-SetQlimit.is (on_ok _ (λ reply. refl))

pub returns-in-SetMscount-clause-tells : goal.returns-in-SetMscount-clause-tells
returns-in-SetMscount-clause-tells c = rw c.in-SetMscount.is (on_ok _ (λ reply. c.requires.nothing))

pub returns-in-SetSeqno-clause-tells : goal.returns-in-SetSeqno-clause-tells
returns-in-SetSeqno-clause-tells c = rw c.in-SetSeqno.is (on_ok _ (λ reply. c.requires.nothing))

pub returns-in-InsertRight-clause-tells : goal.returns-in-InsertRight-clause-tells
returns-in-InsertRight-clause-tells c = let x = rw (c.new-to.ensures, c.new.ensures) at c.hand_in.ensures in rw c.in-InsertRight.is (on_ok _ (λ reply. x.tells))

pub returns-in-ExtractRight-clause-tells : goal.returns-in-ExtractRight-clause-tells
returns-in-ExtractRight-clause-tells c = let x = rw c.new-in-ExtractRight.ensures at c.hand_out.ensures in rw c.in-ExtractRight.is (on_ok _ (λ reply. x.tells))

pub returns-in-RequestNotification-clause-tells : goal.returns-in-RequestNotification-clause-tells
returns-in-RequestNotification-clause-tells c = rw c.in-RequestNotification.is (on_ok _ (λ reply. c.ask.ensures.tells))

pub returns-in-Receive-clause-tells : goal.returns-in-Receive-clause-tells
returns-in-Receive-clause-tells c = let x = rw c.new-in-Receive.ensures at c.receive.ensures in rw c.in-Receive.is x.tells

pub returns-in-ReceiveAgain-clause-tells : goal.returns-in-ReceiveAgain-clause-tells
returns-in-ReceiveAgain-clause-tells c = let x = rw c.new-in-ReceiveAgain.ensures at c.receive_again.ensures in rw c.in-ReceiveAgain.is x.tells

pub returns-in-Send-clause-tells : goal.returns-in-Send-clause-tells
returns-in-Send-clause-tells c = rw c.in-Send.is c.send.ensures.tells
