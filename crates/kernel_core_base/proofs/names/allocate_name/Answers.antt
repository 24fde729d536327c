use Rattle.std.proofs.Common.{refl, sym, subst}
use Rattle.mach_types.specs.declared.calls.Event.{Event}
use Rattle.copyin_base.specs.Changes.{SameButRoom}
use Rattle.copyin_base.proofs.Roomier.{place_kept, room_refl}
use Rattle.kernel_core_base.proofs.Allocated.{can_add_kept, allocate_name_done}
use Rattle.kernel_core_base.proofs.Refused.{no_memory}
use Rattle.kernel_core_base.proofs.names.allocate_name.Goals as goal

pub returns-in_err-reserve_name-clause-serves : goal.returns-in_err-reserve_name-clause-serves
returns-in_err-reserve_name-clause-serves c =
    no_memory c.args.world.now c.reserve_name.new.self (Event.AllocateName c.args.task c.args.right c.args.name) c.requires.there c.in_ok-made.ensures.ok (λ s. refl)
    c.from_residual-in_err-reserve_name.result _ c.from_residual-in_err-reserve_name.ensures
    (c.in_err-reserve_name.ensures.err.0, subst (SameButRoom c.args.world.now) (sym c.in_err-reserve_name.ensures.err.1) (room_refl c.args.world.now))

pub add_right-requires : goal.add_right-requires
add_right-requires c =
    can_add_kept c.args.world.now c.reserve_name.new.self c.requires.stands c.args.task c.in_ok-made.made c.args.name c.in_ok-made.ensures.made.room c.in_ok-reserve_name.ensures.ok
    c.in_ok-made.ensures.usable c.in_ok-made.ensures.unused

pub returns-in_err-add_right-clause-serves : goal.returns-in_err-add_right-clause-serves
returns-in_err-add_right-clause-serves c =
    no_memory c.args.world.now c.add_right.new.world (Event.AllocateName c.args.task c.args.right c.args.name) c.requires.there c.in_ok-made.ensures.ok (λ s. refl)
    c.from_residual-in_err-add_right.result _ c.from_residual-in_err-add_right.ensures
    (c.in_err-add_right.ensures.err.0, subst (SameButRoom c.args.world.now) (sym c.in_err-add_right.ensures.err.1) (place_kept c.args.world.now c.reserve_name.new.self c.args.task c.args.name c.in_ok-reserve_name.ensures.ok))

pub returns-clause-serves : goal.returns-clause-serves
returns-clause-serves c =
    allocate_name_done c.args.world.now c.reserve_name.new.self c.add_right.new.world (place_kept c.args.world.now c.reserve_name.new.self c.args.task c.args.name c.in_ok-reserve_name.ensures.ok)
    c.args.task c.args.right c.args.name c.in_ok-made.made c.requires.there c.in_ok-made.ensures.made.number_is
    c.in_ok-made.ensures.ok c.in_ok-made.ensures.unused c.in_ok-add_right.ensures.ok
